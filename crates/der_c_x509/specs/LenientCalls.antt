-- keyUsage and basicConstraints whose contents may be BER, as structs of C: `ReadsLenientUsage` and
-- `ReadsLenientConstraints`.
use Rattle.std.specs.Prelude.{◌≡◌, ℕ, Bool, true, List, Option, Some, None, Result, Ok, Err}
use Rattle.der_base.specs.Error.{error_of_kind}
use Rattle.der_base.specs.declared.error.ErrorKind.TheVariants.{Value}
use Rattle.der_base.specs.declared.tag.Tag.TheVariants.{Integer}
use Rattle.der_c_core.specs.ErrorCode.{no_error, error_code}
use Rattle.der_c_core.specs.declared.error.DerError.{DerError}
use Rattle.x509.specs.declared.asn1.basic_constraints.BasicConstraints.{BasicConstraints}
use Rattle.x509.specs.declared.find.known.Known.{Known}
use Rattle.x509.specs.declared.find.lenient.lenient.Lenient.{Lenient}
use Rattle.der_c_x509.specs.Constraints.{HasNoPathLength, IsConstraintsOf}
use Rattle.der_c_x509.specs.Known.{IsKeyUsageOf}
use Rattle.der_c_x509.specs.declared.basic_constraints.DerBasicConstraints.{DerBasicConstraints}
use Rattle.der_c_x509.specs.declared.key_usage.DerKeyUsage.{DerKeyUsage}

-- the extension without the flag
abbrev pub known_of : {A : Type 0} → Option (Lenient A) → Option (Known A)
known_of None = None
known_of (Some l) = Some (record { critical = l.critical; value = l.value })

-- whether the contents of the extension are DER; true if it is absent
abbrev pub is_der_of : {A : Type 0} → Option (Lenient A) → Bool
is_der_of None = true
is_der_of (Some l) = l.is_der

-- the extension is absent or found, and the struct and the flag are those of it; or there is an
-- error, and both are unchanged
pub data ReadsLenientUsage {A : Type 0} (octets_of : A → List ℕ)
    (finds : Result (Option (Lenient A)) DerError → Type 0) (result : DerError) (old new : DerKeyUsage)
    (was is : Bool) : Type 0 where
  found : (l : Option (Lenient A)) → finds (Ok l) → IsKeyUsageOf octets_of (known_of l) new
      → is ≡ is_der_of l → result ≡ no_error
      → ReadsLenientUsage octets_of finds result old new was is
  refused : finds (Err result) → new ≡ old → is ≡ was
      → ReadsLenientUsage octets_of finds result old new was is

-- likewise; a limit that is no number from 0 to 2^64 - 1 is an error
pub data ReadsLenientConstraints
    (finds : Result (Option (Lenient BasicConstraints)) DerError → Type 0) (result : DerError)
    (old new : DerBasicConstraints) (was is : Bool) : Type 0 where
  found : (l : Option (Lenient BasicConstraints)) → finds (Ok l) → IsConstraintsOf (known_of l) new
      → is ≡ is_der_of l → result ≡ no_error
      → ReadsLenientConstraints finds result old new was is
  no_number : (l : Option (Lenient BasicConstraints)) → finds (Ok l) → HasNoPathLength (known_of l)
      → result ≡ error_code (error_of_kind (Value Integer)) → new ≡ old → is ≡ was
      → ReadsLenientConstraints finds result old new was is
  refused : finds (Err result) → new ≡ old → is ≡ was
      → ReadsLenientConstraints finds result old new was is

-- basicConstraints as a struct of C (`IsConstraintsOf`; RFC 5280, 4.2.1.9), and the result of
-- reading it (`ReadsConstraints`).
use Rattle.std.specs.Prelude.{◌≡◌, ◌↔◌, ℕ, ◌^◌, Bool, true, false, List, [], ◌∷◌, Option, Some, None, Result, Ok, Err, MatchOption}
use Rattle.der_base.specs.Error.{error_of_kind}
use Rattle.der_base.specs.declared.error.ErrorKind.TheVariants.{Value}
use Rattle.der_base.specs.declared.tag.Tag.TheVariants.{Integer}
use Rattle.der_asn1.specs.Integer.{integer_octets, unsigned_form}
use Rattle.der_c_core.specs.ErrorCode.{no_error, error_code}
use Rattle.der_c_core.specs.declared.error.DerError.{DerError}
use Rattle.x509.specs.declared.asn1.basic_constraints.BasicConstraints.{BasicConstraints}
use Rattle.x509.specs.declared.find.known.Known.{Known}
use Rattle.der_c_x509.specs.declared.basic_constraints.DerBasicConstraints.{DerBasicConstraints}

-- the limit is absent, or the INTEGER of this number
abbrev pub IsPathLength : {A : Type 0} → (A → List ℕ) → Option A → Bool → ℕ → Type 0
IsPathLength octets_of None has n = (has ≡ false) × (n ≡ 0)
IsPathLength octets_of (Some v) has n = (has ≡ true) × (integer_octets false n ≡ octets_of v)

-- the limit is an INTEGER of no number from 0 to 2^64 - 1
abbrev pub IsNoPathLength : {A : Type 0} → (A → List ℕ) → Option A → Type 0
IsNoPathLength octets_of None = ⊥
IsNoPathLength octets_of (Some v) = unsigned_form (2 ^ 64) (octets_of v) ≡ false

-- the fields of the extension; if it is absent, nothing
abbrev pub IsConstraintsOf : Option (Known BasicConstraints) → DerBasicConstraints → Type 0
IsConstraintsOf None c =
    (c.present ≡ false) × (c.critical ≡ false) × (c.is_authority ≡ false)
    × (c.has_path_length ≡ false) × (c.path_length ≡ 0)
IsConstraintsOf (Some k) c =
    (c.present ≡ true) × (c.critical ≡ k.critical)
    × ((c.is_authority ≡ true) ↔ (k.value.ca.0.octets.now ≡ 255 ∷ []))
    × IsPathLength (λ v. v.octets.now) k.value.path_len_constraint.0 c.has_path_length c.path_length

-- the extension has a limit that is no number from 0 to 2^64 - 1
abbrev pub HasNoPathLength : Option (Known BasicConstraints) → Type 0
HasNoPathLength None = ⊥
HasNoPathLength (Some k) = IsNoPathLength (λ v. v.octets.now) k.value.path_len_constraint.0

-- the limit as a number, or `None` if it has none; the struct, or `None` if its limit has none
abbrev pub IsPathLengthAnswer : {A : Type 0} → (A → List ℕ) → Option A → Option (Bool × ℕ) → Type 0
IsPathLengthAnswer octets_of o result =
    MatchOption result (IsNoPathLength octets_of o) (λ p. IsPathLength octets_of o p.0 p.1)

abbrev pub IsConstraintsAnswer : Option (Known BasicConstraints) → Option DerBasicConstraints
    → Type 0
IsConstraintsAnswer k result = MatchOption result (HasNoPathLength k) (λ c. IsConstraintsOf k c)

-- the extension is absent or found, and the struct is that of it; or there is an error, and the
-- struct is unchanged
pub data ReadsConstraints
    (finds : Result (Option (Known BasicConstraints)) DerError → Type 0) (result : DerError)
    (old new : DerBasicConstraints) : Type 0 where
  found : (k : Option (Known BasicConstraints)) → finds (Ok k) → IsConstraintsOf k new
      → result ≡ no_error → ReadsConstraints finds result old new
  no_number : (k : Option (Known BasicConstraints)) → finds (Ok k) → HasNoPathLength k
      → result ≡ error_code (error_of_kind (Value Integer)) → new ≡ old
      → ReadsConstraints finds result old new
  refused : finds (Err result) → new ≡ old → ReadsConstraints finds result old new

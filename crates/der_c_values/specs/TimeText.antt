-- The result of `der_time_text` (`GivesTimeText`).
use Rattle.std.specs.Prelude.{◌≡◌, ℕ, ◌+◌, ◌≤◌, true, false, List, ◌∷◌, ◌++◌, length, drop}
use Rattle.der_base.specs.Error.{error_of_kind}
use Rattle.der_base.specs.declared.error.ErrorKind.TheVariants.{Overlength, DateTime as NoDateTime}
use Rattle.der_asn1.specs.DateTimeText.{date_time_text}
use Rattle.der_asn1.specs.Times.{is_date_time}
use Rattle.der_asn1.specs.declared.times.date_time.DateTime.{DateTime}
use Rattle.der_c_core.specs.ErrorCode.{no_error, error_code}
use Rattle.der_c_core.specs.declared.error.DerError.{DerError}

-- there is no such time; or there is no space for its text and a zero octet; or these are written,
-- and the octets after them are unchanged
pub data GivesTimeText (t : DateTime) (result : DerError) (old new : List ℕ) (before after : ℕ)
    : Type 0 where
  no_time : is_date_time t ≡ false → result ≡ error_code (error_of_kind NoDateTime) → new ≡ old
      → after ≡ before → GivesTimeText t result old new before after
  no_space : is_date_time t ≡ true → length old ≤ length (date_time_text t)
      → result ≡ error_code (error_of_kind Overlength) → new ≡ old → after ≡ before
      → GivesTimeText t result old new before after
  succeeds : is_date_time t ≡ true → result ≡ no_error → after ≡ length (date_time_text t)
      → new ≡ date_time_text t ++ (0 ∷ drop (after + 1) old)
      → GivesTimeText t result old new before after

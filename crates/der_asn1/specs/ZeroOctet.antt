-- The first contents octet of a BIT STRING without unused bits, which is zero (X.690 8.6.2.2).
use Rattle.std.specs.Prelude.{◌≡◌, ◌==◌, ℕ, List, ◌∷◌, Ok, if◌then◌else◌}
use Rattle.der.specs.Prelude.{BitString, EncodingRules, ReaderState}
use Rattle.der.specs.ErrorKinds.{Value}
use Rattle.der.specs.Outcome.{Outcome, chained_outcome, outcome_of}
use Rattle.der.specs.Reader.{kind_outcome, read_byte_outcome}

-- the first of the octets is zero
pub record ZeroNext (rules : EncodingRules) (octets : List ℕ) (m : ℕ) : Type 0 where
  pub following : List ℕ
  pub split : octets ≡ 0 ∷ following
  pub whole : m ≡ 1

-- the outcome after an octet was read, which must be zero
abbrev pub must_be_zero : ℕ → ReaderState → Outcome (Unit {0})
must_be_zero o s =
    if o == 0 then outcome_of (Ok tt) s else kind_outcome (Unit {0}) (Value BitString) s

abbrev pub zero_octet_outcome : ReaderState → Outcome (Unit {0})
zero_octet_outcome s = chained_outcome (read_byte_outcome s) must_be_zero

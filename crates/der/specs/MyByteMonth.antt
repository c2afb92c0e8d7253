-- A month as one octet: the valid ones (`IsMonth`), which contents are accepted (`TakesMonth`), and
-- the possible results of reading and writing one (`MonthRead`, `MonthWritten`).
use Rattle.std.specs.Prelude.{◌≡◌, ℕ, ◌<◌, List, [], ◌∷◌, Result, Ok, nat_lt, if◌then◌else◌}
use Rattle.std.proofs.Common.{arith}
use Rattle.der_base.specs.HeaderGrammar.{Head}
use Rattle.der_base.specs.Length.{definite_length}
use Rattle.der_base.specs.declared.length.Length.{Length}
use Rattle.der_base.specs.declared.tag.Tag.TheVariants.{OctetString}
use Rattle.der_base.specs.declared.error.Error.{Error}
use Rattle.der_base.specs.declared.error.ErrorKind.TheVariants.{DateTime}
use Rattle.der_base.specs.declared.encoding_rules.EncodingRules.{EncodingRules}
use Rattle.der_core.specs.Encode.{WriterAnswer}
use Rattle.der_core.specs.Lawful.{IsLawful}
use Rattle.der_core.specs.Outcome.{Outcome, Gives, outcome_of, chained_outcome, map_ok}
use Rattle.der_core.specs.Reader.{read_byte_outcome, kind_outcome}
use Rattle.der_core.specs.ReaderState.{ReaderState}
use Rattle.der_core.specs.Writer.{Writes, write_outcome}
use Rattle.der.specs.declared.example.my_byte_month.MyByteMonth.{MyByteMonth}

abbrev pub IsMonth : MyByteMonth → Type 0
IsMonth month = month.number < 12

abbrev pub month_contents : MyByteMonth → List ℕ
month_contents month = month.number ∷ []

-- one octet below 12 is accepted as the month with that number, whatever the header
abbrev pub TakesMonth : MyByteMonth → EncodingRules → Head → List ℕ → Type 0
TakesMonth month rules h octets = IsMonth month × (month_contents month ≡ octets)

-- 12 or more is an error at the position after the octet
abbrev pub month_of : ℕ → ReaderState → Outcome ℕ
month_of octet s = if nat_lt octet 12 then outcome_of (Ok octet) s else kind_outcome ℕ DateTime s

abbrev pub month_outcome : ReaderState → Outcome ℕ
month_outcome s = chained_outcome (read_byte_outcome s) month_of

-- the possible results of reading
abbrev pub MonthRead : Head → ReaderState → Result MyByteMonth Error → ReaderState → Type 0
MonthRead h s result t = Gives month_outcome s (map_ok (λ month. month.number) result) t

-- the number of octets, and the possible results of writing
abbrev pub month_size : MyByteMonth → Result Length Error
month_size month = Ok (definite_length 1)

abbrev pub MonthWritten : MyByteMonth → WriterAnswer
MonthWritten month s result t = Writes (write_outcome (month_contents month) s) result t

-- this type is lawful: decoding inverts encoding
pub month_lawful : IsLawful OctetString TakesMonth IsMonth month_contents (λ _. 0)
month_lawful =
    record {
      exact = λ octets month short. (λ h. h, λ h. h);
      shallow = omega arith;
      numbered = omega arith;
    }

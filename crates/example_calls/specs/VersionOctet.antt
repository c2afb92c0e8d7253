-- A version of a certificate, as an INTEGER of one octet (RFC 5280, 4.1.2.1): its number and its
-- contents, what is accepted as one, the results of reading and writing, and the law.
use Rattle.std.specs.Prelude.{◌≡◌, ℕ, List, [], ◌∷◌, Result, Ok, nat_lt, if◌then◌else◌}
use Rattle.std.proofs.Common.{arith}
use Rattle.der.specs.ErrorKinds.{Value}
use Rattle.der.specs.Outcome.{Outcome, chained_outcome, outcome_of}
use Rattle.der.specs.Prelude.{EncodingRules, Error, Gives, Head, Integer, IsLawful, Length, ReaderState, WriterAnswer, Writes, definite_length, map_ok, write_outcome}
use Rattle.der.specs.Reader.{kind_outcome, read_byte_outcome}
use Rattle.example_calls.specs.declared.version.Version.{Version}
use Rattle.example_calls.specs.declared.version.Version.TheVariants.{V1, V2, V3}

abbrev pub octet_of_version : Version → ℕ
octet_of_version V1 = 0
octet_of_version V2 = 1
octet_of_version V3 = 2

abbrev pub version_contents : Version → List ℕ
version_contents v = octet_of_version v ∷ []

-- each version is a value
abbrev pub IsVersion : Version → Type 0
IsVersion v = Unit {0}

-- contents are accepted as a version if they are one octet, its number, whatever the header
abbrev pub TakesVersion : Version → EncodingRules → Head → List ℕ → Type 0
TakesVersion v rules h octets = version_contents v ≡ octets

-- an octet from 3 on is an error, at the position after it
abbrev pub version_of_octet : ℕ → ReaderState → Outcome ℕ
version_of_octet octet s =
    if nat_lt octet 3 then outcome_of (Ok octet) s else kind_outcome ℕ (Value Integer) s

abbrev pub version_outcome : ReaderState → Outcome ℕ
version_outcome s = chained_outcome (read_byte_outcome s) version_of_octet

-- the result of reading a version
abbrev pub VersionRead : Head → ReaderState → Result Version Error → ReaderState → Type 0
VersionRead h s result t = Gives version_outcome s (map_ok octet_of_version result) t

-- the number of octets of a version, and the result of writing it
abbrev pub version_size : Version → Result Length Error
version_size v = Ok (definite_length 1)

abbrev pub VersionWritten : Version → WriterAnswer
VersionWritten v s result t = Writes (write_outcome (version_contents v) s) result t

-- a version is read exactly as it is written
pub version_lawful : IsLawful Integer TakesVersion IsVersion version_contents (λ _. 0)
version_lawful =
    record {
      exact = λ octets v short. (λ h. (tt, h), λ h. h.1);
      shallow = omega arith;
      numbered = omega arith;
    }

-- An algorithm and a month, in sequence.
use Rattle.std.specs.Prelude.{◌≡◌, ℕ, true, List, ◌++◌, Result}
use Rattle.std.proofs.Common.{arith}
use Rattle.der.specs.Prelude.{Head, Length, OctetString, Sequence, Error, EncodingRules, ElementNext, ElementRead, element_levels, WriterAnswer, ElementWritten, element_octets, element_size, FieldsNext, FieldsRead, FieldsWritten, TakesWhole, fields_levels, fields_size, IsLawful, map_ok, ReaderState}
use Rattle.der.specs.ElementSpec.{ElementSpec}
use Rattle.der.specs.LawfulLemmas.{contents_lawful, fields_are_encodings, elements_are_encodings}
use Rattle.example_calls.specs.MyOctets.{IsMyOctets, AcceptsMyOctets, MyOctetsRead, MyOctetsWritten, my_octets_contents, my_octets_size, my_octets_lawful}
use Rattle.der.specs.MyByteMonth.{IsMonth, TakesMonth, MonthRead, MonthWritten, month_contents, month_size, month_lawful}
use Rattle.example_calls.specs.declared.my_octets.MyOctets.{MyOctets}
use Rattle.der.specs.declared.example.my_byte_month.MyByteMonth.{MyByteMonth}
use Rattle.example_calls.specs.declared.algorithm_identifier.AlgorithmIdentifier.{AlgorithmIdentifier}

abbrev pub identifier_fields : AlgorithmIdentifier → MyOctets × MyByteMonth
identifier_fields v = (v.algorithm, v.month)

abbrev pub IsAlgorithm : AlgorithmIdentifier → Type 0
IsAlgorithm v = IsMyOctets v.algorithm × IsMonth v.month

abbrev pub algorithm_contents : AlgorithmIdentifier → List ℕ
algorithm_contents v =
    element_octets OctetString (my_octets_contents v.algorithm)
    ++ element_octets OctetString (month_contents v.month)

-- contents are accepted as an identifier if they are its two elements
abbrev pub TakesAlgorithm : AlgorithmIdentifier → EncodingRules → Head → List ℕ → Type 0
TakesAlgorithm v =
    TakesWhole (FieldsNext (ElementNext OctetString AcceptsMyOctets)
    (ElementNext OctetString TakesMonth)) (identifier_fields v)

abbrev pub algorithm_levels : EncodingRules → ℕ
algorithm_levels = fields_levels (element_levels (λ _. 0)) (element_levels (λ _. 0))

-- the result of reading: both fields, or the first error
abbrev pub AlgorithmRead : Head → ReaderState → Result AlgorithmIdentifier Error → ReaderState
    → Type 0
AlgorithmRead h s result t =
    FieldsRead (ElementRead OctetString (λ e f. f ≡ e) MyOctetsRead)
    (ElementRead OctetString (λ e f. f ≡ e) MonthRead) s (map_ok identifier_fields result) t

-- the number of octets, and the result of writing
abbrev pub algorithm_size : AlgorithmIdentifier → Result Length Error
algorithm_size v =
    fields_size (element_size OctetString (my_octets_size v.algorithm))
    (element_size OctetString (month_size v.month))

abbrev pub AlgorithmWritten : AlgorithmIdentifier → WriterAnswer
AlgorithmWritten v =
    FieldsWritten
    (ElementWritten OctetString (my_octets_size v.algorithm) (MyOctetsWritten v.algorithm))
    (ElementWritten OctetString (month_size v.month) (MonthWritten v.month))

-- such a SEQUENCE is read exactly as it is written
pub algorithm_lawful : IsLawful Sequence TakesAlgorithm IsAlgorithm algorithm_contents
    algorithm_levels
algorithm_lawful =
    contents_lawful Sequence algorithm_levels identifier_fields
    (fields_are_encodings (elements_are_encodings my_octets_lawful)
    (elements_are_encodings month_lawful)) (omega arith) (omega arith)

-- the specification of the SEQUENCE
abbrev pub algorithm_element : ElementSpec AlgorithmIdentifier
algorithm_element =
    record {
      tag = Sequence;
      takes = TakesAlgorithm;
      valid = IsAlgorithm;
      contents = algorithm_contents;
      levels = algorithm_levels;
      is_compatible = true;
      lawful = λ e. algorithm_lawful;
      holds = λ e v rules h octets taken. (tt, taken.following.taken.0);
    }

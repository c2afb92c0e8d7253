-- A key after the identifier of its algorithm.
use Rattle.std.specs.Prelude.{◌≡◌, ℕ, true, List, ◌++◌, Result}
use Rattle.std.proofs.Common.{arith}
use Rattle.der.specs.Prelude.{Head, Length, OctetString, Sequence, Error, EncodingRules, ElementNext, ElementRead, element_levels, WriterAnswer, ElementWritten, element_octets, element_size, FieldsNext, FieldsRead, FieldsWritten, TakesWhole, fields_levels, fields_size, IsLawful, map_ok, ReaderState}
use Rattle.der.specs.ElementSpec.{ElementSpec}
use Rattle.der.specs.LawfulLemmas.{contents_lawful, fields_are_encodings, elements_are_encodings}
use Rattle.example_calls.specs.MyOctets.{IsMyOctets, AcceptsMyOctets, MyOctetsRead, MyOctetsWritten, my_octets_contents, my_octets_size, my_octets_lawful}
use Rattle.example_calls.specs.AlgorithmIdentifier.{IsAlgorithm, TakesAlgorithm, AlgorithmRead, AlgorithmWritten, algorithm_contents, algorithm_levels, algorithm_size, algorithm_lawful}
use Rattle.example_calls.specs.declared.my_octets.MyOctets.{MyOctets}
use Rattle.example_calls.specs.declared.algorithm_identifier.AlgorithmIdentifier.{AlgorithmIdentifier}
use Rattle.example_calls.specs.declared.key_info.KeyInfo.{KeyInfo}

abbrev pub key_info_fields : KeyInfo → AlgorithmIdentifier × MyOctets
key_info_fields v = (v.algorithm, v.key)

abbrev pub IsKeyInfo : KeyInfo → Type 0
IsKeyInfo v = IsAlgorithm v.algorithm × IsMyOctets v.key

abbrev pub key_info_contents : KeyInfo → List ℕ
key_info_contents v =
    element_octets Sequence (algorithm_contents v.algorithm)
    ++ element_octets OctetString (my_octets_contents v.key)

-- contents are accepted as a key if they are its two elements
abbrev pub TakesKeyInfo : KeyInfo → EncodingRules → Head → List ℕ → Type 0
TakesKeyInfo v =
    TakesWhole (FieldsNext (ElementNext Sequence TakesAlgorithm)
    (ElementNext OctetString AcceptsMyOctets)) (key_info_fields v)

abbrev pub key_info_levels : EncodingRules → ℕ
key_info_levels = fields_levels (element_levels algorithm_levels) (element_levels (λ _. 0))

-- the result of reading: both fields, or the first error
abbrev pub KeyInfoRead : Head → ReaderState → Result KeyInfo Error → ReaderState → Type 0
KeyInfoRead h s result t =
    FieldsRead (ElementRead Sequence (λ e f. f ≡ e) AlgorithmRead)
    (ElementRead OctetString (λ e f. f ≡ e) MyOctetsRead) s (map_ok key_info_fields result) t

-- the number of octets, and the result of writing
abbrev pub key_info_size : KeyInfo → Result Length Error
key_info_size v =
    fields_size (element_size Sequence (algorithm_size v.algorithm))
    (element_size OctetString (my_octets_size v.key))

abbrev pub KeyInfoWritten : KeyInfo → WriterAnswer
KeyInfoWritten v =
    FieldsWritten
    (ElementWritten Sequence (algorithm_size v.algorithm) (AlgorithmWritten v.algorithm))
    (ElementWritten OctetString (my_octets_size v.key) (MyOctetsWritten v.key))

-- such a SEQUENCE is read exactly as it is written
pub key_info_lawful : IsLawful Sequence TakesKeyInfo IsKeyInfo key_info_contents key_info_levels
key_info_lawful =
    contents_lawful Sequence key_info_levels key_info_fields
    (fields_are_encodings (elements_are_encodings algorithm_lawful)
    (elements_are_encodings my_octets_lawful)) (omega arith) (omega arith)

-- the specification of the SEQUENCE
abbrev pub key_info_element : ElementSpec KeyInfo
key_info_element =
    record {
      tag = Sequence;
      takes = TakesKeyInfo;
      valid = IsKeyInfo;
      contents = key_info_contents;
      levels = key_info_levels;
      is_compatible = true;
      lawful = λ e. key_info_lawful;
      holds = λ e v rules h octets taken. ((tt, taken.next.taken.following.taken.0), tt);
    }

-- The results of writing a value in C (`WritesValue`), and of a BIT STRING, whose contents are two
-- writes (`WritesBits`). `RefusesNoValue` is the result where there is no such value.
use Rattle.std.specs.Prelude.{◌≡◌, ◌≢◌, ℕ, ◌+◌, ◌^◌, ◌<◌, ◌≤◌, Bool, true, false, List, [], ◌∷◌, length, if◌then◌else◌}
use Rattle.der_base.specs.Error.{error_at, error_of_kind}
use Rattle.der_base.specs.declared.error.ErrorKind.TheVariants.{Failed, Overflow, TagNumberInvalid}
use Rattle.der_base.specs.declared.tag.Tag.{Tag}
use Rattle.der_core.specs.Writer.{WriterState, writer_position, failed_state}
use Rattle.der_asn1.specs.Forms.{bits_form}
use Rattle.der_c_core.specs.ErrorCode.{no_error, error_code}
use Rattle.der_c_core.specs.TagWord.{IsTagWord, NoTagWord}
use Rattle.der_c_core.specs.WriterCalls.{WritesOctets, WritesHeader, WritesElement}
use Rattle.der_c_core.specs.declared.error.DerError.{DerError}
use Rattle.der_c_values.specs.ValueCalls.{value_code}

-- nothing is written: the error is this one, or `Failed` if the writer had failed; the writer has
-- failed
pub record RefusesWrite (code : DerError) (s : WriterState) (result : DerError) (t : WriterState)
    : Type 0 where
  pub reported : result ≡ (if s.failed then error_code (error_at Failed (writer_position s))
      else code)
  pub leaves : t ≡ failed_state s

-- there is no such value: the error is `Value` with the tag of the word, or that the word is that of no
-- tag
pub data RefusesNoValue (word : ℕ) (s : WriterState) (result : DerError) (t : WriterState)
    : Type 0 where
  of_tag : (tag : Tag) → IsTagWord word tag → RefusesWrite (value_code word) s result t
      → RefusesNoValue word s result t
  no_tag : NoTagWord word → RefusesWrite (error_code (error_of_kind TagNumberInvalid)) s result t
      → RefusesNoValue word s result t

-- there is no value with these contents; or there is, and an element with them is written
pub data WritesValue (is_value : Bool) (octets : List ℕ) (word : ℕ) (s : WriterState)
    (result : DerError) (t : WriterState) : Type 0 where
  no_value : is_value ≡ false → RefusesNoValue word s result t
      → WritesValue is_value octets word s result t
  of_value : is_value ≡ true → WritesElement word octets s result t
      → WritesValue is_value octets word s result t

-- the results of two calls, the second made only if the first succeeds
pub data WritesThen (First Second : WriterState → DerError → WriterState → Type 0)
    (s : WriterState) (result : DerError) (t : WriterState) : Type 0 where
  refused : First s result t → result ≢ no_error → WritesThen First Second s result t
  passed : (u : WriterState) → First s no_error u → Second u result t
      → WritesThen First Second s result t

-- a header, the octet of the number of unused bits, and the octets of the bits are written, by one
-- write each
abbrev pub WritesBitsElement : ℕ → ℕ → List ℕ → WriterState → DerError → WriterState → Type 0
WritesBitsElement word unused octets =
    WritesThen (WritesHeader word (1 + length octets))
    (WritesThen (WritesOctets (unused ∷ [])) (WritesOctets octets))

-- there are no such bits; or their contents are longer than any length; or an element with them is
-- written
pub data WritesBits (unused : ℕ) (octets : List ℕ) (word : ℕ) (s : WriterState)
    (result : DerError) (t : WriterState) : Type 0 where
  no_value : bits_form (unused ∷ octets) ≡ false → RefusesNoValue word s result t
      → WritesBits unused octets word s result t
  too_long : bits_form (unused ∷ octets) ≡ true → 2 ^ 32 ≤ 1 + length octets
      → RefusesWrite (error_code (error_of_kind Overflow)) s result t
      → WritesBits unused octets word s result t
  of_value : bits_form (unused ∷ octets) ≡ true → 1 + length octets < 2 ^ 32
      → WritesBitsElement word unused octets s result t
      → WritesBits unused octets word s result t

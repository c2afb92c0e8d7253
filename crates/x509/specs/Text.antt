-- The characters of strings (X.680 41), as text in UTF-8.
use Rattle.std.specs.Prelude.{ℕ, ◌+◌, ◌*◌, Bool, List, [], ◌∷◌, Option, Some, None, if◌then◌else◌}
use Rattle.std.specs.Str.{IsAscii, encode_utf8_all, is_utf8}
use Rattle.der.specs.Prelude.{Tag, Utf8String, NumericString, PrintableString, TeletexString}
use Rattle.der.specs.Prelude.{Ia5String, VisibleString, BmpString}
use Rattle.der_asn1.specs.Alphabets.{bmp_form, numeric_form, visible_form}
use Rattle.der_asn1.specs.Forms.{ia5_form, printable_form}
use Rattle.x509.specs.declared.text.string_text.Text.{Text}
use Rattle.x509.specs.declared.text.string_text.Text.TheVariants.{Utf8, Latin1, Bmp}

-- the characters of whole codes of two octets each, the more significant octet first
abbrev pub bmp_characters : List ℕ → List ℕ
bmp_characters [] = []
bmp_characters (o ∷ []) = []
bmp_characters (o ∷ p ∷ os) = (256 * o + p) ∷ bmp_characters os

-- in ISO 8859-1 each octet is the code of a character
abbrev pub latin1_text : List ℕ → List ℕ
latin1_text octets = encode_utf8_all octets

abbrev pub bmp_text : List ℕ → List ℕ
bmp_text octets = encode_utf8_all (bmp_characters octets)

-- the text
abbrev pub text_octets : Text → List ℕ
text_octets (Utf8 v) = v.octets.now
text_octets (Latin1 v) = latin1_text v.octets.now
text_octets (Bmp v) = bmp_text v.octets.now

-- the text is not octets of UTF-8: there is a character of ISO 8859-1 that is not one of ASCII, or
-- the characters have two octets
abbrev pub IsTextOfOther : Text → Type 0
IsTextOfOther (Utf8 v) = ⊥
IsTextOfOther (Latin1 v) = IsAscii v.octets.now → ⊥
IsTextOfOther (Bmp v) = Unit {0}

abbrev pub found_text : Option Text → Option (List ℕ)
found_text None = None
found_text (Some v) = Some (text_octets v)

-- the text, if a check holds
abbrev pub text_if : Bool → List ℕ → Option (List ℕ)
text_if holds text = if holds then Some text else None

-- the text of an element with this tag and these contents, if it is a string whose characters are
-- known: the contents of a TeletexString are read as ISO 8859-1
abbrev pub string_text : Tag → List ℕ → Option (List ℕ)
string_text Utf8String octets = text_if (is_utf8 octets) octets
string_text NumericString octets = text_if (numeric_form octets) (latin1_text octets)
string_text PrintableString octets = text_if (printable_form octets) (latin1_text octets)
string_text TeletexString octets = Some (latin1_text octets)
string_text Ia5String octets = text_if (ia5_form octets) (latin1_text octets)
string_text VisibleString octets = text_if (visible_form octets) (latin1_text octets)
string_text BmpString octets = text_if (bmp_form octets) (bmp_text octets)
string_text _ octets = None

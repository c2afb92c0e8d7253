-- String types as C names them, by the word of their universal tag (X.680 8.6): `is_string_type`,
-- and the form of their contents (`string_form`; X.680 41, X.690 8.23). `IsTextOf` is what a text
-- of C has of contents.
use Rattle.std.specs.Prelude.{◌≡◌, ℕ, ◌==◌, ◌||◌, Bool, false, List, if◌then◌else◌}
use Rattle.std.specs.Str.{is_utf8}
use Rattle.der_asn1.specs.Alphabets.{bmp_form, numeric_form, visible_form}
use Rattle.der_asn1.specs.Forms.{ia5_form, octets_form, printable_form}
use Rattle.der_c_values.specs.declared.text.DerText.{DerText}

-- UTF8String, NumericString, PrintableString, TeletexString, IA5String, VisibleString, BMPString
abbrev pub is_string_type : ℕ → Bool
is_string_type word =
    (word == 12) || (word == 18) || (word == 19) || (word == 20) || (word == 22) || (word == 26)
    || (word == 30)

-- whether octets are characters of the type
abbrev pub string_form : ℕ → List ℕ → Bool
string_form word octets =
    if word == 12 then is_utf8 octets
    else if word == 18 then numeric_form octets
    else if word == 19 then printable_form octets
    else if word == 20 then octets_form octets
    else if word == 22 then ia5_form octets
    else if word == 26 then visible_form octets
    else if word == 30 then bmp_form octets
    else false

-- the octets of a text are these contents, and its type is this one
abbrev pub IsTextOf : ℕ → List ℕ → DerText → Type 0
IsTextOf word octets text = (text.octets.now ≡ octets) × (text.string_type ≡ word)

-- Values as text: contents octets in hexadecimal (`octets_text`), after the name of the type
-- (`value_text`), and the alternatives of a CHOICE (`either_text`).
use Rattle.std.specs.Prelude.{ℕ, ◌/◌, ◌%◌, true, List, [], ◌∷◌, ◌++◌, Option, codes}
use Rattle.std.specs.Fmt.{debug_variant, digit_glyph}
use Rattle.std.specs.List.{flat_map}
use Rattle.der.specs.Prelude.{Tag}
use Rattle.der.specs.Text.{tag_text}
use Rattle.der_asn1.specs.declared.fields.either.Either.{Either}
use Rattle.der_asn1.specs.declared.fields.either.Either.TheVariants.{First, Second}

-- an octet as two digits, the letters in upper case
abbrev pub octet_text : ℕ → List ℕ
octet_text o = digit_glyph true (o / 16) ∷ digit_glyph true (o % 16) ∷ []

-- octets one after the other, with nothing between them
abbrev pub octets_text : List ℕ → List ℕ
octets_text octets = flat_map octet_text octets

-- a value, by its tag and its contents octets: `INTEGER(2A)`
abbrev pub value_text : Tag → List ℕ → List ℕ
value_text tag octets = tag_text tag ++ (codes "(" ++ (octets_text octets ++ codes ")"))

-- the name of the alternative, and the text of its value in parentheses
abbrev pub either_text : {A B : Type 0} → (A → Option (List ℕ)) → (B → Option (List ℕ))
    → Either A B
    → Option (List ℕ)
either_text text other (First v) = debug_variant (codes "First") (text v)
either_text text other (Second v) = debug_variant (codes "Second") (other v)

-- Characters of texts of C (`IsCharacter`, `character_octets`), and the result of
-- `der_next_character` (`TakesCharacter`).
use Rattle.std.specs.Prelude.{◌≡◌, ℕ, ◌/◌, ◌%◌, ◌^◌, ◌<◌, ◌==◌, Bool, true, false, List, [], ◌∷◌, ◌++◌, if◌then◌else◌, encode_utf8}
use Rattle.std.specs.Char.{IsScalar}
use Rattle.der_c_values.specs.StringTypes.{is_string_type}
use Rattle.der_c_values.specs.declared.text.DerText.{DerText}

-- the characters of a string type are those below this number: all of Unicode, the Basic
-- Multilingual Plane, or ISO 8859-1
abbrev pub character_limit : ℕ → ℕ
character_limit word =
    if word == 12 then 1114112
    else if word == 30 then 2 ^ 16
    else if is_string_type word then 256
    else 0

abbrev pub IsCharacter : ℕ → ℕ → Type 0
IsCharacter word c = IsScalar c × (c < character_limit word)

-- a character in a string of the type: in UTF-8; in two octets, the more significant first; or in
-- one octet (X.690 8.23)
abbrev pub character_octets : ℕ → ℕ → List ℕ
character_octets word c =
    if word == 12 then encode_utf8 c
    else if word == 30 then (c / 256) ∷ (c % 256) ∷ []
    else c ∷ []

-- the octets of the text begin with a character, which is removed and returned; or they begin with
-- none, and nothing changes
pub data TakesCharacter (old : DerText) (result : Bool) (before after : ℕ) (new : DerText)
    : Type 0 where
  taken : (c : ℕ) (more : List ℕ) → IsCharacter old.string_type c
      → old.octets.now ≡ character_octets old.string_type c ++ more → result ≡ true → after ≡ c
      → new.octets.now ≡ more → new.string_type ≡ old.string_type
      → TakesCharacter old result before after new
  none : ((c : ℕ) (more : List ℕ) → IsCharacter old.string_type c
      → old.octets.now ≡ character_octets old.string_type c ++ more → ⊥) → result ≡ false
      → after ≡ before → new ≡ old → TakesCharacter old result before after new

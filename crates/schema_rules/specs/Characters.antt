-- The characters of strings, as codes, and the sizes of values (X.680 51.5, 51.7).
use Rattle.std.specs.Prelude.{◌≡◌, ℕ, ◌+◌, ◌*◌, ◌<◌, ◌≤◌, ◌&&◌, Bool, true, false, nat_le, List, [], ◌∷◌, length}
use Rattle.std.specs.Prelude.{if◌then◌else◌}
use Rattle.std.specs.Str.{is_utf8, chars}
use Rattle.ber.specs.declared.universal.Universal.{Universal}
use Rattle.ber.specs.declared.universal.Universal.TheVariants.{BitString, Utf8String, UniversalString, BmpString}
use Rattle.der_asn1.specs.NamedBits.{bit_count, has_bit}
use Rattle.schema_rules.specs.declared.codes.Codes.{Codes}
use Rattle.schema_rules.specs.declared.codes.Codes.TheVariants.{Octets, Pairs, Fours, Text}

-- codes of two octets, and of four; octets of a code that is not whole are left out
abbrev pub codes_of_two : List ℕ → List ℕ
codes_of_two [] = []
codes_of_two (a ∷ []) = []
codes_of_two (a ∷ b ∷ os) = (a * 256 + b) ∷ codes_of_two os

abbrev pub codes_of_four : List ℕ → List ℕ
codes_of_four [] = []
codes_of_four (a ∷ []) = []
codes_of_four (a ∷ b ∷ []) = []
codes_of_four (a ∷ b ∷ c ∷ []) = []
codes_of_four (a ∷ b ∷ c ∷ d ∷ os) =
    (((a * 256 + b) * 256 + c) * 256 + d) ∷ codes_of_four os

-- the codes of the characters of contents: those of a UTF8String, if it is UTF-8, of two octets
-- each for a BMPString, of four for a UniversalString, and of one for any other type
abbrev pub characters_of : Universal → List ℕ → List ℕ
characters_of Utf8String octets = if is_utf8 octets then chars octets else octets
characters_of BmpString octets = codes_of_two octets
characters_of UniversalString octets = codes_of_four octets
characters_of universal octets = octets

-- the codes that are left of those
abbrev pub codes_left : Codes → List ℕ
codes_left (Octets octets) = octets.now
codes_left (Pairs octets) = codes_of_two octets.now
codes_left (Fours octets) = codes_of_four octets.now
codes_left (Text text) = chars text.now

-- the size of contents: the bits of a BIT STRING, the characters of a character string, the octets
-- of any other type
abbrev pub size_of : Universal → List ℕ → ℕ
size_of BitString octets = bit_count octets
size_of universal octets = length (characters_of universal octets)

-- each bit of a BIT STRING from this one on is zero; bit 0 is the first (X.690 8.6.2)
abbrev pub AreZeroFrom : ℕ → List ℕ → Type 0
AreZeroFrom first octets = (n : ℕ) → first ≤ n → n < bit_count octets → has_bit n octets ≡ false

-- a code is in one of the ranges, both ends included
abbrev pub is_in_ranges : List (ℕ × ℕ) → ℕ → Bool
is_in_ranges [] code = false
is_in_ranges (r ∷ rs) code =
    if nat_le r.0 code && nat_le code r.1 then true else is_in_ranges rs code

-- each code is
abbrev pub are_in_ranges : List (ℕ × ℕ) → List ℕ → Bool
are_in_ranges ranges [] = true
are_in_ranges ranges (code ∷ cs) =
    if is_in_ranges ranges code then are_in_ranges ranges cs else false

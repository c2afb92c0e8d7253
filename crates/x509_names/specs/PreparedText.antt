-- Texts of names, prepared for comparison (RFC 5280, 7.1; RFC 4518): `TextsMatch`. Letters of ASCII
-- have no case, and spaces count only between other characters, as one space. The tables of
-- RFC 4518 for characters beyond ASCII are no part of it.
use Rattle.std.specs.Prelude.{◌≡◌, ◌||◌, ◌&&◌, ◌==◌, ℕ, Bool, List, [], ◌∷◌, if◌then◌else◌, nat_lt}
use Rattle.std.specs.Prelude.{true, slice_index, EachIndex}
use Rattle.std.specs.Char.{to_ascii_lowercase}

-- a space, or one of the five controls that become a space (RFC 4518, 2.2)
abbrev pub is_space : ℕ → Bool
is_space o = (o == 32) || (nat_lt 8 o && nat_lt o 14)

-- a prepared text with a space before it: none at the end, and no second one
abbrev pub spaced : List ℕ → List ℕ
spaced [] = []
spaced (o ∷ os) = if o == 32 then o ∷ os else 32 ∷ o ∷ os

-- small letters, one space for several, and no space at the end
abbrev pub squeezed : List ℕ → List ℕ
squeezed [] = []
squeezed (o ∷ os) =
    if is_space o then spaced (squeezed os) else to_ascii_lowercase o ∷ squeezed os

-- the same with one space at the beginning, unless there are spaces alone (RFC 4518, 2.6.1)
abbrev pub prepared : List ℕ → List ℕ
prepared octets = spaced (squeezed octets)

-- a character whose preparation here is that of RFC 4518: a space, or a printed one of ASCII. The
-- RFC drops other controls (2.2), and has tables for characters beyond ASCII
abbrev pub is_plain_character : ℕ → Bool
is_plain_character o = is_space o || nat_lt 32 o && nat_lt o 127

abbrev pub IsPlainText : List ℕ → Type 0
IsPlainText octets = EachIndex octets (λ k. is_plain_character (slice_index octets k) ≡ true)

-- two texts are the same after preparation
abbrev pub TextsMatch : List ℕ → List ℕ → Type 0
TextsMatch first second = prepared first ≡ prepared second

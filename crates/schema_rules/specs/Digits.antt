-- Digits in texts (ISO/IEC 646): how many a text begins with, and what comes after them.
use Rattle.std.specs.Prelude.{ℕ, ◌+◌, ◌==◌, ◌&&◌, Bool, nat_lt, List, [], ◌∷◌, length, drop}
use Rattle.std.specs.Prelude.{if◌then◌else◌}

abbrev pub is_digit : ℕ → Bool
is_digit o = nat_lt 47 o && nat_lt o 58

-- the number of digits before the first octet that is none
abbrev pub digit_count : List ℕ → ℕ
digit_count [] = 0
digit_count (o ∷ os) = if is_digit o then 1 + digit_count os else 0

-- the octets from the first one that is no digit
abbrev pub after_digits : List ℕ → List ℕ
after_digits octets = drop (digit_count octets) octets

-- n digits and nothing else
abbrev pub are_digits : ℕ → List ℕ → Bool
are_digits n octets = (length octets == n) && (digit_count octets == n)

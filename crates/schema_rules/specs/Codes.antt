-- Contents octets of a UniversalString (X.690 8.23.7): `universal_form`.
use Rattle.std.specs.Prelude.{ℕ, ◌==◌, ◌&&◌, not, Bool, true, false, nat_lt, List, [], ◌∷◌}
use Rattle.std.specs.Prelude.{if◌then◌else◌}
use Rattle.der_asn1.specs.Alphabets.{is_surrogate}

-- the code of a character of ISO/IEC 10646, from its first three octets: at most 10FFFF, and no
-- surrogate
abbrev pub is_code : ℕ → ℕ → ℕ → Bool
is_code a b c = (a == 0) && (nat_lt b 17 && not ((b == 0) && is_surrogate c))

-- whole codes of four octets
abbrev pub universal_form : List ℕ → Bool
universal_form [] = true
universal_form (a ∷ []) = false
universal_form (a ∷ b ∷ []) = false
universal_form (a ∷ b ∷ c ∷ []) = false
universal_form (a ∷ b ∷ c ∷ d ∷ os) = if is_code a b c then universal_form os else false

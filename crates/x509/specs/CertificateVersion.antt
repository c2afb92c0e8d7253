-- The versions of certificates (RFC 5280, 4.1.2.1).
use Rattle.std.specs.Prelude.{ℕ, ◌==◌, Bool, false, nat_lt, List, [], ◌∷◌}

-- one octet: 0, 1 or 2
abbrev pub is_certificate_version : List ℕ → Bool
is_certificate_version [] = false
is_certificate_version (o ∷ []) = nat_lt o 3
is_certificate_version (o ∷ p ∷ os) = false

abbrev pub is_version_1 : List ℕ → Bool
is_version_1 [] = false
is_version_1 (o ∷ os) = o == 0

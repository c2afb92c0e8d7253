-- How many codes octets have.
use Rattle.std.proofs.Common.{◌≡◌, ℕ, ◌/◌, List, [], ◌∷◌, length, refl, arith}
use Rattle.schema_rules.specs.Characters.{codes_of_two, codes_of_four}

pub length_of_two : (os : List ℕ) → length (codes_of_two os) ≡ length os / 2
length_of_two [] = refl
length_of_two (a ∷ []) = refl
length_of_two (a ∷ b ∷ os) = omega (arith, length_of_two os)

pub length_of_four : (os : List ℕ) → length (codes_of_four os) ≡ length os / 4
length_of_four [] = refl
length_of_four (a ∷ []) = refl
length_of_four (a ∷ b ∷ []) = refl
length_of_four (a ∷ b ∷ c ∷ []) = refl
length_of_four (a ∷ b ∷ c ∷ d ∷ os) = omega (arith, length_of_four os)

-- Elements one after the other, in a SEQUENCE OF or a SET OF (X.690 8.10, 8.12).
use Rattle.std.specs.Prelude.{◌≡◌, ℕ, zero, suc, ◌==◌, ◌&&◌, ◌||◌, nat_lt, Bool, true, IsTrue, List, [], ◌∷◌, ◌++◌}
use Rattle.der_base.specs.declared.encoding_rules.EncodingRules.{EncodingRules}
use Rattle.der_base.specs.declared.encoding_rules.EncodingRules.TheVariants.{Der}

-- an encoding is not after another, where the shorter has octets 0 after it (X.690 11.6)
abbrev pub not_after : List ℕ → List ℕ → Bool
not_after [] b = true
not_after (x ∷ a) [] = x == 0 && not_after a []
not_after (x ∷ a) (y ∷ b) = nat_lt x y || (x == y && not_after a b)

-- in a SET OF an encoding is not before the one before it, under DER (11.6)
abbrev pub IsInOrder : EncodingRules → Bool → List ℕ → List ℕ → Type 0
IsInOrder rules sorted before x = sorted ≡ true → rules ≡ Der → IsTrue (not_after before x)

-- so many elements, one after the other (8.10.2, 8.12.2)
abbrev pub AreItems : Bool → EncodingRules → (List ℕ → Type 0) → List ℕ → ℕ → List ℕ → Type 0
AreItems sorted rules IsItem before zero octets = octets ≡ []
AreItems sorted rules IsItem before (suc n) octets =
    (x : List ℕ) × (rest : List ℕ) × (octets ≡ x ++ rest) × IsItem x × IsInOrder rules sorted before x
    × AreItems sorted rules IsItem x n rest

-- any number of elements, of which this is said
abbrev pub SomeItems : Bool → EncodingRules → (List ℕ → Type 0) → (ℕ → Type 0) → List ℕ → Type 0
SomeItems sorted rules IsItem IsCount octets =
    (n : ℕ) × AreItems sorted rules IsItem [] n octets × IsCount n

-- all numbers of elements
abbrev pub IsAnyCount : ℕ → Type 0
IsAnyCount n = Unit {0}

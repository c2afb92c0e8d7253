-- The front of a time, and its fraction.
use Rattle.std.proofs.Common.{◌≡◌, ◌≤◌, ℕ, List, [], ◌∷◌, length, slice_index_or, refl, arith}
use Rattle.der_asn1.specs.FractionalTime.{whole_seconds}

-- the first fourteen octets, one by one, and Z
pub front_of : (octets : List ℕ) → 14 ≤ length octets
    → slice_index_or octets 0 0 ∷ slice_index_or octets 1 0 ∷ slice_index_or octets 2 0 ∷ slice_index_or octets 3 0 ∷ slice_index_or octets 4 0
    ∷ slice_index_or octets 5 0 ∷ slice_index_or octets 6 0 ∷ slice_index_or octets 7 0 ∷ slice_index_or octets 8 0
    ∷ slice_index_or octets 9 0 ∷ slice_index_or octets 10 0 ∷ slice_index_or octets 11 0 ∷ slice_index_or octets 12 0
    ∷ slice_index_or octets 13 0 ∷ 90 ∷ [] ≡ whole_seconds octets
front_of (a ∷ b ∷ c ∷ d ∷ e ∷ f ∷ g ∷ h ∷ i ∷ j ∷ k ∷ l ∷ m ∷ n ∷ os) le = refl
front_of [] le = absurd (Prim.omega (arith, le))
front_of (a ∷ []) le = absurd (Prim.omega (arith, le))
front_of (a ∷ b ∷ []) le = absurd (Prim.omega (arith, le))
front_of (a ∷ b ∷ c ∷ []) le = absurd (Prim.omega (arith, le))
front_of (a ∷ b ∷ c ∷ d ∷ []) le = absurd (Prim.omega (arith, le))
front_of (a ∷ b ∷ c ∷ d ∷ e ∷ []) le = absurd (Prim.omega (arith, le))
front_of (a ∷ b ∷ c ∷ d ∷ e ∷ f ∷ []) le = absurd (Prim.omega (arith, le))
front_of (a ∷ b ∷ c ∷ d ∷ e ∷ f ∷ g ∷ []) le = absurd (Prim.omega (arith, le))
front_of (a ∷ b ∷ c ∷ d ∷ e ∷ f ∷ g ∷ h ∷ []) le = absurd (Prim.omega (arith, le))
front_of (a ∷ b ∷ c ∷ d ∷ e ∷ f ∷ g ∷ h ∷ i ∷ []) le = absurd (Prim.omega (arith, le))
front_of (a ∷ b ∷ c ∷ d ∷ e ∷ f ∷ g ∷ h ∷ i ∷ j ∷ []) le = absurd (Prim.omega (arith, le))
front_of (a ∷ b ∷ c ∷ d ∷ e ∷ f ∷ g ∷ h ∷ i ∷ j ∷ k ∷ []) le = absurd (Prim.omega (arith, le))
front_of (a ∷ b ∷ c ∷ d ∷ e ∷ f ∷ g ∷ h ∷ i ∷ j ∷ k ∷ l ∷ []) le = absurd (Prim.omega (arith, le))
front_of (a ∷ b ∷ c ∷ d ∷ e ∷ f ∷ g ∷ h ∷ i ∷ j ∷ k ∷ l ∷ m ∷ []) le = absurd (Prim.omega (arith, le))

-- Where a field of a SEQUENCE stands: its octets, and those after it, end those of the SEQUENCE.
use Rattle.std.proofs.Common.{◌≡◌, ℕ, List, ◌++◌, append_assoc, refl, ◌∙◌}

-- `f` is in front of the field
pub field_ends : (h f tail octets : List ℕ) → octets ≡ h ++ (f ++ tail)
    → (front : List ℕ) × (octets ≡ front ++ tail)
field_ends h f tail octets is = (h ++ f, is ∙ simp append_assoc refl)

-- `f` and `s` are in front of the field
pub middle_ends : (h f s tail octets : List ℕ) → octets ≡ h ++ (f ++ (s ++ tail))
    → (front : List ℕ) × (octets ≡ front ++ tail)
middle_ends h f s tail octets is = (h ++ (f ++ s), is ∙ simp append_assoc refl)

-- Lemmas on checks of two things.
use Rattle.std.proofs.Common.{◌≡◌, ◌⊎◌, ◌↔◌, Bool, true, false, List, ℕ, inl, inr, sym, subst, ◌∙◌}

-- the first check holds, or it does not
pub and_with : {A B : Type 0} (b : Bool) → A → (b ≡ true) ↔ B → (b ≡ true) ↔ (A × B)
and_with b a h = (λ e. (a, h.0 e), λ both. h.1 both.1)

pub and_first : {A B : Type 0} (b : Bool) → b ≡ false → (b ≡ true) ↔ A → (b ≡ true) ↔ (A × B)
and_first b other h = (λ e. absurd (let f : false ≡ true = sym other ∙ e in cc), λ both. h.1 both.0)

pub or_with : {A B : Type 0} (b : Bool) → (A → ⊥) → (b ≡ true) ↔ B → (b ≡ true) ↔ (A ⊎ B)
or_with b n h = (λ e. inr (h.0 e), λ one. elim one [ inl a ↦ absurd (n a) | inr w ↦ h.1 w ])

pub given_with : {A B : Type 0} (b : Bool) → A → (b ≡ true) ↔ B → (b ≡ true) ↔ (A → B)
given_with b a h = (λ e _. h.0 e, λ f. h.1 (f a))

-- a check that does not hold
pub fails : {A : Type 0} (b : Bool) → b ≡ false → (b ≡ true) ↔ A → A → ⊥
fails b other h a = let f : false ≡ true = sym other ∙ h.1 a in cc

-- a check of octets that are equal to others
pub moved : (P : List ℕ → Type 0) (x y : List ℕ) (b : Bool) → x ≡ y → (b ≡ true) ↔ P x → (b ≡ true) ↔ P y
moved P x y b e h = subst (λ z. (b ≡ true) ↔ P z) e h

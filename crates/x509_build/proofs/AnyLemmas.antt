-- A loop that looks for an item of a list of numbers.
use Rattle.std.proofs.Common.{◌≡◌, ◌↔◌, ◌+◌, ◌<◌, ◌≤◌, ℕ, false, true, IsTrue, List, Any, get_or, length, inl, inr, refl, sym, ap, subst, ◌∙◌, arith}
use Rattle.std.proofs.lemmas.Bool.{cases_lt}
use Rattle.std.proofs.lemmas.Grind.{get_or_default_zero}

-- none of the first items has the property
abbrev pub NoneBefore : (ℕ → Type 0) → List ℕ → ℕ → Type 0
NoneBefore P xs n = (k x : ℕ) → k < n → get_or xs k x ≡ x → P x → ⊥

pub none_first : (P : ℕ → Type 0) (xs : List ℕ) → NoneBefore P xs 0
none_first P xs k x lt is p = let never : ⊥ = omega (arith, lt) in never

pub none_more : (P : ℕ → Type 0) (xs : List ℕ) (at d : ℕ) → at < length xs → (P (get_or xs at d) → ⊥) → NoneBefore P xs at → NoneBefore P xs (at + 1)
none_more P xs at d lt never before k x less is p = elim (cases_lt k at) [
  | inl earlier ↦ before k x earlier is p
  | inr ge ↦
      let same : k ≡ at = omega (arith, less, ge) in
      never (subst P (sym is ∙ (ap (λ i. get_or xs i x) same ∙ (get_or_default_zero xs at x lt ∙ sym (get_or_default_zero xs at d lt)))) p)
]

pub none_at_all : (P : ℕ → Type 0) (xs : List ℕ) (n : ℕ) → length xs ≤ n → NoneBefore P xs n → IsTrue false ↔ Any P xs
none_at_all P xs n le none = (
  λ h. let wrong : false ≡ true = h in cc,
  λ (k, x, lt, is, p). absurd (none k x (omega (arith, lt, le)) is p),
)

pub found_here : (P : ℕ → Type 0) (xs : List ℕ) (at d : ℕ) → at < length xs → P (get_or xs at d) → IsTrue true ↔ Any P xs
found_here P xs at d lt p = (
  λ h. (at, get_or xs at d, lt, get_or_default_zero xs at (get_or xs at d) lt ∙ sym (get_or_default_zero xs at d lt), p),
  λ any. refl,
)

-- Lemmas on the answers for a list of subtrees, with one subtree more.
use Rattle.std.proofs.Common.{◌≡◌, ◌⊎◌, ◌↔◌, ◌||◌, Bool, true, false, List, [], ◌∷◌, ◌++◌, inl, inr, refl}
use Rattle.x509_names.specs.Lists.{SomeItem}

some_before : {A : Type 0} (P : A → Type 0) (vs : List A) (v : A) → SomeItem P vs → SomeItem P (vs ++ v ∷ [])
some_before P [] v h = absurd h
some_before P (w ∷ vs) v (inl one) = inl one
some_before P (w ∷ vs) v (inr more) = inr (some_before P vs v more)

some_last : {A : Type 0} (P : A → Type 0) (vs : List A) (v : A) → P v → SomeItem P (vs ++ v ∷ [])
some_last P [] v h = inl h
some_last P (w ∷ vs) v h = inr (some_last P vs v h)

some_either : {A : Type 0} (P : A → Type 0) (vs : List A) (v : A) → SomeItem P (vs ++ v ∷ []) → SomeItem P vs ⊎ P v
some_either P [] v (inl one) = inr one
some_either P [] v (inr more) = absurd more
some_either P (w ∷ vs) v (inl one) = inl (inl one)
some_either P (w ∷ vs) v (inr more) = elim (some_either P vs v more) [ inl h ↦ inl (inr h) | inr h ↦ inr h ]

either_true : (b f : Bool) → (b || f) ≡ true → (b ≡ true) ⊎ (f ≡ true)
either_true true f e = inl refl
either_true false f e = inr e

first_true : (b f : Bool) → b ≡ true → (b || f) ≡ true
first_true true f e = refl
first_true false f e = absurd (let wrong : false ≡ true = e in cc)

second_true : (b f : Bool) → f ≡ true → (b || f) ≡ true
second_true true f e = refl
second_true false f e = e

-- an answer for a list, and the one with an item more
pub some_on : {A : Type 0} (P : A → Type 0) (b f : Bool) (vs : List A) (v : A) → (b ≡ true) ↔ SomeItem P vs → (f ≡ true) ↔ P v → ((b || f) ≡ true) ↔ SomeItem P (vs ++ v ∷ [])
some_on P b f vs v before last = (
  λ e. elim (either_true b f e) [ inl h ↦ some_before P vs v (before.0 h) | inr h ↦ some_last P vs v (last.0 h) ],
  λ some. elim (some_either P vs v some) [ inl h ↦ first_true b f (before.1 h) | inr h ↦ second_true b f (last.1 h) ],
)

-- Lemmas on the ends of host names.
use Rattle.std.proofs.Common.{◌≡◌, ◌≢◌, ◌↔◌, ◌+◌, ◌-◌, ◌<◌, ◌≤◌, ℕ, Bool, true, List, [], ◌∷◌, ◌++◌, length, get_or, take, drop, refl, sym, ap, subst, ◌∙◌, arith, add-one, drop-cons, length-append, length-take-le}
use Rattle.std.proofs.Math.Seq.{drop-append_seam}
use Rattle.std.proofs.lemmas.List.{length-map, take-append-drop}
use Rattle.x509_names.specs.Hosts.{HasBefore, IsSameHost}

length_same : (a b : List ℕ) → IsSameHost a b → length a ≡ length b
length_same a b h = simp length-map at (ap length h)

not_empty : (a b : List ℕ) → length b < length (a ++ b) → a ≢ []
not_empty [] b h e = absurd (let n : ⊥ = omega (arith, h) in n)
not_empty (o ∷ a) b h e = cc

split : (end name front rest : List ℕ) → name ≡ front ++ rest → IsSameHost rest end → drop (length name - length end) name ≡ rest
split end name front rest e h =
    let long : length name ≡ length front + length rest = ap length e ∙ length-append front rest in
    let same : length rest ≡ length end = length_same rest end h in
    let at : length name - length end ≡ length front = omega arith in
    ap (λ n. drop n name) at ∙ ap (drop (length front)) e ∙ drop-append_seam front rest

front_left : (n : ℕ) (name : List ℕ) → 0 < n → n ≤ length name → take n name ≢ []
front_left n name some within e =
    let zero : length (take n name) ≡ 0 = ap length e in
    let all : length (take n name) ≡ n = length-take-le n name within in
    absurd (let no : ⊥ = omega arith in no)

whole : (end name : List ℕ) (b : Bool) → length end < length name → (b ≡ true) ↔ IsSameHost (drop (length name - length end) name) end → (b ≡ true) ↔ HasBefore end name
whole end name b longer h = (
  λ e. (take (length name - length end) name, drop (length name - length end) name, sym (take-append-drop (length name - length end) name), front_left (length name - length end) name (omega arith) (omega arith), h.0 e),
  λ f. h.1 (subst (λ x. IsSameHost x end) (sym (split end name f.0 f.1 f.2 f.4)) f.4),
)

pub ends : (end name tail : List ℕ) (b : Bool) → length end < length name → tail ≡ drop (length name - length end) name → (b ≡ true) ↔ IsSameHost tail end → (b ≡ true) ↔ HasBefore end name
ends end name tail b longer is h = whole end name b longer (subst (λ x. (b ≡ true) ↔ IsSameHost x end) is h)

whole_labels : (end name : List ℕ) (b : Bool) → length end + 2 ≤ length name → get_or name (length name - length end - 1) 0 ≡ 46 → (b ≡ true) ↔ IsSameHost (drop (length name - length end) name) end
    → (b ≡ true) ↔ HasBefore (46 ∷ end) name
whole_labels end name b longer dot h =
    let at : length name - length (46 ∷ end) ≡ length name - length end - 1 = omega arith in
    let next : (length name - length end - 1) + 1 ≡ length name - length end = omega arith in
    let inside : length name - length end - 1 < length name = omega arith in
    let front : drop (length name - length (46 ∷ end)) name ≡ 46 ∷ drop (length name - length end) name =
    ap (λ n. drop n name) at ∙ step (length name - length end - 1) name inside ∙ ap (λ o. o ∷ drop (length name - length end - 1 + 1) name) dot ∙ ap (λ n. 46 ∷ drop n name) next in
    whole (46 ∷ end) name b (omega arith) (
      λ e. subst (λ x. IsSameHost x (46 ∷ end)) (sym front) (ap (λ x. 46 ∷ x) (h.0 e)),
      λ s. h.1 (let t : IsSameHost (46 ∷ drop (length name - length end) name) (46 ∷ end) = subst (λ x. IsSameHost x (46 ∷ end)) front s in cc),
    )
  where
    step : (at : ℕ) (os : List ℕ) → at < length os → drop at os ≡ get_or os at 0 ∷ drop (at + 1) os
    step at os h = rw (add-one, drop-cons os at 0) refl

pub labels : (end name tail : List ℕ) (b : Bool) → length end + 2 ≤ length name → get_or name (length name - length end - 1) 0 ≡ 46 → tail ≡ drop (length name - length end) name
    → (b ≡ true) ↔ IsSameHost tail end → (b ≡ true) ↔ HasBefore (46 ∷ end) name
labels end name tail b longer dot is h = whole_labels end name b longer dot (subst (λ x. (b ≡ true) ↔ IsSameHost x end) is h)

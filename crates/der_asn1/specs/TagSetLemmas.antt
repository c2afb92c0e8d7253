-- Sets of tags that pass the check `are_apart` have no tag in common.
use Rattle.std.proofs.Common.{◌≡◌, ℕ, ◌⊎◌, inl, inr, ◌==◌, ◌&&◌, Bool, true, false, not, List, [], ◌∷◌, ◌++◌, ◌∙◌, sym, subst, refl, eq-eqb}
use Rattle.der.specs.Prelude.{Tag}
use Rattle.der.specs.Tag.{label}
use Rattle.der_asn1.specs.TagSets.{TagGroup, one_tag, all_but, IsOf, IsIn, is_among, differ, differ_groups, differs_from, are_apart}

pub both_true : (a b : Bool) → (a && b) ≡ true → (a ≡ true) × (b ≡ true)
both_true true b e = (refl, e)
both_true false b e = absurd (let no : false ≡ true = e in cc)

-- a number equals itself, so a tag does not differ from itself
same_number : (n : ℕ) → (n == n) ≡ true
same_number n = eq-eqb n n refl

differ_apart : (t u : Tag) → differ t u ≡ true → t ≡ u → ⊥
differ_apart t u e same =
    go ((label u).class) ((label u).number) (subst (λ x. differ x u ≡ true) same e)
  where
    go : (c n : ℕ) → not ((c == c) && (n == n)) ≡ true → ⊥
    go c n e =
        let f : not (true && true) ≡ true =
        subst (λ x. not (x && true) ≡ true) (same_number c)
        (subst (λ x. not ((c == c) && x) ≡ true) (same_number n) e) in
        cc

groups_apart : (i j : TagGroup) → differ_groups i j ≡ true → (t : Tag) → IsOf i t → IsOf j t → ⊥
groups_apart (one_tag u) (one_tag w) e t one two =
    differ_apart u w e (sym one ∙ two)
groups_apart (one_tag u) (all_but ks) e t one two =
    let same : is_among ks t ≡ true = subst (λ x. is_among ks x ≡ true) (sym one) e in cc
groups_apart (all_but ks) (one_tag u) e t one two =
    let same : is_among ks t ≡ true = subst (λ x. is_among ks x ≡ true) (sym two) e in cc
groups_apart (all_but ks) (all_but ls) e t one two = absurd (let no : false ≡ true = e in cc)

differs_apart : (i : TagGroup) (us : List TagGroup) → differs_from i us ≡ true → (t : Tag)
    → IsOf i t → IsIn us t → ⊥
differs_apart i [] e t one h = h
differs_apart i (u ∷ us) e t one (inl h) =
    groups_apart i u (both_true (differ_groups i u) (differs_from i us) e).0 t one h
differs_apart i (u ∷ us) e t one (inr h) =
    differs_apart i us (both_true (differ_groups i u) (differs_from i us) e).1 t one h

pub sets_apart : (ts us : List TagGroup) → are_apart ts us ≡ true → (t : Tag) → IsIn ts t
    → IsIn us t → ⊥
sets_apart [] us e t in_first in_second = in_first
sets_apart (i ∷ ts) us e t (inl one) in_second =
    differs_apart i us (both_true (differs_from i us) (are_apart ts us) e).0 t one in_second
sets_apart (i ∷ ts) us e t (inr h) in_second =
    sets_apart ts us (both_true (differs_from i us) (are_apart ts us) e).1 t h in_second

-- a tag of one of two sets is in their union
pub in_either : (ts us : List TagGroup) (t : Tag) → IsIn ts t ⊎ IsIn us t → IsIn (ts ++ us) t
in_either [] us t (inl h) = absurd h
in_either [] us t (inr h) = h
in_either (i ∷ ts) us t (inl (inl one)) = inl one
in_either (i ∷ ts) us t (inl (inr h)) = inr (in_either ts us t (inl h))
in_either (i ∷ ts) us t (inr h) = inr (in_either ts us t (inr h))

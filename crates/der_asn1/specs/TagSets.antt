-- Decidable sets of tags (`IsIn`), and a check that two have no tag in common (`are_apart`).
use Rattle.std.proofs.Common.{◌≡◌, ℕ, ◌⊎◌, ◌==◌, ◌&&◌, ◌||◌, Bool, true, false, not, List, [], ◌∷◌}
use Rattle.der.specs.Prelude.{Tag}
use Rattle.der.specs.Tag.{label}

-- class or number differ (X.690 8.1.2.2)
abbrev pub differ : Tag → Tag → Bool
differ t u = not (((label t).class == (label u).class) && ((label t).number == (label u).number))

-- class and number are one of these pairs
abbrev pub is_among : List (ℕ × ℕ) → Tag → Bool
is_among [] t = false
is_among (k ∷ ks) t = (k.0 == (label t).class) && (k.1 == (label t).number) || is_among ks t

-- one tag, or all tags but those with one of these classes and numbers
pub data TagGroup : Type 0 where
  one_tag : Tag → TagGroup
  all_but : List (ℕ × ℕ) → TagGroup

abbrev pub IsOf : TagGroup → Tag → Type 0
IsOf (one_tag u) t = t ≡ u
IsOf (all_but ks) t = is_among ks t ≡ false

-- a set is a list of groups
abbrev pub IsIn : List TagGroup → Tag → Type 0
IsIn [] t = ⊥
IsIn (u ∷ us) t = IsOf u t ⊎ IsIn us t

-- no tag is of both groups
abbrev pub differ_groups : TagGroup → TagGroup → Bool
differ_groups (one_tag t) (one_tag u) = differ t u
differ_groups (one_tag t) (all_but ks) = is_among ks t
differ_groups (all_but ks) (one_tag u) = is_among ks u
differ_groups (all_but ks) (all_but ls) = false

abbrev pub differs_from : TagGroup → List TagGroup → Bool
differs_from t [] = true
differs_from t (u ∷ us) = differ_groups t u && differs_from t us

-- no tag is in both sets
abbrev pub are_apart : List TagGroup → List TagGroup → Bool
are_apart [] us = true
are_apart (t ∷ ts) us = differs_from t us && are_apart ts us

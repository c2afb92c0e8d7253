-- Tags that were compared with the expected one.
use Rattle.std.proofs.Common.{◌≡◌, ◌≢◌, ◌⊎◌, inl, inr, ⊎_elim, Bool, true, false, Result, Ok, Err, refl, sym, ap, ◌∙◌}
use Rattle.std.proofs.lemmas.Bool.{cases_eq}
use Rattle.der_base.specs.Tag.{label}
use Rattle.der_base.specs.Error.{unexpected_tag}
use Rattle.der_base.proofs.TagLemmas.{same_parts, same_label}
use Rattle.der_base.specs.declared.tag.Tag.{Tag}
use Rattle.der_base.specs.declared.error.Error.{Error}

-- equal or not
bool_cases : (a b : Bool) → (a ≡ b) ⊎ (a ≢ b)
bool_cases true true = inl refl
bool_cases false false = inl refl
bool_cases true false = inr (λ e. (cc))
bool_cases false true = inr (λ e. (cc))

pub tag_cases : (t u : Tag) → (t ≡ u) ⊎ (t ≢ u)
tag_cases t u = go (cases_eq (label t).class (label u).class) (bool_cases (label t).constructed (label u).constructed) (cases_eq (label t).number (label u).number)
  where
    go : ((label t).class ≡ (label u).class) ⊎ ((label t).class ≢ (label u).class) → ((label t).constructed ≡ (label u).constructed) ⊎ ((label t).constructed ≢ (label u).constructed)
        → ((label t).number ≡ (label u).number) ⊎ ((label t).number ≢ (label u).number) → (t ≡ u) ⊎ (t ≢ u)
    go (inl c) (inl b) (inl n) = inl (same_label t u (same_parts (label t) (label u) c b n))
    go (inr c) b n = inr (λ e. c (ap (λ x. (label x).class) e))
    go (inl c) (inr b) n = inr (λ e. b (ap (λ x. (label x).constructed) e))
    go (inl c) (inl b) (inr n) = inr (λ e. n (ap (λ x. (label x).number) e))

-- a tag for which the comparison succeeded is the expected one
pub tag_asserted : (t u w : Tag) (r : Result Tag Error) → r ≡ Ok w → (t ≢ u → r ≡ Err (unexpected_tag u t)) → t ≡ u
tag_asserted t u w r ok other = ⊎_elim (λ same. same) (λ not. absurd (let no : Ok w ≡ Err (unexpected_tag u t) = sym ok ∙ other not in cc)) (tag_cases t u)

-- a tag for which the comparison failed is another one, as the error says
pub another_tag : (t u : Tag) (e : Error) (r : Result Tag Error) → r ≡ Err e → (t ≡ u → r ≡ Ok t) → t ≢ u
another_tag t u e r refused same is = (let no : Err e ≡ Ok t = sym refused ∙ same is in cc)

pub other_tag_reported : (t u : Tag) (e : Error) (r : Result Tag Error) → r ≡ Err e → t ≢ u → (t ≢ u → r ≡ Err (unexpected_tag u t)) → e ≡ unexpected_tag u t
other_tag_reported t u e r refused not other = (let same : Err e ≡ Err (unexpected_tag u t) = sym refused ∙ other not in cc)

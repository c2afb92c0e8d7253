-- Context-specific tags (`context_tag`): IMPLICIT, which replaces another tag (`TakesImplicit`),
-- and EXPLICIT, around an element (X.690 8.14).
use Rattle.std.specs.Prelude.{◌≡◌, ◌||◌, ℕ, ◌^◌, ◌<◌, ◌≤◌, Bool, true, false, List, length}
use Rattle.std.proofs.Common.{arith, refl, sym, ap, subst, ◌∙◌}
use Rattle.der.specs.Prelude.{Head, is_indefinite, definite_length, Tag, ContextSpecific}
use Rattle.der.specs.Prelude.{EncodingRules, Der, ElementNext, element_levels, element_octets}
use Rattle.der.specs.Prelude.{TakesWhole, IsLawful}
use Rattle.der.specs.HeaderGrammar.{head}
use Rattle.der.specs.Tag.{label, tag_number}
use Rattle.der.specs.Lawful.{definite_head}
use Rattle.der.specs.LawfulLemmas.{elements_are_encodings, contents_lawful}

abbrev pub context_tag : Bool → ℕ → Tag
context_tag constructed n = ContextSpecific constructed (tag_number n)

-- the header, with its tag replaced by the type's own
abbrev pub retagged : Tag → Head → Head
retagged t h = head t h.length ((label t).constructed || is_indefinite h.length)

-- contents after an IMPLICIT tag are accepted as after the type's own tag
abbrev pub TakesImplicit : {A B : Type 0} → Tag → (A → EncodingRules → Head → List ℕ → Type 0)
    → (B → A) → B → EncodingRules → Head → List ℕ → Type 0
TakesImplicit tag takes value v rules h octets = takes (value v) rules (retagged tag h) octets

same_head : (t u : Tag) (n : ℕ) (b : Bool) → (label t).constructed ≡ b
    → retagged t (definite_head u n) ≡ definite_head t n
same_head t u n true e =
    ap (λ c. head t (definite_length n) (c || false)) e ∙ ap (head t (definite_length n)) (sym e)
same_head t u n false e =
    ap (λ c. head t (definite_length n) (c || false)) e ∙ ap (head t (definite_length n)) (sym e)

-- a lawful type with an IMPLICIT tag is lawful
pub implicit_lawful : {A B : Type 0} {tag : Tag}
    {takes : A → EncodingRules → Head → List ℕ → Type 0} {valid : A → Type 0}
    {contents : A → List ℕ} {levels : EncodingRules → ℕ} (outer : Tag) (value : B → A)
    → (label outer).number < 2 ^ 32 → IsLawful tag takes valid contents levels
    → IsLawful outer (TakesImplicit tag takes value) (λ b. valid (value b))
    (λ b. contents (value b)) levels
implicit_lawful {tag = tag} {takes} outer value numbered laws =
    record {
      exact = λ octets b short. (
        λ h. (laws.exact octets (value b) short).0
            (subst (λ x. takes (value b) Der x octets)
            (same_head tag outer (length octets) (label tag).constructed refl) h),
        λ h. subst (λ x. takes (value b) Der x octets)
            (sym (same_head tag outer (length octets) (label tag).constructed refl))
            ((laws.exact octets (value b) short).1 h),
      );
      shallow = laws.shallow;
      numbered = numbered;
    }

-- a lawful type with an EXPLICIT tag is lawful, if it needs at most 62 levels of nesting
pub explicit_lawful : {A B : Type 0} {tag : Tag}
    {takes : A → EncodingRules → Head → List ℕ → Type 0} {valid : A → Type 0}
    {contents : A → List ℕ} {levels : EncodingRules → ℕ} (outer : Tag) (value : B → A)
    → (label outer).number < 2 ^ 32 → IsLawful tag takes valid contents levels
    → levels Der ≤ 62
    → IsLawful outer (λ b. TakesWhole (ElementNext tag takes) (value b)) (λ b. valid (value b))
    (λ b. element_octets tag (contents (value b))) (element_levels levels)
explicit_lawful {levels = levels} outer value numbered laws shallow =
    contents_lawful outer (element_levels levels) value (elements_are_encodings laws)
    (omega (arith, shallow)) numbered

pub explicit_holds : {A B : Type 0} {tag : Tag}
    {takes : A → EncodingRules → Head → List ℕ → Type 0} {valid : A → Type 0} (value : B → A)
    → ((v : A) (rules : EncodingRules) (h : Head) (octets : List ℕ) → takes v rules h octets
    → valid v) → (b : B) (rules : EncodingRules) (h : Head) (octets : List ℕ)
    → TakesWhole (ElementNext tag takes) (value b) rules h octets → valid (value b)
explicit_holds value holds b rules h octets taken =
    holds (value b) rules _ taken.contents taken.taken

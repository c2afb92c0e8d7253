-- Tags of the classes application and private (X.690 8.1.2.2): `reclassed` has the class in place of
-- another, and the same number.
use Rattle.std.specs.Prelude.{◌≡◌, ℕ, ◌^◌, ◌<◌, Bool, true, false, List, if◌then◌else◌}
use Rattle.std.proofs.Common.{refl, sym, subst}
use Rattle.der.specs.Prelude.{Tag, Application, Private, EncodingRules, Head, IsLawful}
use Rattle.der.specs.Tag.{label, tag_number}
use Rattle.der_asn1.specs.ContextSpecific.{TakesImplicit, implicit_lawful}
use Rattle.der_asn1.specs.Meaning.{ElementSpec, retagged_element}

abbrev pub class_tag : Bool → Bool → ℕ → Tag
class_tag private constructed n =
    if private then Private constructed (tag_number n) else Application constructed (tag_number n)

-- the tag of the class private or application with the number of another tag, constructed if the
-- other is
abbrev pub reclassed : Bool → Tag → Tag
reclassed private t = class_tag private (label t).constructed (label t).number

class_tag-number : (private constructed : Bool) (n : ℕ)
    → (label (class_tag private constructed n)).number ≡ n
class_tag-number true constructed n = refl
class_tag-number false constructed n = refl

-- a lawful type with a tag of another class is lawful
pub reclassed_lawful : {A B : Type 0} {tag : Tag}
    {takes : A → EncodingRules → Head → List ℕ → Type 0} {valid : A → Type 0}
    {contents : A → List ℕ} {levels : EncodingRules → ℕ} (private : Bool) (value : B → A)
    → IsLawful tag takes valid contents levels
    → IsLawful (reclassed private tag) (TakesImplicit tag takes value) (λ b. valid (value b))
    (λ b. contents (value b)) levels
reclassed_lawful {tag = tag} private value laws =
    let number = (label tag).number in
    implicit_lawful (reclassed private tag) value
    (subst (λ n. n < 2 ^ 32) (sym (class_tag-number private (label tag).constructed number))
    laws.numbered) laws

-- the same contents with a tag of another class
abbrev pub in_class : {A B : Type 0} → Bool → ElementSpec A → (B → A) → ElementSpec B
in_class private one f = retagged_element (reclassed private one.tag) one f

-- The derived `==` of tags, error kinds and errors holds exactly if the two values are the same.
use Rattle.std.proofs.Common.{◌≡◌, ◌↔◌, IsTrue, ◌∙◌, ℕ, nat_eq, Bool, true, false, ◌&&◌, Option, Some, None, List, [], ◌∷◌, refl, sym, ap, inl, inr, rules}
use Rattle.std.proofs.lemmas.Bool.{true≢false, and_parts, eqb-true}
use Rattle.std.specs.Cmp.{IsEquivalence}
use Rattle.std.specs.Option.{option_eq}
use Rattle.std.specs.contracts.prelude.Utf8ErrorPartialEq.TheImpl as utf8_eq
use Rattle.std.specs.declared.str.Utf8Error.{Utf8Error}
use denote.Enum.Compared.{Each, by}
use denote.Enum.Declared.{Choice, values_one}
use denote.Struct.Field.{Field}
use denote.Struct.Values.{Values}
use Rattle.der_base.specs.contracts.error.ErrorEq.TheImpl.Laws as error_laws
use Rattle.der_base.specs.contracts.error.ErrorKind as kind
use Rattle.der_base.specs.contracts.error.ErrorKindEq.TheImpl.Laws as kind_laws
use Rattle.der_base.specs.contracts.error.ErrorKindPartialEq.TheImpl as kind_eq
use Rattle.der_base.specs.contracts.error.ErrorPartialEq.TheImpl as error_eq
use Rattle.der_base.specs.contracts.length.LengthPartialEq.TheImpl as length_eq
use Rattle.der_base.specs.contracts.tag.Tag as tag
use Rattle.der_base.specs.contracts.tag.TagEq.TheImpl.Laws as tag_laws
use Rattle.der_base.specs.contracts.tag.TagPartialEq.TheImpl as tag_eq
use Rattle.der_base.specs.declared.error.Error.{Error}
use Rattle.der_base.specs.declared.error.ErrorKind.{ErrorKind}
use Rattle.der_base.specs.declared.length.Length.{Length}
use Rattle.der_base.specs.declared.tag.Tag.{Tag}

-- values that a test finds equal are the same
abbrev EqualMeansSame : {A : Type 0} → (A → A → Bool) → Type 0
EqualMeansSame {A} test = (x y : A) → test x y ≡ true → x ≡ y

-- with the laws of `Eq`, such a test holds exactly for one and the same value
exact : {A : Type 0} (test : A → A → Bool) → IsEquivalence test → EqualMeansSame test → (x y : A) → IsTrue (test x y) ↔ (x ≡ y)
exact test laws reported x y = (reported x y, λ e. sym (ap (test x) e) ∙ laws.refl x)

-- fields that the tests of each variant find equal are the same
abbrev EachEqualMeansSame : (parts : List (List Field)) → Each Bool parts → Type 0
EachEqualMeansSame [] each = Unit {0}
EachEqualMeansSame (part ∷ parts) each = EqualMeansSame {A = Values part} each.0 × EachEqualMeansSame parts each.1

choice-reported : (parts : List (List Field)) (each : Each Bool parts) → EachEqualMeansSame parts each → EqualMeansSame {A = Choice parts} (by false false parts each)
choice-reported [] each all c d e = absurd c
choice-reported (part ∷ parts) each all (inl x) (inl y) e = ap inl (all.0 x y e)
choice-reported (part ∷ parts) each all (inl x) (inr d) e = absurd (true≢false (sym e))
choice-reported (part ∷ parts) each all (inr c) (inl y) e = absurd (true≢false (sym e))
choice-reported (part ∷ parts) each all (inr c) (inr d) e = ap inr (choice-reported parts each.1 all.1 c d e)

tag-reported : EqualMeansSame tag_eq.ghosts.eq
tag-reported s t e = values_one tag.enum s t (choice-reported tag.enum.parts _ (search rules) (tag.enum.as_values s) (tag.enum.as_values t) e)

length-reported : EqualMeansSame length_eq.ghosts.eq
length-reported l m e = search rules

option-reported : {A : Type 0} {test : A → A → Bool} → EqualMeansSame test → EqualMeansSame (option_eq test)
option-reported reported None None e = refl
option-reported reported None (Some y) e = absurd (true≢false (sym e))
option-reported reported (Some x) None e = absurd (true≢false (sym e))
option-reported reported (Some x) (Some y) e = ap Some (reported x y e)

-- ---- the fields of a variant

no_field-reported : EqualMeansSame {A = Unit {0}} (λ x y. true)
no_field-reported x y e = refl

field-reported : {A : Type 0} {test : A → A → Bool} → EqualMeansSame test → EqualMeansSame {A = A × Unit {0}} (λ x y. test x.0 y.0)
field-reported reported x y e = λ i. (reported x.0 y.0 e i, tt)

fields-reported : {A B : Type 0} {first : A → A → Bool} {second : B → B → Bool} → EqualMeansSame first → EqualMeansSame second
    → EqualMeansSame {A = A × (B × Unit {0})} (λ x y. first x.0 y.0 && second x.1.0 y.1.0)
fields-reported {first} {second} reported reported' x y e =
    let parts = and_parts (first x.0 y.0) (second x.1.0 y.1.0) e in λ i. (reported x.0 y.0 parts.0 i, (reported' x.1.0 y.1.0 parts.1 i, tt))

lengths-reported : EqualMeansSame {A = Length × (Length × Unit {0})} (λ x y. length_eq.ghosts.eq x.0 y.0 && length_eq.ghosts.eq x.1.0 y.1.0)
lengths-reported = fields-reported length-reported length-reported

a_tag-reported : EqualMeansSame {A = Tag × Unit {0}} (λ x y. tag_eq.ghosts.eq x.0 y.0)
a_tag-reported = field-reported tag-reported

tags-reported : EqualMeansSame {A = Option Tag × (Tag × Unit {0})} (λ x y. option_eq tag_eq.ghosts.eq x.0 y.0 && tag_eq.ghosts.eq x.1.0 y.1.0)
tags-reported = fields-reported (option-reported tag-reported) tag-reported

octet-reported : EqualMeansSame {A = ℕ × Unit {0}} (λ x y. nat_eq x.0 y.0)
octet-reported = field-reported eqb-true

utf8-reported : EqualMeansSame {A = Utf8Error × Unit {0}} (λ x y. utf8_eq.ghosts.eq x.0 y.0)
utf8-reported x y e = search rules

kind-reported : EqualMeansSame kind_eq.ghosts.eq
kind-reported j k e =
    values_one kind.enum j k (choice-reported kind.enum.parts _
    (search (no_field-reported, lengths-reported, a_tag-reported, tags-reported, octet-reported, utf8-reported) depth 40)
    (kind.enum.as_values j) (kind.enum.as_values k) e)

error-reported : EqualMeansSame error_eq.ghosts.eq
error-reported e f reported =
    let parts = and_parts (kind_eq.ghosts.eq e.kind f.kind) (option_eq length_eq.ghosts.eq e.position f.position) reported in
    λ i. record { kind = kind-reported e.kind f.kind parts.0 i; position = option-reported length-reported e.position f.position parts.1 i }

-- ---- the meaning of `==`

pub tag_equality : (s t : Tag) → IsTrue (tag_eq.ghosts.eq s t) ↔ (s ≡ t)
tag_equality = exact tag_eq.ghosts.eq tag_laws.laws-law tag-reported

pub kind_equality : (j k : ErrorKind) → IsTrue (kind_eq.ghosts.eq j k) ↔ (j ≡ k)
kind_equality = exact kind_eq.ghosts.eq kind_laws.laws-law kind-reported

pub error_equality : (e f : Error) → IsTrue (error_eq.ghosts.eq e f) ↔ (e ≡ f)
error_equality = exact error_eq.ghosts.eq error_laws.laws-law error-reported

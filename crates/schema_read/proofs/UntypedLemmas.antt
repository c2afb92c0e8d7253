-- Elements of any type.
use Rattle.std.proofs.Common.{◌≡◌, ◌↔◌, ℕ, zero, suc, ◌-◌, ◌<◌, Bool, true, false, List, Option, sym, subst, arith}
use Rattle.der_base.specs.declared.encoding_rules.EncodingRules.{EncodingRules}
use Rattle.ber.specs.Der.{type_of}
use Rattle.ber.specs.Header.{label_of_header}
use Rattle.ber.specs.declared.header.Header.{Header}
use Rattle.ber.specs.declared.universal.Universal.{Universal}
use Rattle.schema_read.specs.Items.{IsAnyCount, SomeItems}
use Rattle.schema_read.specs.Value.{MayBeConstructed, IsPrimitive, IsUnknownType, IsElementOfAny, IsAny}
use Rattle.schema_read.specs.Enclosed.{BeginWithNone}
use Rattle.schema_read.specs.Verdict.{holds, worst}
use Rattle.schema_read.specs.Reading.{Front, Body, Finds}
use Rattle.schema_read.specs.declared.verdict.Verdict.{Verdict}
use Rattle.schema_read.proofs.FindsLemmas.{finds_as, finds_and, finds_whole, front_as}
use Rattle.schema_read.proofs.EnclosedLemmas.{Elem}
use Rattle.schema_read.proofs.ItemLemmas.{OfElements}

-- what the contents of an element of any type are
abbrev pub AnyContents : ℕ → EncodingRules → Header → List ℕ → Type 0
AnyContents d rules h inner =
    IsUnknownType rules (IsAny d) (type_of (label_of_header h)) h.constructed inner

pub any_none : (rules : EncodingRules) (x : List ℕ) → IsAny 0 rules x → ⊥
unfolding IsAny
any_none rules x h = h

pub any_step : (d : ℕ) (rules : EncodingRules) (x : List ℕ) → 0 < d → IsElementOfAny rules (IsAny (d - 1)) x ↔ IsAny d rules x
unfolding IsAny
any_step zero rules x some = absurd (omega arith)
any_step (suc d) rules x some =
    let e : suc d - 1 ≡ d = omega arith in
    (λ h. subst (λ k. IsElementOfAny rules (IsAny k) x) e h, λ h. subst (λ k. IsElementOfAny rules (IsAny k) x) (sym e) h)

-- each is an element
any_element : (d : ℕ) (rules : EncodingRules) (x : List ℕ) → IsAny d rules x → Elem (AnyContents (d - 1)) rules x
any_element zero rules x h = absurd (any_none rules x h)
any_element (suc d) rules x h = (any_step (suc d) rules x (omega arith)).1 h

pub any_elements : (d : ℕ) (rules : EncodingRules) → OfElements (IsAny d rules)
any_elements d rules x h = let e = any_element d rules x h in (rules, e.0, e.1, e.2)

pub any_finds : {octets rest : List ℕ} {v : Verdict} (d : ℕ) → 0 < d → Finds (λ rules. Front (Elem (AnyContents (d - 1)) rules) octets) v rest → Finds (λ rules. Front (IsAny d rules) octets) v rest
any_finds d some f = finds_as (λ rules r. front_as (λ x. any_step d rules x some)) f

pub no_any : {octets : List ℕ} (d : ℕ) → BeginWithNone d octets → (rules : EncodingRules) (r : List ℕ) → Front (IsAny d rules) octets r → ⊥
no_any zero none rules r (x, e, is) = any_none rules x is
no_any (suc d) none rules r (x, e, is) =
    let el = any_element (suc d) rules x is in
    none rules el.0 el.1 x r (omega arith) e el.2

pub no_any_cut : {octets : List ℕ} (d : ℕ) → ((rules : EncodingRules) (r : List ℕ) → Front (Elem (AnyContents (d - 1)) rules) octets r → ⊥) → (rules : EncodingRules) (r : List ℕ) → Front (IsAny d rules) octets r → ⊥
no_any_cut d cut rules r f = cut rules r (f.0, f.1, any_element d rules f.0 f.2)

-- a verdict on a rule says what the rule does
pub test_is : {v w : Verdict} {P : EncodingRules → Type 0} → v ≡ w → ((rules : EncodingRules) → (holds rules w ≡ true) ↔ P rules)
    → (rules : EncodingRules) → (holds rules v ≡ true) ↔ P rules
test_is {v} {w} {P} e test rules = subst (λ u. (holds rules u ≡ true) ↔ P rules) (sym e) (test rules)

-- the contents of a constructed encoding
pub finds_constructed : (d : ℕ) (u : Option Universal) (c m : Bool) (b octets : List ℕ) {a v : Verdict} {rest : List ℕ} → c ≡ true
    → ((rules : EncodingRules) → (holds rules a ≡ true) ↔ MayBeConstructed u)
    → Finds (λ rules. Body m b (SomeItems false rules (IsAny d rules) IsAnyCount) octets) v rest
    → Finds (λ rules. Body m b (IsUnknownType rules (IsAny d) u c) octets) (worst a v) rest
finds_constructed d u c m b octets {a} {v} {rest} on test f =
    subst (λ k. Finds (λ rules. Body m b (IsUnknownType rules (IsAny d) u k) octets) (worst a v) rest) (sym on)
    (finds_and a (λ rules. MayBeConstructed u) test (λ rules r may h. (h.0, h.1, (may, h.2))) (λ rules r h. (h.2.0, (h.0, h.1, h.2.1))) f)

-- the contents of a primitive one
pub finds_primitive : (d : ℕ) (u : Option Universal) (c m : Bool) (b octets : List ℕ) {v : Verdict} → c ≡ false → m ≡ false
    → ((rules : EncodingRules) → (holds rules v ≡ true) ↔ IsPrimitive rules u octets)
    → Finds (λ rules. Body m b (IsUnknownType rules (IsAny d) u c) octets) v b
finds_primitive d u c m b octets {v} off closed test =
    subst (λ k. Finds (λ rules. Body m b (IsUnknownType rules (IsAny d) u k) octets) v b) (sym off)
    (finds_whole (λ rules. IsPrimitive rules u) m b octets closed test)

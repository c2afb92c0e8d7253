-- The elements of a SET.
use Rattle.std.proofs.Common.{◌≡◌, ◌↔◌, ⊎_elim, ℕ, zero, suc, ◌<◌, Bool, true, false, List, [], ◌∷◌, ◌++◌, Some, None, slice_get, refl, sym, ap, ◌∙◌, subst, arith}
use Rattle.std.proofs.lemmas.Bool.{cases_lt}
use Rattle.der_base.specs.declared.encoding_rules.EncodingRules.{EncodingRules}
use Rattle.ber.specs.Header.{IsNext}
use Rattle.ber.specs.declared.header.Header.{Header}
use Rattle.ber.specs.declared.universal.Universal.TheVariants.{Set}
use Rattle.schema_types.specs.Table.{Table}
use Rattle.schema_types.specs.declared.field.Field.{Field}
use Rattle.schema_types.specs.declared.node.Node.{Node}
use Rattle.schema_types.specs.declared.node_kind.NodeKind.TheVariants.{Universal as Universally}
use Rattle.schema_types.specs.Distinct.{may_be_missing, IsDistinct}
use Rattle.schema_types.specs.Tags.{IsFieldOf, Begins}
use Rattle.schema_read.specs.Verdict.{holds, worst}
use Rattle.schema_read.specs.Components.{Values, Elements, IsComponent}
use Rattle.schema_read.specs.Members.{is_seen, IsTagAfter, IsUntaken, IsMember, component, addition, ArePresent, AreMembers, SomeMembers}
use Rattle.schema_read.specs.Opened.{IsEnded}
use Rattle.schema_read.specs.Reading.{Front, IsWithin, Body, Finds, Status}
use Rattle.schema_read.specs.Tags.{NoneBegins}
use Rattle.schema_read.specs.declared.verdict.Verdict.{Verdict}
use Rattle.schema_read.proofs.AdditionLemmas.{BeginWell, AreElements, next_longer, item_header}
use Rattle.schema_read.proofs.ComponentLemmas.{none_there}
use Rattle.schema_read.proofs.EnclosedLemmas.{same_next, within_step, within_front}
use Rattle.schema_read.proofs.FindsLemmas.{Said, finds_as, finds_and, Cases, both, first, second, cases, worst_true, worst_both}
use Rattle.schema_read.proofs.ItemLemmas.{OfElements, none_at_end, ends_here}

-- an element of a SET, whatever the fields are that are there after it
abbrev pub IsSomeMember : Values → Elements → Table → Node → List ℕ → EncodingRules → List ℕ → Type 0
IsSomeMember Child Item t n seen rules x = (after : List ℕ) × IsMember Child Item rules t n seen x after

pub member_elements : {t : Table} {Child : Values} {Item : Elements} → BeginWell t Child → AreElements Item → (n : Node) (seen : List ℕ) (rules : EncodingRules) → OfElements (IsSomeMember Child Item t n seen rules)
member_elements well elements n seen rules x (after, component k f field new comp) =
    let b = well rules None f.node x comp.0 in
    (rules, b.0, b.1, b.2)
member_elements well elements n seen rules x (after, addition extends item untaken) = elements rules x item

-- one field of a SET has a tag
one_field : {t : Table} (n : Node) → n.kind ≡ Universally Set → ((k : ℕ) → IsDistinct t n k) → (h : Header) (j k : ℕ) (f g : Field)
    → IsFieldOf t n j f → IsFieldOf t n k g → Begins t f.node h.class h.number → Begins t g.node h.class h.number → j ≡ k
one_field {t} n kind distinct h j k f g here there begins also =
    ⊎_elim (λ less. absurd (apart j k f g less here there begins also)) (λ over. ⊎_elim (λ less. absurd (apart k j g f less there here also begins)) (λ under. omega (arith, over, under)) (cases_lt k j)) (cases_lt j k)
  where
    missing : (i : Field) → may_be_missing n.kind i ≡ true
    missing i = ap (λ q. may_be_missing q i) kind

    apart : (j k : ℕ) (f g : Field) → j < k → IsFieldOf t n j f → IsFieldOf t n k g → Begins t f.node h.class h.number → Begins t g.node h.class h.number → ⊥
    apart j k f g less here there begins also =
        distinct k j f g (record { earlier = here; later = there; before = less; missing = λ l i low high is. missing i })
        (record { class = h.class; number = h.number; first = begins; second = also })

-- where octets begin with the tag of a field, an element is the component of that field, if it was not there
pub member_of_field : {t : Table} {Child : Values} {Item : Elements} → BeginWell t Child → AreElements Item → (n : Node) → n.kind ≡ Universally Set → ((k : ℕ) → IsDistinct t n k)
    → (h : Header) (octets : List ℕ) → IsNext h octets → (k : ℕ) (f : Field) → IsFieldOf t n k f → Begins t f.node h.class h.number → (seen : List ℕ)
    → (rules : EncodingRules) (x r after : List ℕ) → octets ≡ x ++ r → IsMember Child Item rules t n seen x after
    → (is_seen seen k ≡ false) × (after ≡ seen ++ k ∷ []) × IsComponent Child rules t None f x
member_of_field {t} {Child} well elements n kind distinct h octets next k f field begins seen rules x r after e (component j g there new comp) =
    let b = well rules None g.node x comp.0 in
    let one : h ≡ b.0 = same_next r next b.2 e in
    let starts : Begins t g.node h.class h.number = subst (λ (i : Header). Begins t g.node i.class i.number) (sym one) b.3 in
    let same : j ≡ k = one_field n kind distinct h j k g f there field starts begins in
    let rows : Some g ≡ Some f = sym there.row ∙ ap (slice_get t.fields) same ∙ field.row in
    let it : g ≡ f = cc in
    (subst (λ q. is_seen seen q ≡ false) same new, ap (λ q. seen ++ q ∷ []) same, subst (λ (q : Field). IsComponent Child rules t None q x) it comp)
member_of_field well elements n kind distinct h octets next k f field begins seen rules x r after e (addition extends item untaken) =
    let header = item_header elements next rules x r e item in
    absurd (untaken k f h field header.0 begins)

-- where they begin with the tag of none, it is an extension addition
pub member_of_none : {t : Table} {Child : Values} {Item : Elements} → BeginWell t Child → (n : Node) (octets : List ℕ)
    → ((k : ℕ) (f : Field) → IsFieldOf t n k f → NoneBegins t f.node octets) → (seen : List ℕ)
    → (rules : EncodingRules) (x r after : List ℕ) → octets ≡ x ++ r → IsMember Child Item rules t n seen x after
    → (n.extensible ≡ true) × (after ≡ seen) × Item rules x
member_of_none well n octets none seen rules x r after e (component j g there new comp) =
    absurd (none_there well g.node octets (none j g there) rules None x r e comp.0)
member_of_none well n octets none seen rules x r after e (addition extends item untaken) = (extends, refl, item)

-- what is found is the component of a field
pub finds_component : {t : Table} {Child : Values} {Item : Elements} → BeginWell t Child → AreElements Item → (n : Node) → n.kind ≡ Universally Set → ((k : ℕ) → IsDistinct t n k)
    → (h : Header) (octets : List ℕ) → IsNext h octets → (k : ℕ) (f : Field) → IsFieldOf t n k f → Begins t f.node h.class h.number → (seen : List ℕ) → is_seen seen k ≡ false
    → {w : Verdict} {rest : List ℕ} → Finds (λ rules. Front (IsComponent Child rules t None f) octets) w rest
    → Finds (λ rules. Front (IsSomeMember Child Item t n seen rules) octets) w rest
finds_component {t} {Child} {Item} well elements n kind distinct h octets next k f field begins seen new = finds_as (λ rules r. (forward rules r, backward rules r))
  where
    forward : (rules : EncodingRules) (r : List ℕ) → Front (IsComponent Child rules t None f) octets r → Front (IsSomeMember Child Item t n seen rules) octets r
    forward rules r (x, e, comp) = (x, e, (seen ++ k ∷ [], component k f field new comp))

    backward : (rules : EncodingRules) (r : List ℕ) → Front (IsSomeMember Child Item t n seen rules) octets r → Front (IsComponent Child rules t None f) octets r
    backward rules r (x, e, (after, is)) = (x, e, (member_of_field well elements n kind distinct h octets next k f field begins seen rules x r after e is).2)

-- or an extension addition
pub finds_addition : {t : Table} {Child : Values} {Item : Elements} → BeginWell t Child → AreElements Item → (n : Node) → n.extensible ≡ true → (octets : List ℕ)
    → ((k : ℕ) (f : Field) → IsFieldOf t n k f → NoneBegins t f.node octets) → (seen : List ℕ)
    → {w : Verdict} {rest : List ℕ} → Finds (λ rules. Front (Item rules) octets) w rest
    → Finds (λ rules. Front (IsSomeMember Child Item t n seen rules) octets) w rest
finds_addition {t} {Child} {Item} well elements n extends octets none seen = finds_as (λ rules r. (forward rules r, backward rules r))
  where
    forward : (rules : EncodingRules) (r : List ℕ) → Front (Item rules) octets r → Front (IsSomeMember Child Item t n seen rules) octets r
    forward rules r (x, e, item) = (x, e, (seen, addition extends item untaken))
      where
        untaken : IsUntaken t n x
        untaken k f h field next begins =
            let longer = next_longer r e next in
            none k f field h longer (item_header elements longer rules x r e item).1 begins

    backward : (rules : EncodingRules) (r : List ℕ) → Front (IsSomeMember Child Item t n seen rules) octets r → Front (Item rules) octets r
    backward rules r (x, e, (after, is)) = (x, e, (member_of_none well n octets none seen rules x r after e is).2)

-- an element, and those after it
pub member_found : {t : Table} {Child : Values} {Item : Elements} {n : Node} (seen after before octets rest here : List ℕ) {w : Verdict} (a : Verdict) (m : Bool) (b : List ℕ)
    → (IsEnded m octets → ⊥) → Finds (λ rules. Front (IsSomeMember Child Item t n seen rules) octets) w rest
    → ((rules : EncodingRules) (x r s : List ℕ) → octets ≡ x ++ r → IsMember Child Item rules t n seen x s → s ≡ after)
    → ((x : List ℕ) → octets ≡ x ++ rest → here ≡ x)
    → ((rules : EncodingRules) → (holds rules a ≡ true) ↔ IsTagAfter rules before here)
    → Status (worst w a) (λ rules. Body m b (SomeMembers Child Item rules t n after here) rest) (λ rules. Body m b (SomeMembers Child Item rules t n seen before) octets)
member_found {t} {Child} {Item} {n} seen after before octets rest here {w} a m b going f only same test = record { good = good; bad = bad }
  where
    Whole : Said
    Whole rules = Body m b (SomeMembers Child Item rules t n seen before) octets

    Rest : Said
    Rest rules = Body m b (SomeMembers Child Item rules t n after here) rest

    Step : Said
    Step rules r =
        (x : List ℕ) × (y : List ℕ) × (octets ≡ x ++ y) × IsMember Child Item rules t n seen x after × IsTagAfter rules before x
        × Body m b (SomeMembers Child Item rules t n after x) y r

    step : (rules : EncodingRules) (r : List ℕ) → Whole rules r → Step rules r
    step rules r (inner, within, (zero, are)) = absurd (going (ends_here m b octets r (subst (λ i. IsWithin m b octets i r) are.0 within)))
    step rules r (inner, within, (suc k, (x, left, s, e, order, is, are))) =
        let front = within_front m b octets x left r (subst (λ i. IsWithin m b octets i r) e within) in
        let known : s ≡ after = only rules x front.0 s front.1 is in
        (x, front.0, front.1, subst (IsMember Child Item rules t n seen x) known is, order, (left, front.2, (k, subst (λ q. AreMembers Child Item rules t n k q x left) known are)))

    good : (rules : EncodingRules) → holds rules (worst w a) ≡ true → (r : List ℕ) → Rest rules r ↔ Whole rules r
    good rules on r = (forward, backward)
      where
        ons : (holds rules w ≡ true) × (holds rules a ≡ true)
        ons = worst_true rules w a on

        found : Front (IsSomeMember Child Item t n seen rules) octets rest
        found = (f.exact rules ons.0 rest).1 refl

        this : here ≡ found.0
        this = same found.0 found.1

        forward : Rest rules r → Whole rules r
        forward (inner, within, (k, are)) = (
          found.0 ++ inner,
          within_step m b octets found.0 rest inner r found.1 within,
          (
            suc k,
            (
              found.0,
              inner,
              after,
              refl,
              subst (IsTagAfter rules before) this ((test rules).0 ons.1),
              subst (IsMember Child Item rules t n seen found.0) (only rules found.0 rest found.2.0 found.1 found.2.1) found.2.1,
              subst (λ x. AreMembers Child Item rules t n k after x inner) this are,
            ),
          ),
        )

        backward : Whole rules r → Rest rules r
        backward whole =
            let s = step rules r whole in
            let end : s.1 ≡ rest = (f.exact rules ons.0 s.1).0 (s.0, s.2, (after, s.3)) in
            let it : here ≡ s.0 = same s.0 (s.2 ∙ ap (λ l. s.0 ++ l) end) in
            subst (λ y. Body m b (SomeMembers Child Item rules t n after here) y r) end
            (subst (λ x. Body m b (SomeMembers Child Item rules t n after x) s.1 r) (sym it) s.5)

    bad : (rules : EncodingRules) → holds rules (worst w a) ≡ false → (r : List ℕ) → Whole rules r → ⊥
    bad rules off r whole = pick (cases (holds rules w) (holds rules a))
      where
        s : Step rules r
        s = step rules r whole

        pick : Cases (holds rules w) (holds rules a) → ⊥
        pick (both p q) = let on = worst_both rules w a p q in absurd (cc)
        pick (first p) = f.none rules p s.1 (s.0, s.2, (after, s.3))
        pick (second p q) =
            let end : s.1 ≡ rest = (f.exact rules p s.1).0 (s.0, s.2, (after, s.3)) in
            let it : here ≡ s.0 = same s.0 (s.2 ∙ ap (λ l. s.0 ++ l) end) in
            let on : holds rules a ≡ true = (test rules).1 (subst (IsTagAfter rules before) (sym it) s.4) in
            absurd (cc)

-- at the end, each field was there or may be absent
pub members_end : {t : Table} {Child : Values} {Item : Elements} → BeginWell t Child → AreElements Item → (n : Node) (seen before octets : List ℕ) (m : Bool) (b : List ℕ) → IsEnded m octets
    → {a v : Verdict} {rest : List ℕ} → ((rules : EncodingRules) → (holds rules a ≡ true) ↔ ArePresent t n seen)
    → Finds (λ rules. Body m b (λ inner. inner ≡ []) octets) v rest
    → Finds (λ rules. Body m b (SomeMembers Child Item rules t n seen before) octets) (worst a v) rest
members_end {t} {Child} {Item} well elements n seen before octets m b ended {a} test = finds_and a (λ rules. ArePresent t n seen) test to from
  where
    to : (rules : EncodingRules) (r : List ℕ) → ArePresent t n seen → Body m b (λ inner. inner ≡ []) octets r → Body m b (SomeMembers Child Item rules t n seen before) octets r
    to rules r present (inner, within, none) = (inner, within, (zero, (none, present)))

    from : (rules : EncodingRules) (r : List ℕ) → Body m b (SomeMembers Child Item rules t n seen before) octets r → ArePresent t n seen × Body m b (λ inner. inner ≡ []) octets r
    from rules r (inner, within, (zero, are)) = (are.1, (inner, within, are.0))
    from rules r (inner, within, (suc k, (x, left, s, e, order, is, are))) =
        let front = within_front m b octets x left r (subst (λ i. IsWithin m b octets i r) e within) in
        absurd (none_at_end (IsSomeMember Child Item t n seen rules) (member_elements well elements n seen rules) m octets x front.0 ended front.1 (s, is))

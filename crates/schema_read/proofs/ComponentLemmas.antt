-- Components of a SEQUENCE in order.
use Rattle.std.proofs.Common.{◌≡◌, ◌≢◌, ◌↔◌, ◌⊎◌, ℕ, zero, suc, ◌+◌, ◌<◌, ◌≤◌, Bool, true, false, length, length-append, List, [], ◌++◌, Some, slice_get, refl, sym, ap, ◌∙◌, subst, arith, inl, inr}
use Rattle.der_base.specs.declared.encoding_rules.EncodingRules.{EncodingRules}
use Rattle.ber.specs.Header.{IsNext, end_header}
use Rattle.ber.specs.declared.header.Header.{Header}
use Rattle.ber.specs.declared.universal.Universal.TheVariants.{Sequence}
use Rattle.schema_types.specs.Table.{Table}
use Rattle.schema_types.specs.declared.field.Field.{Field}
use Rattle.schema_types.specs.declared.node.Node.{Node}
use Rattle.schema_types.specs.declared.node_kind.NodeKind.TheVariants.{Universal as Universally}
use Rattle.schema_types.specs.Tags.{IsFieldOf, Begins}
use Rattle.schema_read.specs.Tags.{NoneBegins}
use Rattle.schema_types.specs.Distinct.{may_be_missing, IsDistinct}
use Rattle.schema_read.specs.Verdict.{holds}
use Rattle.schema_read.specs.Known.{Known, Follows}
use Rattle.schema_read.specs.Opened.{IsEnded}
use Rattle.schema_read.specs.Components.{Values, Elements, IsComponent, MayBeAbsent, MayBePassed, IsAddition, AfterAdditions, AreComponents, AreFrom}
use Rattle.schema_read.specs.Reading.{Front, IsWithin, Body, Finds, Status}
use Rattle.schema_read.specs.declared.verdict.Verdict.{Verdict}
use Rattle.schema_read.specs.declared.verdict.Verdict.TheVariants.{Der, Neither}
use Rattle.schema_read.proofs.FindsLemmas.{Said, status_same, status_refused}
use Rattle.schema_read.proofs.AdditionLemmas.{BeginWell, AreElements, pass_one, split_additions, taken_element}
use Rattle.schema_read.proofs.EnclosedLemmas.{front_next, same_next, within_step, within_front}
use Rattle.schema_read.proofs.ItemLemmas.{ends_here}
use Rattle.schema_read.proofs.KnownLemmas.{one_follows}
use Rattle.ber.proofs.GrammarLemmas.{one_header, header_two}
use Rattle.ber.proofs.HeaderLemmas.{end_header_next}

-- octets that begin with no header of a node begin with no value of it
pub none_there : {t : Table} {Child : Values} → BeginWell t Child → (i : ℕ) (octets : List ℕ) → NoneBegins t i octets
    → (rules : EncodingRules) (known : Known) (x r : List ℕ) → octets ≡ x ++ r → Child rules known i x → ⊥
none_there well i octets none rules known x r e child =
    let b = well rules known i x child in
    none b.0 (front_next r b.2 e) b.2.real b.3

-- a component that is there, and those after it
pub component_found : (t : Table) (Child : Values) (Item : Elements) (node : Node) {w : Verdict} (m : Bool) (b octets rest : List ℕ) (n k : ℕ) (f : Field) (known after : Known)
    → slice_get t.fields k ≡ Some f → Finds (λ rules. Front (IsComponent Child rules t known f) octets) w rest
    → ((rules : EncodingRules) (x : List ℕ) → octets ≡ x ++ rest → IsComponent Child rules t known f x → Follows (slice_get t.nodes f.node) k x known after)
    → (MayBeAbsent f → (rules : EncodingRules) (r : List ℕ) → Body m b (AreFrom Child Item rules t node n (suc k) known) octets r → ⊥)
    → Status w (λ rules. Body m b (AreFrom Child Item rules t node n (suc k) after) rest) (λ rules. Body m b (AreComponents Child Item rules t node (suc n) k known) octets)
component_found t Child Item node {w} m b octets rest n k f known after row finds follows never = record { good = good; bad = bad }
  where
    Whole : Said
    Whole rules = Body m b (AreComponents Child Item rules t node (suc n) k known) octets

    Rest : Said
    Rest rules = Body m b (AreFrom Child Item rules t node n (suc k) after) rest

    Step : Said
    Step rules r =
        (x : List ℕ) × (y : List ℕ) × (octets ≡ x ++ y) × IsComponent Child rules t known f x
        × ((later : Known) × Follows (slice_get t.nodes f.node) k x known later × Body m b (AreFrom Child Item rules t node n (suc k) later) y r)

    same_field : (g : Field) → slice_get t.fields k ≡ Some g → g ≡ f
    same_field g e = let both : Some g ≡ Some f = sym e ∙ row in cc

    step : (rules : EncodingRules) (r : List ℕ) → Whole rules r → Step rules r
    step rules r (inner, within, (g, grow, inl (x, left, later, e, comp, fol, comps))) =
        let it = same_field g grow in
        let front = within_front m b octets x left r (subst (λ i. IsWithin m b octets i r) e within) in
        (x, front.0, front.1, subst (λ h. IsComponent Child rules t known h x) it comp, (later, subst (λ (h : Field). Follows (slice_get t.nodes h.node) k x known later) it fol, (left, front.2, comps)))
    step rules r (inner, within, (g, grow, inr (may, comps))) =
        absurd (never (subst MayBeAbsent (same_field g grow) may) rules r (inner, within, comps))

    good : (rules : EncodingRules) → holds rules w ≡ true → (r : List ℕ) → Rest rules r ↔ Whole rules r
    good rules on r = (forward, backward)
      where
        found : Front (IsComponent Child rules t known f) octets rest
        found = (finds.exact rules on rest).1 refl

        forward : Rest rules r → Whole rules r
        forward (inner, within, comps) = (
          found.0 ++ inner,
          within_step m b octets found.0 rest inner r found.1 within,
          (f, row, inl (found.0, inner, after, refl, found.2, follows rules found.0 found.1 found.2, comps)),
        )

        backward : Whole rules r → Rest rules r
        backward whole =
            let s = step rules r whole in
            let end : s.1 ≡ rest = (finds.exact rules on s.1).0 (s.0, s.2, s.3) in
            let split : octets ≡ s.0 ++ rest = s.2 ∙ ap (λ l. s.0 ++ l) end in
            let later : s.4.0 ≡ after = one_follows s.4.1 (follows rules s.0 split s.3) in
            subst (λ y. Body m b (AreFrom Child Item rules t node n (suc k) after) y r) end
            (subst (λ a. Body m b (AreFrom Child Item rules t node n (suc k) a) s.1 r) later s.4.2)

    bad : (rules : EncodingRules) → holds rules w ≡ false → (r : List ℕ) → Whole rules r → ⊥
    bad rules off r whole = let s = step rules r whole in finds.none rules off s.1 (s.0, s.2, s.3)

-- where a component is not there
absent_only : {t : Table} {Child : Values} (Item : Elements) (node : Node) → BeginWell t Child → (m : Bool) (b octets : List ℕ) (n k : ℕ) (f : Field) (known : Known)
    → slice_get t.fields k ≡ Some f → NoneBegins t f.node octets → (rules : EncodingRules) (r : List ℕ)
    → Body m b (AreComponents Child Item rules t node (suc n) k known) octets r
    → (MayBeAbsent f) × Body m b (AreFrom Child Item rules t node n (suc k) known) octets r
absent_only {t} {Child} Item node well m b octets n k f known row none rules r (inner, within, (g, grow, inl (x, left, later, e, comp, fol, comps))) =
    let both : Some g ≡ Some f = sym grow ∙ row in
    let it : g ≡ f = cc in
    let front = within_front m b octets x left r (subst (λ i. IsWithin m b octets i r) e within) in
    absurd (none_there well f.node octets none rules known x front.0 front.1 (subst (λ (h : Field). Child rules known h.node x) it comp.0))
absent_only {t} {Child} Item node well m b octets n k f known row none rules r (inner, within, (g, grow, inr (may, comps))) =
    let both : Some g ≡ Some f = sym grow ∙ row in
    let it : g ≡ f = cc in
    (subst MayBeAbsent it may, (inner, within, comps))

-- it may be absent
pub component_absent : {t : Table} {Child : Values} (Item : Elements) (node : Node) → BeginWell t Child → (m : Bool) (b octets : List ℕ) (n k : ℕ) (f : Field) (known : Known)
    → slice_get t.fields k ≡ Some f → NoneBegins t f.node octets → MayBeAbsent f
    → Status Der (λ rules. Body m b (AreFrom Child Item rules t node n (suc k) known) octets) (λ rules. Body m b (AreComponents Child Item rules t node (suc n) k known) octets)
component_absent Item node well m b octets n k f known row none may = status_same (λ rules r. (
  (λ h. (h.0, h.1, (f, row, inr (may, h.2)))),
  (λ h. (absent_only Item node well m b octets n k f known row none rules r h).1),
))

-- or it is missing
pub component_missing : {t : Table} {Child : Values} (Item : Elements) (node : Node) → BeginWell t Child → (m : Bool) (b octets rest : List ℕ) (n k : ℕ) (f : Field) (known after : Known)
    → slice_get t.fields k ≡ Some f → NoneBegins t f.node octets → may_be_missing (Universally Sequence) f ≡ false
    → Status Neither (λ rules. Body m b (AreFrom Child Item rules t node n (suc k) after) rest) (λ rules. Body m b (AreComponents Child Item rules t node (suc n) k known) octets)
component_missing Item node well m b octets rest n k f known after row none must =
    status_refused (λ rules r h. let may = (absent_only Item node well m b octets n k f known row none rules r h).0 in absurd (cc))

-- where an element begins, contents have not ended
not_ended : {h : Header} (m : Bool) (octets : List ℕ) → IsNext h octets → h ≢ end_header → IsEnded m octets → ⊥
not_ended m octets next real (inl none) = no_front (sym none ∙ next.split)
  where
    no_front : [] ≡ next.front ++ next.rest → ⊥
    no_front size = omega (arith, header_two next.is, next.is.whole, ap length size, length-append next.front next.rest)
not_ended m octets next real (inr marked) =
    let end = (end_header_next octets).0 (marked.1.0, marked.1.1) in
    real (one_header next.is end.is next.rest end.rest (sym next.split ∙ end.split)).0

-- after a field with which octets begin, no others can be there, if it may be absent
pub none_later : {t : Table} {Child : Values} {Item : Elements} → BeginWell t Child → AreElements Item → (node : Node) → node.kind ≡ Universally Sequence → ((k : ℕ) → IsDistinct t node k)
    → (m : Bool) (b octets : List ℕ) (h : Header) → IsNext h octets → h ≢ end_header
    → (j : ℕ) (f : Field) → IsFieldOf t node j f → Begins t f.node h.class h.number
    → (n k : ℕ) (known : Known) → j < k → k + n ≡ node.parts.start + node.parts.count → MayBePassed t node j k
    → (rules : EncodingRules) (r : List ℕ) → Body m b (AreFrom Child Item rules t node n k known) octets r → ⊥
none_later {t} {Child} {Item} well elements node kind distinct m b octets h next real j f field begins zero k known before end lack rules r (inner, within, from) =
    of (split_additions from)
  where
    of : (inner ≡ []) ⊎ ((x : List ℕ) × (rest : List ℕ) × (inner ≡ x ++ rest) × IsAddition Item rules t node k x × AfterAdditions Item rules t node k (λ i. i ≡ []) rest) → ⊥
    of (inl e) = not_ended m octets next real (ends_here m b octets r (subst (λ i. IsWithin m b octets i r) e within))
    of (inr (x, left, e, addition, later)) =
        let front = within_front m b octets x left r (subst (λ i. IsWithin m b octets i r) e within) in
        taken_element elements node k octets next (record { index = j; by = f; may = record { field = field; before = lack; after = λ l g low high is. absurd (omega arith) }; begins = begins }) rules x front.0 front.1 addition
none_later {t} {Child} {Item} well elements node kind distinct m b octets h next real j f field begins (suc n) k known before end lack rules r (inner, within, from) =
    of (split_additions from) (λ g row may comps. none_later well elements node kind distinct m b octets h next real j f field begins n (suc k) known (omega arith) (omega (arith, end)) (pass_one lack row may) rules r (inner, within, comps))
  where
    Later : List ℕ → Type 0
    Later = AreFrom Child Item rules t node n (suc k) known

    Are : List ℕ → Type 0
    Are = AreComponents Child Item rules t node (suc n) k known

    of : Are inner ⊎ ((x : List ℕ) × (rest : List ℕ) × (inner ≡ x ++ rest) × IsAddition Item rules t node k x × AfterAdditions Item rules t node k Are rest)
        → ((g : Field) → slice_get t.fields k ≡ Some g → MayBeAbsent g → Later inner → ⊥) → ⊥
    of (inl (g, row, inl (x, left, later, e, comp, fol, comps))) none =
        let front = within_front m b octets x left r (subst (λ i. IsWithin m b octets i r) e within) in
        let there = well rules known g.node x comp.0 in
        let one : h ≡ there.0 = same_next front.0 next there.2 front.1 in
        let starts : Begins t g.node h.class h.number = subst (λ (i : Header). Begins t g.node i.class i.number) (sym one) there.3 in
        let part : IsFieldOf t node k g = record { part = (omega (arith, field.part), omega (arith, end)); row = row } in
        let missing : (l : ℕ) (i : Field) → j ≤ l → l < k → IsFieldOf t node l i → may_be_missing node.kind i ≡ true =
        λ l i low high is. ap (λ q. may_be_missing q i) kind ∙ lack l i low high is in
        distinct k j f g (record { earlier = field; later = part; before = before; missing = missing })
        (record { class = h.class; number = h.number; first = begins; second = starts })
    of (inl (g, row, inr (may, comps))) none = none g row may comps
    of (inr (x, left, e, addition, later)) none =
        let front = within_front m b octets x left r (subst (λ i. IsWithin m b octets i r) e within) in
        taken_element elements node k octets next (record { index = j; by = f; may = record { field = field; before = lack; after = λ l g low high is. absurd (omega arith) }; begins = begins }) rules x front.0 front.1 addition

-- the same of numbers of components and of indices that are sums
pub status_next : (t : Table) (Child : Values) (Item : Elements) (node : Node) (m : Bool) (b octets rest : List ℕ) (n k : ℕ) (known after : Known) {v : Verdict}
    → Status v (λ rules. Body m b (AreFrom Child Item rules t node n (suc k) after) rest) (λ rules. Body m b (AreComponents Child Item rules t node (suc n) k known) octets)
    → Status v (λ rules. Body m b (AreFrom Child Item rules t node n (k + 1) after) rest) (λ rules. Body m b (AreComponents Child Item rules t node (n + 1) k known) octets)
status_next t Child Item node m b octets rest n k known after {v} s =
    let e : suc k ≡ k + 1 = omega arith in
    let f : suc n ≡ n + 1 = omega arith in
    subst (λ i. Status v (λ rules. Body m b (AreFrom Child Item rules t node n (k + 1) after) rest) (λ rules. Body m b (AreComponents Child Item rules t node i k known) octets)) f
    (subst (λ j. Status v (λ rules. Body m b (AreFrom Child Item rules t node n j after) rest) (λ rules. Body m b (AreComponents Child Item rules t node (suc n) k known) octets)) e s)

-- the same at octets that are equal
pub status_at : (Are After : EncodingRules → List ℕ → Type 0) {m p : Bool} {b c octets others : List ℕ} (rest : List ℕ) {v : Verdict} → m ≡ p → b ≡ c → octets ≡ others
    → Status v (λ rules. Body m b (After rules) rest) (λ rules. Body m b (Are rules) octets)
    → Status v (λ rules. Body p c (After rules) rest) (λ rules. Body p c (Are rules) others)
status_at Are After {m} {p} {b} {c} {octets} {others} rest {v} e f g s =
    subst (λ x. Status v (λ rules. Body p c (After rules) rest) (λ rules. Body p c (Are rules) x)) g
    (subst (λ x. Status v (λ rules. Body p x (After rules) rest) (λ rules. Body p x (Are rules) octets)) f
    (subst (λ x. Status v (λ rules. Body x b (After rules) rest) (λ rules. Body x b (Are rules) octets)) e s))

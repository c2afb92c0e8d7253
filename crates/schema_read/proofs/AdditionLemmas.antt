-- Extension additions that a type does not have.
use Rattle.std.proofs.Common.{◌≡◌, ◌≢◌, ◌↔◌, ◌⊎◌, ℕ, zero, suc, ◌+◌, ◌≤◌, Bool, true, false, List, [], ◌++◌, Some, refl, sym, ap, ◌∙◌, subst, append_assoc, append-nil, arith, inl, inr, ⊎_elim, slice_get}
use Rattle.std.proofs.lemmas.Bool.{cases_lt}
use Rattle.der_base.specs.declared.encoding_rules.EncodingRules.{EncodingRules}
use Rattle.ber.specs.Header.{IsNext, end_header}
use Rattle.ber.specs.declared.header.Header.{Header}
use Rattle.schema_types.specs.Table.{Table}
use Rattle.schema_types.specs.declared.field.Field.{Field}
use Rattle.schema_types.specs.declared.node.Node.{Node}
use Rattle.schema_types.specs.Tags.{Begins}
use Rattle.schema_read.specs.Verdict.{holds}
use Rattle.schema_read.specs.Enclosed.{IsEnclosed}
use Rattle.schema_read.specs.Known.{Known}
use Rattle.schema_read.specs.Opened.{IsEnded}
use Rattle.schema_read.specs.Components.{Values, Elements, MayBeAbsent, MayBePassed, IsInsertion, IsTaken, IsAddition, AfterAdditions, AreComponents}
use Rattle.schema_read.specs.Items.{AreItems}
use Rattle.schema_read.specs.Reading.{Front, IsWithin, Body, Finds, Status}
use Rattle.schema_read.specs.declared.verdict.Verdict.{Verdict}
use Rattle.schema_read.specs.declared.verdict.Verdict.TheVariants.{Der}
use Rattle.schema_read.proofs.FindsLemmas.{Said, status_same}
use Rattle.schema_read.proofs.EnclosedLemmas.{front_next, same_next, within_step, within_front}
use Rattle.schema_read.proofs.ItemLemmas.{OfElements, ends_here}

-- each value is an element that begins as the table says
abbrev pub BeginWell : Table → Values → Type 0
BeginWell t Child =
    (rules : EncodingRules) (known : Known) (i : ℕ) (x : List ℕ) → Child rules known i x
    → (h : Header) × (inner : List ℕ) × IsEnclosed rules h inner x × Begins t i h.class h.number

-- items in no order are the same after any other
items_after : (rules : EncodingRules) (Item : List ℕ → Type 0) (a b : List ℕ) (n : ℕ) (octets : List ℕ)
    → AreItems false rules Item a n octets → AreItems false rules Item b n octets
items_after rules Item a b zero octets e = e
items_after rules Item a b (suc n) octets (x, rest, split, is, order, items) =
    (x, rest, split, is, (λ no. absurd (cc)), items)

-- octets begin with the header of what they begin with
pub next_longer : {h : Header} {x octets : List ℕ} (r : List ℕ) → octets ≡ x ++ r → IsNext h x → IsNext h octets
next_longer r e next = record {
  front = next.front;
  rest = next.rest ++ r;
  is = next.is;
  split = e ∙ ap (λ l. l ++ r) next.split ∙ append_assoc next.front next.rest r;
}

-- what holds of elements of any type
abbrev pub AreElements : Elements → Type 0
AreElements Item = (rules : EncodingRules) → OfElements (Item rules)

-- no addition, or one and those after it
pub split_additions : {Item : Elements} {rules : EncodingRules} {t : Table} {n : Node} {k : ℕ} {Are : List ℕ → Type 0} {octets : List ℕ}
    → AfterAdditions Item rules t n k Are octets
    → Are octets ⊎ ((x : List ℕ) × (rest : List ℕ) × (octets ≡ x ++ rest) × IsAddition Item rules t n k x × AfterAdditions Item rules t n k Are rest)
split_additions {Are = Are} (a, rest, e, (zero, items, count), are) =
    inl (subst Are (sym (e ∙ ap (λ l. l ++ rest) items)) are)
split_additions {Item} {rules} {t} {n} {k} (a, rest, e, (suc m, (x, y, split, is, order, items), count), are) = inr (
  x,
  y ++ rest,
  e ∙ ap (λ l. l ++ rest) split ∙ append_assoc x y rest,
  is,
  (y, rest, refl, (m, items_after rules (IsAddition Item rules t n k) x [] m y items, tt), are),
)

pub join_additions : {Item : Elements} {rules : EncodingRules} {t : Table} {n : Node} {k : ℕ} {Are : List ℕ → Type 0} (x : List ℕ) {rest : List ℕ}
    → IsAddition Item rules t n k x → AfterAdditions Item rules t n k Are rest → AfterAdditions Item rules t n k Are (x ++ rest)
join_additions {Item} {rules} {t} {n} {k} x is (a, rest, e, (m, items, count), are) = (
  x ++ a,
  rest,
  ap (λ l. x ++ l) e ∙ sym (append_assoc x a rest),
  (suc m, (x, a, refl, is, (λ no. absurd (cc)), items_after rules (IsAddition Item rules t n k) [] x m a items), tt),
  are,
)

-- an addition, and what follows
pub addition_found : {Item : Elements} {t : Table} {n : Node} {k : ℕ} (Are : EncodingRules → List ℕ → Type 0) {w : Verdict} (m : Bool) (b octets rest : List ℕ)
    → ((rules : EncodingRules) (r : List ℕ) → Body m b (Are rules) octets r → ⊥)
    → ((rules : EncodingRules) (x r : List ℕ) → octets ≡ x ++ r → Item rules x → IsAddition Item rules t n k x)
    → Finds (λ rules. Front (Item rules) octets) w rest
    → Status w (λ rules. Body m b (AfterAdditions Item rules t n k (Are rules)) rest) (λ rules. Body m b (AfterAdditions Item rules t n k (Are rules)) octets)
addition_found {Item} {t} {n} {k} Are {w} m b octets rest never is finds = record { good = good; bad = bad }
  where
    After : List ℕ → Said
    After octets rules = Body m b (AfterAdditions Item rules t n k (Are rules)) octets

    Step : Said
    Step rules r = (y : List ℕ) × Front (Item rules) octets y × After y rules r

    step : (rules : EncodingRules) (r : List ℕ) → After octets rules r → Step rules r
    step rules r (inner, within, are) = of (split_additions are)
      where
        of : Are rules inner ⊎ ((x : List ℕ) × (rest : List ℕ) × (inner ≡ x ++ rest) × IsAddition Item rules t n k x × AfterAdditions Item rules t n k (Are rules) rest) → Step rules r
        of (inl none) = absurd (never rules r (inner, within, none))
        of (inr (x, left, e, addition, later)) =
            let front = within_front m b octets x left r (subst (λ i. IsWithin m b octets i r) e within) in
            (front.0, (x, front.1, addition.item), (left, front.2, later))

    good : (rules : EncodingRules) → holds rules w ≡ true → (r : List ℕ) → After rest rules r ↔ After octets rules r
    good rules on r = (forward, backward)
      where
        found : Front (Item rules) octets rest
        found = (finds.exact rules on rest).1 refl

        forward : After rest rules r → After octets rules r
        forward (inner, within, are) = (
          found.0 ++ inner,
          within_step m b octets found.0 rest inner r found.1 within,
          join_additions found.0 (is rules found.0 rest found.1 found.2) are,
        )

        backward : After octets rules r → After rest rules r
        backward whole =
            let s = step rules r whole in
            subst (λ y. After y rules r) ((finds.exact rules on s.0).0 s.1) s.2

    bad : (rules : EncodingRules) → holds rules w ≡ false → (r : List ℕ) → After octets rules r → ⊥
    bad rules off r whole = let s = step rules r whole in finds.none rules off s.0 s.1

-- there is none, where none begins
pub additions_end : {Item : Elements} {t : Table} {n : Node} {k : ℕ} (Are : EncodingRules → List ℕ → Type 0) (m : Bool) (b octets : List ℕ)
    → ((rules : EncodingRules) (x r : List ℕ) → octets ≡ x ++ r → IsAddition Item rules t n k x → ⊥)
    → Status Der (λ rules. Body m b (Are rules) octets) (λ rules. Body m b (AfterAdditions Item rules t n k (Are rules)) octets)
additions_end {Item} {t} {n} {k} Are m b octets never = status_same (λ rules r. (forward rules r, backward rules r))
  where
    forward : (rules : EncodingRules) (r : List ℕ) → Body m b (Are rules) octets r → Body m b (AfterAdditions Item rules t n k (Are rules)) octets r
    forward rules r (inner, within, are) = (inner, within, ([], inner, refl, (zero, refl, tt), are))

    backward : (rules : EncodingRules) (r : List ℕ) → Body m b (AfterAdditions Item rules t n k (Are rules)) octets r → Body m b (Are rules) octets r
    backward rules r (inner, within, are) = of (split_additions are)
      where
        of : Are rules inner ⊎ ((x : List ℕ) × (rest : List ℕ) × (inner ≡ x ++ rest) × IsAddition Item rules t n k x × AfterAdditions Item rules t n k (Are rules) rest) → Body m b (Are rules) octets r
        of (inl none) = (inner, within, none)
        of (inr (x, left, e, addition, later)) =
            let front = within_front m b octets x left r (subst (λ i. IsWithin m b octets i r) e within) in
            absurd (never rules x front.0 front.1 addition)

-- a node has one insertion point at most
pub one_insertion : (n : Node) {j k : ℕ} → IsInsertion n j → IsInsertion n k → j ≡ k
one_insertion n (i, is, e) (o, also, f) =
    let both : Some i ≡ Some o = sym is ∙ also in
    let same : i ≡ o = cc in
    e ∙ ap (λ q. n.parts.start + q) same ∙ sym f

-- fields up to one that may be absent, and it
pub pass_one : {t : Table} {n : Node} {j k : ℕ} {f : Field} → MayBePassed t n j k → slice_get t.fields k ≡ Some f → MayBeAbsent f → MayBePassed t n j (suc k)
pass_one {t} {n} {j} {k} {f} passed row may l g low high is = ⊎_elim (λ less. passed l g low less is) (λ more. here (omega arith)) (cases_lt l k)
  where
    here : l ≡ k → MayBeAbsent g
    here e =
        let its : slice_get t.fields k ≡ Some g = subst (λ (q : ℕ). slice_get t.fields q ≡ Some g) e is.row in
        let both : Some f ≡ Some g = sym row ∙ its in
        let it : f ≡ g = cc in
        subst MayBeAbsent it may

-- fields up to one, and those from there on
pub passed_on : {t : Table} {n : Node} {i j k : ℕ} → MayBePassed t n i j → MayBePassed t n j k → MayBePassed t n i k
passed_on {j = j} first others l g low high is = ⊎_elim (λ less. first l g low less is) (λ more. others l g more high is) (cases_lt l j)

-- where contents go on with an element that no field takes, no component is next
pub none_taken : {t : Table} {Child : Values} (Item : Elements) → BeginWell t Child → (n : Node) (point : ℕ) → IsInsertion n point
    → (m : Bool) (b octets : List ℕ) → (IsEnded m octets → ⊥) → ((h : Header) → IsNext h octets → h ≢ end_header → IsTaken t n point h → ⊥)
    → (count k : ℕ) (known : Known) → point ≤ k → MayBePassed t n point k → k + count ≡ n.parts.start + n.parts.count
    → (rules : EncodingRules) (r : List ℕ) → Body m b (AreComponents Child Item rules t n count k known) octets r → ⊥
none_taken Item well n point at m b octets going untaken zero k known after passed end rules r (inner, within, e) =
    going (ends_here m b octets r (subst (λ i. IsWithin m b octets i r) e within))
none_taken {t} Item well n point at m b octets going untaken (suc count) k known after passed end rules r (inner, within, (g, row, inl (x, left, later, e, comp, fol, comps))) =
    let front = within_front m b octets x left r (subst (λ i. IsWithin m b octets i r) e within) in
    let there = well rules known g.node x comp.0 in
    untaken there.0 (front_next front.0 there.2 front.1) there.2.real (record {
      index = k;
      by = g;
      may = record { field = record { part = (omega (arith, at.2), omega (arith, end)); row = row }; before = λ l f low high is. absurd (omega arith); after = passed };
      begins = there.3;
    })
none_taken {t} {Child} Item well n point at m b octets going untaken (suc count) k known after passed end rules r (inner, within, (g, row, inr (may, comps))) =
    of (split_additions comps) (λ none. none_taken Item well n point at m b octets going untaken count (suc k) known (omega arith) (pass_one passed row may) (omega (arith, end)) rules r (inner, within, none))
  where
    Are : List ℕ → Type 0
    Are = AreComponents Child Item rules t n count (suc k) known

    of : Are inner ⊎ ((x : List ℕ) × (rest : List ℕ) × (inner ≡ x ++ rest) × IsAddition Item rules t n (suc k) x × AfterAdditions Item rules t n (suc k) Are rest)
        → (Are inner → ⊥) → ⊥
    of (inl none) later = later none
    of (inr (x, left, e, addition, others)) later = let same = one_insertion n at addition.at in omega (arith, same)

-- where octets begin with the tag of a field that takes it, no addition is next
pub taken_element : {t : Table} {Item : Elements} → AreElements Item → (n : Node) (k : ℕ) (octets : List ℕ) {h : Header} → IsNext h octets → IsTaken t n k h
    → (rules : EncodingRules) (x r : List ℕ) → octets ≡ x ++ r → IsAddition Item rules t n k x → ⊥
taken_element {t} elements n k octets {h} next taken rules x r e addition =
    let el = elements rules x addition.item in
    let one : h ≡ el.1 = same_next r next el.3 e in
    addition.unknown el.1 (front_next [] el.3 (sym (append-nil x))) (subst (λ (g : Header). IsTaken t n k g) one taken)

-- the header of an element of any type is the one at the front
pub item_header : {Item : Elements} → AreElements Item → {h : Header} {octets : List ℕ} → IsNext h octets → (rules : EncodingRules) (x r : List ℕ) → octets ≡ x ++ r → Item rules x
    → IsNext h x × (h ≢ end_header)
item_header elements {h} next rules x r e item =
    let el = elements rules x item in
    let one : h ≡ el.1 = same_next r next el.3 e in
    (subst (λ (g : Header). IsNext g x) (sym one) (front_next [] el.3 (sym (append-nil x))), λ is. el.3.real (sym one ∙ is))

-- an element that no field takes is an addition
pub untaken_element : {t : Table} {Item : Elements} → AreElements Item → (n : Node) (k : ℕ) → IsInsertion n k → (octets : List ℕ) → ((h : Header) → IsNext h octets → h ≢ end_header → IsTaken t n k h → ⊥)
    → (rules : EncodingRules) (x r : List ℕ) → octets ≡ x ++ r → Item rules x → IsAddition Item rules t n k x
untaken_element {t} elements n k at octets untaken rules x r e is = record { at = at; item = is; unknown = unknown }
  where
    unknown : (h : Header) → IsNext h x → IsTaken t n k h → ⊥
    unknown h next taken =
        let longer = next_longer r e next in
        untaken h longer (item_header elements longer rules x r e is).1 taken

-- Values of nodes: each is an element that begins as the table says, and what its contents are.
use Rattle.std.proofs.Common.{◌≡◌, ◌≢◌, ◌↔◌, ℕ, zero, suc, ◌+◌, ◌-◌, ◌<◌, Bool, true, false, length, List, ◌++◌, Option, Some, None, slice_get, refl, sym, ap, ◌∙◌, subst, append-nil, arith}
use Rattle.der_base.specs.declared.encoding_rules.EncodingRules.{EncodingRules}
use Rattle.ber.specs.Header.{IsNext}
use Rattle.ber.specs.declared.header.Header.{Header}
use Rattle.schema_types.specs.Table.{Table}
use Rattle.schema_types.specs.declared.node.Node.{Node}
use Rattle.schema_types.specs.declared.node_kind.NodeKind.TheVariants.{Open}
use Rattle.schema_types.specs.Tags.{Selects, itself, alternative, SelectsOne, HasTag, each, is_untagged, IsSelected, Begins}
use Rattle.schema_types.specs.Distinct.{AreDistinct}
use Rattle.schema_read.specs.Verdict.{holds, worst}
use Rattle.schema_read.specs.Enclosed.{IsEnclosed, BeginWithNone}
use Rattle.schema_read.specs.Known.{Known, IsChosen, IsUnknown}
use Rattle.schema_read.specs.Components.{Values, Elements}
use Rattle.schema_read.specs.Value.{IsAny, AreContents, shape_of, IsNode, element, chosen, IsValue}
use Rattle.schema_read.specs.Reading.{Front, Body, Finds}
use Rattle.schema_read.specs.declared.verdict.Verdict.{Verdict}
use Rattle.schema_types.specs.declared.field.Field.{Field}
use Rattle.schema_types.specs.declared.node_kind.NodeKind.TheVariants.{Universal as Universally, Choice}
use Rattle.ber.specs.Element.{IsElement}
use Rattle.ber.specs.Universal.{form_of}
use Rattle.ber.specs.declared.form.Form.TheVariants.{Constructed}
use Rattle.ber.specs.declared.length.Length.{Length}
use Rattle.ber.specs.declared.length.Length.TheVariants.{Definite, Indefinite}
use Rattle.ber.specs.declared.universal.Universal.{Universal}
use Rattle.ber.specs.declared.universal.Universal.TheVariants.{ObjectIdentifier}
use Rattle.schema_read.specs.Enclosed.{IsCounted, ending}
use Rattle.schema_read.specs.Known.{IsIdentifier}
use Rattle.schema_read.specs.Components.{IsNoDefault, IsComponent}
use Rattle.schema_read.specs.Value.{AreBounded, IsOfType, is_joined, is_constructed}
use Rattle.schema_read.specs.declared.shape.Shape.{Shape}
use Rattle.schema_read.specs.declared.shape.Shape.TheVariants.{Components, Members, Of, Items, SortedItems, Inner, Untyped, Nothing}
use Rattle.schema_read.proofs.ItemLemmas.{OfElements}
use Rattle.schema_read.proofs.FindsLemmas.{finds_as, body_as, Cases, both, first, second, cases, worst_true, worst_both}
use Rattle.schema_read.proofs.EnclosedLemmas.{Elem, same_next, no_element_cut}
use Rattle.schema_read.proofs.AdditionLemmas.{BeginWell}
use Rattle.schema_types.proofs.TagLemmas.{one_selected}

-- one level of nesting

pub value_none : (t : Table) (rules : EncodingRules) (known : Known) (i : ℕ) (x : List ℕ) → IsValue t 0 rules known i x → ⊥
unfolding IsValue
value_none t rules known i x h = h

-- a value of a node that a node selects
abbrev pub IsSelectedValue : Table → ℕ → EncodingRules → Known → ℕ → List ℕ → Type 0
IsSelectedValue t d rules known i x =
    (via : Option ℕ) × (m : ℕ)
    × SelectsOne t (λ n. IsNode rules t (IsValue t d) (IsAny d) known n x) i via m

pub value_step : (t : Table) (d : ℕ) (rules : EncodingRules) (known : Known) (i : ℕ) (x : List ℕ) → 0 < d → IsSelectedValue t (d - 1) rules known i x ↔ IsValue t d rules known i x
unfolding IsValue
value_step t zero rules known i x some = absurd (omega arith)
value_step t (suc d) rules known i x some =
    let e : suc d - 1 ≡ d = omega arith in
    (λ h. subst (λ k. IsSelectedValue t k rules known i x) e h, λ h. subst (λ k. IsSelectedValue t k rules known i x) (sym e) h)

-- a value of a node is an element with a tag of it
abbrev pub NodeBegins : (EncodingRules → Node → List ℕ → Type 0) → Type 0
NodeBegins Is =
    (rules : EncodingRules) (n : Node) (x : List ℕ) → Is rules n x
    → (h : Header) × (inner : List ℕ) × IsEnclosed rules h inner x × HasTag n h.class h.number

node_begins : {t : Table} {Child : Values} {Item : Elements} → BeginWell t Child → (rules : EncodingRules) (known : Known) (n : Node) (x : List ℕ) → IsNode rules t Child Item known n x
    → (h : Header) × (inner : List ℕ) × IsEnclosed rules h inner x × HasTag n h.class h.number
node_begins well rules known n x (element h inner is tag unknown are) = (h, inner, is, tag)
node_begins well rules known n x (chosen m kind is child) =
    let b = well rules known m x child in
    (b.0, b.1, b.2, each (ap is_untagged kind))

pub value_begins : (t : Table) (d : ℕ) → BeginWell t (IsValue t d)
value_begins t zero rules known i x h = absurd (value_none t rules known i x h)
value_begins t (suc d) rules known i x h =
    let e : suc d - 1 ≡ d = omega arith in
    let s = subst (λ k. IsSelectedValue t k rules known i x) e ((value_step t (suc d) rules known i x (omega arith)).1 h) in
    let b = node_begins (value_begins t d) rules known s.2.node x s.2.fact in
    (b.0, b.1, b.2, record { via = s.0; node = s.1; selected = record { node = s.2.node; selects = s.2.selects; row = s.2.row; fact = b.3 } })

-- what the node with the tag of the header is, the value is
pub finds_selected : {t : Table} {v : Verdict} {rest octets : List ℕ} (d : ℕ) (known : Known) (i m : ℕ) {via : Option ℕ} {h : Header} → 0 < d → AreDistinct t
    → IsNext h octets → IsSelected t i h.class h.number via m
    → ((n : Node) → slice_get t.nodes m ≡ Some n → Finds (λ rules. Front (IsNode rules t (IsValue t (d - 1)) (IsAny (d - 1)) known n) octets) v rest)
    → Finds (λ rules. Front (IsValue t d rules known i) octets) v rest
finds_selected {t} {v} {rest} {octets} d known i m {via} {h} some distinct next sel f = finds_as same (f sel.node sel.row)
  where
    same : (rules : EncodingRules) (r : List ℕ) → Front (IsNode rules t (IsValue t (d - 1)) (IsAny (d - 1)) known sel.node) octets r ↔ Front (IsValue t d rules known i) octets r
    same rules r = (forward, backward)
      where
        forward : Front (IsNode rules t (IsValue t (d - 1)) (IsAny (d - 1)) known sel.node) octets r → Front (IsValue t d rules known i) octets r
        forward (x, e, is) = (x, e, (value_step t d rules known i x some).0 (via, m, record { node = sel.node; selects = sel.selects; row = sel.row; fact = is }))

        backward : Front (IsValue t d rules known i) octets r → Front (IsNode rules t (IsValue t (d - 1)) (IsAny (d - 1)) known sel.node) octets r
        backward (x, e, is) =
            let s = (value_step t d rules known i x some).1 is in
            let b = node_begins (value_begins t (d - 1)) rules known s.2.node x s.2.fact in
            let one : h ≡ b.0 = same_next r next b.2 e in
            let tag : HasTag s.2.node h.class h.number = subst (λ (k : Header). HasTag s.2.node k.class k.number) (sym one) b.3 in
            let also : IsSelected t i h.class h.number s.0 s.1 = record { node = s.2.node; selects = s.2.selects; row = s.2.row; fact = tag } in
            let there : m ≡ s.1 = (one_selected distinct sel also).1 in
            let rows : Some sel.node ≡ Some s.2.node = sym sel.row ∙ ap (slice_get t.nodes) there ∙ s.2.row in
            let it : sel.node ≡ s.2.node = cc in
            (x, e, subst (λ n. IsNode rules t (IsValue t (d - 1)) (IsAny (d - 1)) known n x) (sym it) s.2.fact)

-- what the contents of the element of a node are, the value of the node is
pub finds_node : {t : Table} {Child : Values} {Item : Elements} {v : Verdict} {rest octets : List ℕ} (known : Known) (n : Node) (h : Header) → IsNext h octets → HasTag n h.class h.number
    → (n.kind ≡ Open → IsUnknown t n known)
    → Finds (λ rules. Front (Elem (λ rules g inner. AreContents (shape_of n.kind) rules t Child Item known n g inner) rules) octets) v rest
    → Finds (λ rules. Front (IsNode rules t Child Item known n) octets) v rest
finds_node {t} {Child} {Item} {v} {rest} {octets} known n h next tag unknown f = finds_as same f
  where
    same : (rules : EncodingRules) (r : List ℕ) → Front (Elem (λ rules g inner. AreContents (shape_of n.kind) rules t Child Item known n g inner) rules) octets r ↔ Front (IsNode rules t Child Item known n) octets r
    same rules r = (forward, backward)
      where
        forward : Front (Elem (λ rules g inner. AreContents (shape_of n.kind) rules t Child Item known n g inner) rules) octets r → Front (IsNode rules t Child Item known n) octets r
        forward (x, e, (g, inner, is, are)) =
            let one : h ≡ g = same_next r next is e in
            (x, e, element g inner is (subst (λ (k : Header). HasTag n k.class k.number) one tag) unknown are)

        backward : Front (IsNode rules t Child Item known n) octets r → Front (Elem (λ rules g inner. AreContents (shape_of n.kind) rules t Child Item known n g inner) rules) octets r
        backward (x, e, element g inner is has un are) = (x, e, (g, inner, is, are))
        backward (x, e, chosen m kind is child) = absurd (unknown kind m is)

-- what the chosen type of an open type is, the value of the open type is
pub finds_chosen : {t : Table} {Child : Values} {Item : Elements} {v : Verdict} {rest octets : List ℕ} (known : Known) (n : Node) (m : ℕ) → n.kind ≡ Open → IsChosen t n known m
    → ((o : ℕ) → IsChosen t n known o → o ≡ m)
    → Finds (λ rules. Front (Child rules known m) octets) v rest
    → Finds (λ rules. Front (IsNode rules t Child Item known n) octets) v rest
finds_chosen {t} {Child} {Item} {v} {rest} {octets} known n m kind is single f = finds_as same f
  where
    same : (rules : EncodingRules) (r : List ℕ) → Front (Child rules known m) octets r ↔ Front (IsNode rules t Child Item known n) octets r
    same rules r = (forward, backward)
      where
        forward : Front (Child rules known m) octets r → Front (IsNode rules t Child Item known n) octets r
        forward (x, e, child) = (x, e, chosen m kind is child)

        backward : Front (IsNode rules t Child Item known n) octets r → Front (Child rules known m) octets r
        backward (x, e, element g inner en has un are) = absurd (un kind m is)
        backward (x, e, chosen o also there child) = (x, e, subst (λ q. Child rules known q x) (single o there) child)

-- no value is where there is no element, or one with the wrong tag

pub no_value : (t : Table) {octets : List ℕ} (d : ℕ) (known : Known) (i : ℕ) → BeginWithNone d octets → (rules : EncodingRules) (r : List ℕ) → Front (IsValue t d rules known i) octets r → ⊥
no_value t zero known i none rules r (x, e, is) = value_none t rules known i x is
no_value t (suc d) known i none rules r (x, e, is) =
    let b = value_begins t (suc d) rules known i x is in
    none rules b.0 b.1 x r (omega arith) e b.2

pub no_value_of_tag : (t : Table) {h : Header} {octets : List ℕ} (d : ℕ) (known : Known) (i : ℕ) → IsNext h octets → (Begins t i h.class h.number → ⊥) → (rules : EncodingRules) (r : List ℕ) → Front (IsValue t d rules known i) octets r → ⊥
no_value_of_tag t {h = h} d known i next none rules r (x, e, is) =
    let b = value_begins t d rules known i x is in
    let one : h ≡ b.0 = same_next r next b.2 e in
    none (subst (λ (k : Header). Begins t i k.class k.number) (sym one) b.3)

pub value_elements : (t : Table) (d : ℕ) (known : Known) (i : ℕ) (rules : EncodingRules) → OfElements (IsValue t d rules known i)
value_elements t d known i rules x is = let b = value_begins t d rules known i x is in (rules, b.0, b.1, b.2)

-- a primitive element has a definite length
definite_element : {rules : EncodingRules} {h : Header} {inner x : List ℕ} → IsEnclosed rules h inner x → h.constructed ≡ false → IsElement h inner x
definite_element {rules} {h} {inner} {x} is off = of h.length refl
  where
    of : (l : Length) → h.length ≡ l → IsElement h inner x
    of (Definite n) e =
        let size : length inner ≡ n = subst (λ k. IsCounted k inner) e is.counted in
        record {
          front = is.front;
          is = is.is;
          counted = e ∙ ap Definite (sym size);
          spelled = is.spelled ∙ ap (λ l. is.front ++ (inner ++ ending l)) e ∙ ap (λ l. is.front ++ l) (append-nil inner);
        }
    of Indefinite e = let on : h.constructed ≡ true = is.is.form e in absurd (cc)

-- a node that is no CHOICE selects itself
selects_self : {t : Table} {i m : ℕ} {via : Option ℕ} → Selects t i via m → (n : Node) → slice_get t.nodes i ≡ Some n → n.kind ≢ Choice → m ≡ i
selects_self (itself row other) n here no_choice = refl
selects_self (alternative {n = o} row kind field rest) n here no_choice =
    let both : Some o ≡ Some n = sym row ∙ here in
    let it : o ≡ n = cc in
    absurd (no_choice (subst (λ (q : Node). q.kind ≡ Choice) it kind))

-- an OBJECT IDENTIFIER is an element of definite length
pub identifier_element : (t : Table) (d : ℕ) (rules : EncodingRules) (known : Known) (i : ℕ) (x : List ℕ) → IsIdentifier (slice_get t.nodes i) → IsValue t d rules known i x
    → (h : Header) × (inner : List ℕ) × IsElement h inner x
identifier_element t zero rules known i x id is = absurd (value_none t rules known i x is)
identifier_element t (suc d) rules known i x id is = at (slice_get t.nodes i) refl id
  where
    s : IsSelectedValue t (suc d - 1) rules known i x
    s = (value_step t (suc d) rules known i x (omega arith)).1 is

    at : (o : Option Node) → slice_get t.nodes i ≡ o → IsIdentifier o → (h : Header) × (inner : List ℕ) × IsElement h inner x
    at None e no_node = absurd no_node
    at (Some n) e kind = of s.2.fact
      where
        here : s.1 ≡ i
        here = selects_self s.2.selects n e (λ c. let both : Universally ObjectIdentifier ≡ Choice = sym kind ∙ c in absurd (cc))

        same : s.2.node ≡ n
        same = let both : Some s.2.node ≡ Some n = sym s.2.row ∙ ap (slice_get t.nodes) here ∙ e in cc

        its : s.2.node.kind ≡ Universally ObjectIdentifier
        its = ap (λ (q : Node). q.kind) same ∙ kind

        of : IsNode rules t (IsValue t (suc d - 1)) (IsAny (suc d - 1)) known s.2.node x → (h : Header) × (inner : List ℕ) × IsElement h inner x
        of (chosen m open_kind is_chosen child) = let both : Universally ObjectIdentifier ≡ Open = sym its ∙ open_kind in absurd (cc)
        of (element h inner en has unknown are) = primitive h.constructed refl
          where
            contents : (c : Bool) → h.constructed ≡ c → IsOfType (is_joined c ObjectIdentifier) c rules t (IsValue t (suc d - 1)) (IsAny (suc d - 1)) known s.2.node ObjectIdentifier inner
            contents c e = subst (λ k. IsOfType (is_joined k ObjectIdentifier) k rules t (IsValue t (suc d - 1)) (IsAny (suc d - 1)) known s.2.node ObjectIdentifier inner) e
                (subst (λ k. AreContents (shape_of k) rules t (IsValue t (suc d - 1)) (IsAny (suc d - 1)) known s.2.node h inner) its are)

            primitive : (b : Bool) → h.constructed ≡ b → (g : Header) × (c : List ℕ) × IsElement g c x
            primitive false off = (h, inner, definite_element en off)
            primitive true on =
                let may : form_of ObjectIdentifier ≡ Constructed = (contents true on).0.0 in
                absurd (cc)

-- the encoding of a component
pub component_finds : (t : Table) (Child : Values) (known : Known) (f : Field) {v a : Verdict} {octets rest : List ℕ} (here : List ℕ)
    → Finds (λ rules. Front (Child rules known f.node) octets) v rest → ((x : List ℕ) → octets ≡ x ++ rest → here ≡ x)
    → ((rules : EncodingRules) → (holds rules a ≡ true) ↔ IsNoDefault rules t f here)
    → Finds (λ rules. Front (IsComponent Child rules t known f) octets) (worst v a) rest
component_finds t Child known f {v} {a} {octets} {rest} here finds same test = record { exact = exact; none = none }
  where
    exact : (rules : EncodingRules) → holds rules (worst v a) ≡ true → (r : List ℕ) → Front (IsComponent Child rules t known f) octets r ↔ (r ≡ rest)
    exact rules on r = (forward, backward)
      where
        ons : (holds rules v ≡ true) × (holds rules a ≡ true)
        ons = worst_true rules v a on

        forward : Front (IsComponent Child rules t known f) octets r → r ≡ rest
        forward (x, e, c) = (finds.exact rules ons.0 r).0 (x, e, c.0)

        backward : r ≡ rest → Front (IsComponent Child rules t known f) octets r
        backward e =
            let found = (finds.exact rules ons.0 r).1 e in
            let it : here ≡ found.0 = same found.0 (found.1 ∙ ap (λ l. found.0 ++ l) e) in
            (found.0, found.1, (found.2, subst (IsNoDefault rules t f) it ((test rules).0 ons.1)))

    none : (rules : EncodingRules) → holds rules (worst v a) ≡ false → (r : List ℕ) → Front (IsComponent Child rules t known f) octets r → ⊥
    none rules off r (x, e, c) = pick (cases (holds rules v) (holds rules a))
      where
        pick : Cases (holds rules v) (holds rules a) → ⊥
        pick (both p q) = let on = worst_both rules v a p q in absurd (cc)
        pick (first p) = finds.none rules p r (x, e, c.0)
        pick (second p q) =
            let end : r ≡ rest = (finds.exact rules p r).0 (x, e, c.0) in
            let it : here ≡ x = same x (e ∙ ap (λ l. x ++ l) end) in
            let on : holds rules a ≡ true = (test rules).1 (subst (IsNoDefault rules t f) (sym it) c.1) in
            absurd (cc)

-- contents that are constructed
pub finds_given : {P : EncodingRules → List ℕ → Type 0} {A : Type 0} (m : Bool) (b octets : List ℕ) {rest : List ℕ} {v : Verdict} → A
    → Finds (λ rules. Body m b (P rules) octets) v rest → Finds (λ rules. Body m b (λ i. A × P rules i) octets) v rest
finds_given m b octets a f = finds_as (λ rules r. body_as m b octets r (λ x. ((λ p. (a, p)), (λ p. p.1)))) f

pub finds_inner : (P : EncodingRules → ℕ → List ℕ → Type 0) {A : Type 0} (m : Bool) (b octets : List ℕ) {rest : List ℕ} {v : Verdict} (o : Option ℕ) (i : ℕ) → A → o ≡ Some i
    → Finds (λ rules. Body m b (P rules i) octets) v rest → Finds (λ rules. Body m b (λ x. A × ((j : ℕ) × (o ≡ Some j) × P rules j x)) octets) v rest
finds_inner P {A} m b octets o i a e f = finds_as (λ rules r. body_as m b octets r (λ x. ((λ p. (a, (i, e, p))), (λ p. same rules x p.1)))) f
  where
    same : (rules : EncodingRules) (x : List ℕ) → ((j : ℕ) × (o ≡ Some j) × P rules j x) → P rules i x
    same rules x (j, e2, p) = let both : Some j ≡ Some i = sym e2 ∙ e in let it : j ≡ i = cc in subst (λ k. P rules k x) it p

pub needs_constructed : (rules : EncodingRules) (t : Table) (Child : Values) (Item : Elements) (known : Known) (n : Node) (h : Header) (inner : List ℕ) (s : Shape) → is_constructed s ≡ true
    → AreContents s rules t Child Item known n h inner → h.constructed ≡ true
needs_constructed rules t Child Item known n h inner Components e are = are.0
needs_constructed rules t Child Item known n h inner Members e are = are.0
needs_constructed rules t Child Item known n h inner (Of u) e are = absurd (cc)
needs_constructed rules t Child Item known n h inner Items e are = are.0
needs_constructed rules t Child Item known n h inner SortedItems e are = are.0
needs_constructed rules t Child Item known n h inner Inner e are = are.0
needs_constructed rules t Child Item known n h inner Untyped e are = absurd (cc)
needs_constructed rules t Child Item known n h inner Nothing e are = absurd are

pub finds_shape : (t : Table) (Child : Values) (Item : Elements) (known : Known) (n : Node) (h : Header) (m : Bool) (b octets : List ℕ) {s k : Shape} {v : Verdict} {rest : List ℕ} → k ≡ s
    → Finds (λ rules. Body m b (AreContents s rules t Child Item known n h) octets) v rest
    → Finds (λ rules. Body m b (AreContents k rules t Child Item known n h) octets) v rest
finds_shape t Child Item known n h m b octets {s} {k} {v} {rest} e f =
    subst (λ q. Finds (λ rules. Body m b (AreContents q rules t Child Item known n h) octets) v rest) (sym e) f

-- an element whose contents are cut off is no value of a node
pub no_node_cut : (t : Table) {h : Header} {octets : List ℕ} (d : ℕ) (known : Known) (n : Node) (l : ℕ) → IsNext h octets → h.length ≡ Definite l → length octets < h.header_len + l
    → (rules : EncodingRules) (r : List ℕ) → Front (IsNode rules t (IsValue t d) (IsAny d) known n) octets r → ⊥
no_node_cut t d known n l next definite short rules r (x, e, is) =
    let b = node_begins (value_begins t d) rules known n x is in
    no_element_cut (λ rules g inner. Unit {0}) l next definite short rules r (x, e, (b.0, b.1, b.2, tt))

-- a constructed encoding has no constraints
pub finds_unbounded : (t : Table) (Child : Values) (known : Known) (n : Node) (u : Universal) (P : EncodingRules → List ℕ → Type 0) (c m : Bool) (b octets : List ℕ) {v : Verdict} {rest : List ℕ} → c ≡ true
    → Finds (λ rules. Body m b (P rules) octets) v rest
    → Finds (λ rules. Body m b (λ i. P rules i × AreBounded c rules t Child known n u i) octets) v rest
finds_unbounded t Child known n u P c m b octets {v} {rest} on f =
    subst (λ k. Finds (λ rules. Body m b (λ i. P rules i × AreBounded k rules t Child known n u i) octets) v rest) (sym on)
    (finds_as (λ rules r. body_as m b octets r (λ x. ((λ p. (p, tt)), (λ p. p.0)))) f)

-- items of the node that is inside
pub finds_items : (P : EncodingRules → ℕ → List ℕ → Type 0) (m : Bool) (b octets : List ℕ) {rest : List ℕ} {v : Verdict} (o : Option ℕ) (i : ℕ) → o ≡ Some i
    → Finds (λ rules. Body m b (P rules i) octets) v rest → Finds (λ rules. Body m b (λ x. (j : ℕ) × (o ≡ Some j) × P rules j x) octets) v rest
finds_items P m b octets o i e f = finds_as (λ rules r. body_as m b octets r (λ x. ((λ p. (i, e, p)), (λ p. same rules x p)))) f
  where
    same : (rules : EncodingRules) (x : List ℕ) → ((j : ℕ) × (o ≡ Some j) × P rules j x) → P rules i x
    same rules x (j, e2, p) = let both : Some j ≡ Some i = sym e2 ∙ e in let it : j ≡ i = cc in subst (λ k. P rules k x) it p

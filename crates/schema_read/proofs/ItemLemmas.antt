-- Elements one after the other, and the end of contents.
use Rattle.std.proofs.Common.{◌≡◌, ◌↔◌, ℕ, zero, suc, ◌+◌, ◌<◌, ◌≤◌, Bool, true, false, IsTrue, List, [], ◌∷◌, ◌++◌, length, refl, sym, ap, ◌∙◌, subst, append-nil, length-append, arith, inl, inr}
use Rattle.der_base.specs.declared.encoding_rules.EncodingRules.{EncodingRules}
use Rattle.ber.specs.Header.{IsNext, end_header}
use Rattle.ber.specs.declared.header.Header.{Header}
use Rattle.ber.proofs.GrammarLemmas.{header_two}
use Rattle.ber.proofs.HeaderLemmas.{end_header_next}
use Rattle.schema_read.specs.Verdict.{holds, worst}
use Rattle.schema_read.specs.Enclosed.{ending, IsEnclosed}
use Rattle.schema_read.specs.Opened.{IsEnded}
use Rattle.schema_read.specs.Items.{IsInOrder, AreItems, IsAnyCount}
use Rattle.schema_read.specs.Reading.{Front, IsWithin, Body, Finds, Status}
use Rattle.schema_read.specs.declared.verdict.Verdict.{Verdict}
use Rattle.schema_read.specs.declared.verdict.Verdict.TheVariants.{Der}
use Rattle.schema_read.proofs.FindsLemmas.{Said, through, body_as, finds_and, Cases, both, first, second, cases, worst_true, worst_both, status_is, status_same}
use Rattle.schema_read.proofs.VerdictLemmas.{worst_der, holds_der}
use Rattle.schema_read.proofs.EnclosedLemmas.{same_next, within_step, within_front}

-- what holds of elements alone
abbrev pub OfElements : (List ℕ → Type 0) → Type 0
OfElements Item = (x : List ℕ) → Item x → (rules : EncodingRules) × (h : Header) × (inner : List ℕ) × IsEnclosed rules h inner x

-- an element has octets
two_octets : {rules : EncodingRules} {h : Header} {inner x : List ℕ} → IsEnclosed rules h inner x → 2 ≤ length x
two_octets {h = h} {inner = inner} is =
    omega (arith, header_two is.is, is.is.whole, ap length is.spelled, length-append is.front (inner ++ ending h.length))

-- none begins where contents end
pub none_at_end : (Item : List ℕ → Type 0) → OfElements Item → (m : Bool) (octets x r : List ℕ) → IsEnded m octets → octets ≡ x ++ r → Item x → ⊥
none_at_end Item elements m octets x r (inl e) split is =
    let el = elements x is in
    omega (arith, two_octets el.3, ap length (sym e ∙ split), length-append x r)
none_at_end Item elements m octets x r (inr marked) split is =
    let el = elements x is in
    let next : IsNext end_header octets = (end_header_next octets).0 (marked.1.0, marked.1.1) in
    el.3.real (sym (same_next r next el.3 split))

-- what follows contents that end here
pub ends_here : (m : Bool) (b octets r : List ℕ) → IsWithin m b octets [] r → IsEnded m octets
ends_here true b octets r h = inr (refl, (r, h))
ends_here false b octets r h = inl h.0

-- items from one on, whose number fulfils a condition
abbrev pub Items : Bool → EncodingRules → (List ℕ → Type 0) → (ℕ → Type 0) → List ℕ → List ℕ → Type 0
Items sorted rules Item IsCount before inner = (n : ℕ) × AreItems sorted rules Item before n inner × IsCount n

-- at the end there are no elements
pub items_end : (sorted : Bool) (Item : EncodingRules → List ℕ → Type 0) (IsCount : ℕ → Type 0) → ((rules : EncodingRules) → OfElements (Item rules)) → (m : Bool) (b before octets : List ℕ) → IsEnded m octets
    → {a v : Verdict} {rest : List ℕ} → ((rules : EncodingRules) → (holds rules a ≡ true) ↔ IsCount 0)
    → Finds (λ rules. Body m b (λ inner. inner ≡ []) octets) v rest
    → Finds (λ rules. Body m b (Items sorted rules (Item rules) IsCount before) octets) (worst a v) rest
items_end sorted Item IsCount elements m b before octets ended {a} {v} {rest} test f = finds_and a (λ rules. IsCount 0) test to from f
  where
    to : (rules : EncodingRules) (r : List ℕ) → IsCount 0 → Body m b (λ inner. inner ≡ []) octets r → Body m b (Items sorted rules (Item rules) IsCount before) octets r
    to rules r count h = (h.0, h.1, (zero, h.2, count))

    from : (rules : EncodingRules) (r : List ℕ) → Body m b (Items sorted rules (Item rules) IsCount before) octets r → IsCount 0 × Body m b (λ inner. inner ≡ []) octets r
    from rules r (inner, within, (zero, items, count)) = (count, (inner, within, items))
    from rules r (inner, within, (suc n, items, count)) =
        let front = within_front m b octets items.0 items.1 r (subst (λ i. IsWithin m b octets i r) items.2 within) in
        absurd (none_at_end (Item rules) (elements rules) m octets items.0 front.0 ended front.1 items.3)

-- an item, and those after it
pub item_found : (sorted : Bool) {Item : EncodingRules → List ℕ → Type 0} (IsCount : ℕ → Type 0) {w : Verdict} (a : Verdict) (m : Bool) (b before octets rest : List ℕ) (here : List ℕ)
    → (IsEnded m octets → ⊥) → Finds (λ rules. Front (Item rules) octets) w rest
    → ((x : List ℕ) → octets ≡ x ++ rest → here ≡ x)
    → ((rules : EncodingRules) → (holds rules a ≡ true) ↔ IsInOrder rules sorted before here)
    → Status (worst w a) (λ rules. Body m b (Items sorted rules (Item rules) (λ n. IsCount (suc n)) here) rest)
    (λ rules. Body m b (Items sorted rules (Item rules) IsCount before) octets)
item_found sorted {Item} IsCount {w} a m b before octets rest here going f same test = record { good = good; bad = bad }
  where
    Whole : Said
    Whole rules = Body m b (Items sorted rules (Item rules) IsCount before) octets

    Rest : Said
    Rest rules = Body m b (Items sorted rules (Item rules) (λ n. IsCount (suc n)) here) rest

    Step : Said
    Step rules r =
        (x : List ℕ) × (y : List ℕ) × (octets ≡ x ++ y) × Item rules x × IsInOrder rules sorted before x
        × Body m b (Items sorted rules (Item rules) (λ n. IsCount (suc n)) x) y r

    step : (rules : EncodingRules) (r : List ℕ) → Whole rules r → Step rules r
    step rules r (inner, within, (zero, items, count)) = absurd (going (ends_here m b octets r (subst (λ i. IsWithin m b octets i r) items within)))
    step rules r (inner, within, (suc n, items, count)) =
        let front = within_front m b octets items.0 items.1 r (subst (λ i. IsWithin m b octets i r) items.2 within) in
        (items.0, front.0, front.1, items.3, items.4, (items.1, front.2, (n, items.5, count)))

    good : (rules : EncodingRules) → holds rules (worst w a) ≡ true → (r : List ℕ) → Rest rules r ↔ Whole rules r
    good rules on r = (forward, backward)
      where
        ons : (holds rules w ≡ true) × (holds rules a ≡ true)
        ons = worst_true rules w a on

        found : Front (Item rules) octets rest
        found = (f.exact rules ons.0 rest).1 refl

        this : here ≡ found.0
        this = same found.0 found.1

        forward : Rest rules r → Whole rules r
        forward (inner, within, (n, items, count)) = (
          found.0 ++ inner,
          within_step m b octets found.0 rest inner r found.1 within,
          (suc n, (found.0, inner, refl, found.2, subst (IsInOrder rules sorted before) this ((test rules).0 ons.1), subst (λ x. AreItems sorted rules (Item rules) x n inner) this items), count),
        )

        backward : Whole rules r → Rest rules r
        backward whole =
            let s = step rules r whole in
            let end : s.1 ≡ rest = (f.exact rules ons.0 s.1).0 (s.0, s.2, s.3) in
            let it : here ≡ s.0 = same s.0 (s.2 ∙ ap (λ l. s.0 ++ l) end) in
            subst (λ y. Body m b (Items sorted rules (Item rules) (λ n. IsCount (suc n)) here) y r) end
            (subst (λ x. Body m b (Items sorted rules (Item rules) (λ n. IsCount (suc n)) x) s.1 r) (sym it) s.5)

    bad : (rules : EncodingRules) → holds rules (worst w a) ≡ false → (r : List ℕ) → Whole rules r → ⊥
    bad rules off r whole = pick (cases (holds rules w) (holds rules a))
      where
        s : Step rules r
        s = step rules r whole

        pick : Cases (holds rules w) (holds rules a) → ⊥
        pick (both p q) = let on = worst_both rules w a p q in absurd (cc)
        pick (first p) = f.none rules p s.1 (s.0, s.2, s.3)
        pick (second p q) =
            let end : s.1 ≡ rest = (f.exact rules p s.1).0 (s.0, s.2, s.3) in
            let it : here ≡ s.0 = same s.0 (s.2 ∙ ap (λ l. s.0 ++ l) end) in
            let on : holds rules a ≡ true = (test rules).1 (subst (IsInOrder rules sorted before) (sym it) s.4) in
            absurd (cc)

-- the same where one more is counted
pub item_counted : (sorted : Bool) (Item : EncodingRules → List ℕ → Type 0) (IsCount : ℕ → Type 0) (count : ℕ) (m : Bool) (b before octets rest here : List ℕ) {v : Verdict}
    → Status v (λ rules. Body m b (Items sorted rules (Item rules) (λ n. IsCount (count + suc n)) here) rest) (λ rules. Body m b (Items sorted rules (Item rules) (λ n. IsCount (count + n)) before) octets)
    → Status v (λ rules. Body m b (Items sorted rules (Item rules) (λ n. IsCount (count + 1 + n)) here) rest) (λ rules. Body m b (Items sorted rules (Item rules) (λ n. IsCount (count + n)) before) octets)
item_counted sorted Item IsCount count m b before octets rest here {v} s = record {
  good = λ rules on r. through (body_as m b rest r (λ x. (
    (λ p. (p.0, p.1, subst IsCount (sym (next p.0)) p.2)),
    (λ p. (p.0, p.1, subst IsCount (next p.0) p.2)),
  ))) (s.good rules on r);
  bad = s.bad;
}
  where
    next : (n : ℕ) → count + suc n ≡ count + 1 + n
    next n = omega arith

-- the value inside an EXPLICIT tag, and the end
pub inner_found : {Child : EncodingRules → List ℕ → Type 0} {w : Verdict} (m : Bool) (b octets rest : List ℕ) → Finds (λ rules. Front (Child rules) octets) w rest
    → Status w (λ rules. Body m b (λ inner. inner ≡ []) rest) (λ rules. Body m b (Child rules) octets)
inner_found {Child} {w} m b octets rest f = record { good = good; bad = bad }
  where
    front : (rules : EncodingRules) (r : List ℕ) → Body m b (Child rules) octets r → (y : List ℕ) × Front (Child rules) octets y × IsWithin m b y [] r
    front rules r (inner, within, child) =
        let parts = within_front m b octets inner [] r (subst (λ i. IsWithin m b octets i r) (sym (append-nil inner)) within) in
        (parts.0, (inner, parts.1, child), parts.2)

    good : (rules : EncodingRules) → holds rules w ≡ true → (r : List ℕ) → Body m b (λ inner. inner ≡ []) rest r ↔ Body m b (Child rules) octets r
    good rules on r = (forward, backward)
      where
        found : Front (Child rules) octets rest
        found = (f.exact rules on rest).1 refl

        forward : Body m b (λ inner. inner ≡ []) rest r → Body m b (Child rules) octets r
        forward (inner, within, e) =
            let there = within_step m b octets found.0 rest [] r found.1 (subst (λ i. IsWithin m b rest i r) e within) in
            (found.0, subst (λ i. IsWithin m b octets i r) (append-nil found.0) there, found.2)

        backward : Body m b (Child rules) octets r → Body m b (λ inner. inner ≡ []) rest r
        backward body =
            let s = front rules r body in
            ([], subst (λ y. IsWithin m b y [] r) ((f.exact rules on s.0).0 s.1) s.2, refl)

    bad : (rules : EncodingRules) → holds rules w ≡ false → (r : List ℕ) → Body m b (Child rules) octets r → ⊥
    bad rules off r body = let s = front rules r body in f.none rules off s.0 s.1

-- contents that have ended have nothing more
pub ended_finds : (m : Bool) (b octets : List ℕ) → (IsEnded m octets → ⊥) → (rules : EncodingRules) (r : List ℕ) → Body m b (λ inner. inner ≡ []) octets r → ⊥
ended_finds m b octets going rules r (inner, within, e) = going (ends_here m b octets r (subst (λ i. IsWithin m b octets i r) e within))

-- an item of a list whose order and number are free
pub item_plain : {Item : EncodingRules → List ℕ → Type 0} {w : Verdict} (m : Bool) (b before octets rest here : List ℕ)
    → (IsEnded m octets → ⊥) → Finds (λ rules. Front (Item rules) octets) w rest → ((x : List ℕ) → octets ≡ x ++ rest → here ≡ x)
    → Status w (λ rules. Body m b (Items false rules (Item rules) IsAnyCount here) rest)
    (λ rules. Body m b (Items false rules (Item rules) IsAnyCount before) octets)
item_plain {Item} {w} m b before octets rest here going f same =
    status_is (sym (worst_der w)) (item_found false IsAnyCount Der m b before octets rest here going f same (λ rules. ((λ on e. absurd (cc)), (λ free. holds_der rules))))

-- contents go on, if a test says so
pub goes_on : {m n : Bool} {s t : List ℕ} (b : Bool) → (IsTrue b ↔ IsEnded n t) → n ≡ m → t ≡ s → b ≡ false → IsEnded m s → ⊥
goes_on {m} {n} {s} {t} b test e f off ended =
    let on : b ≡ true = test.1 (subst (λ k. IsEnded k t) (sym e) (subst (λ o. IsEnded m o) (sym f) ended)) in
    absurd (cc)

-- or they have ended
pub has_ended : {m n : Bool} {s t : List ℕ} (b : Bool) → (IsTrue b ↔ IsEnded n t) → n ≡ m → t ≡ s → b ≡ true → IsEnded m s
has_ended {m} {n} {s} {t} b test e f on = subst (λ o. IsEnded m o) f (subst (λ k. IsEnded k t) e (test.0 on))

-- the items from the first on
pub items_begin : (sorted : Bool) (Item : EncodingRules → List ℕ → Type 0) (IsCount : ℕ → Type 0) (m : Bool) (b octets : List ℕ)
    → Status Der (λ rules. Body m b (Items sorted rules (Item rules) (λ n. IsCount (0 + n)) []) octets) (λ rules. Body m b (Items sorted rules (Item rules) IsCount []) octets)
items_begin sorted Item IsCount m b octets = status_same (λ rules r. body_as m b octets r (λ x. (
  (λ p. (p.0, p.1, subst IsCount (none p.0) p.2)),
  (λ p. (p.0, p.1, subst IsCount (sym (none p.0)) p.2)),
)))
  where
    none : (n : ℕ) → 0 + n ≡ n
    none n = omega arith

-- octets are left where contents go on
pub some_left : (m : Bool) (octets : List ℕ) → (IsEnded m octets → ⊥) → 0 < length octets
some_left m [] going = absurd (going (inl refl))
some_left m (o ∷ os) going = omega arith

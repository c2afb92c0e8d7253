-- Segments at the front, and those after them.
use Rattle.std.proofs.Common.{None, ◌≡◌, ◌≢◌, ◌↔◌, ℕ, zero, suc, ◌+◌, ◌-◌, ◌<◌, Bool, true, false, List, [], ◌∷◌, ◌++◌, Some, length, refl, sym, ap, ◌∙◌, subst, append_assoc, arith}
use Rattle.der_base.specs.declared.encoding_rules.EncodingRules.{EncodingRules}
use Rattle.der_base.specs.declared.encoding_rules.EncodingRules.TheVariants as kind
use Rattle.ber.specs.Form.{allows}
use Rattle.ber.specs.Universal.{form_of}
use Rattle.ber.specs.Der.{HasReservedTag}
use Rattle.ber.specs.Universal.{universal_at}
use Rattle.ber.specs.Header.{IsNext, end_header, label_of_header}
use Rattle.ber.specs.declared.header.Header.{Header}
use Rattle.ber.specs.declared.length.Length.TheVariants.{Definite}
use Rattle.ber.proofs.GrammarLemmas.{one_header}
use Rattle.schema_rules.specs.Contents.{IsContents}
use Rattle.schema_read.specs.Verdict.{holds, worst}
use Rattle.schema_read.specs.Enclosed.{ending, IsCounted, IsAllowed, IsEnclosed, BeginWithNone}
use Rattle.schema_read.specs.Opened.{IsOpened, IsEnded}
use Rattle.schema_read.specs.Reading.{IsWithin, Body, Finds}
use Rattle.schema_read.specs.Value.{IsPrimitive}
use Rattle.schema_read.specs.Strings.{Texts, segment_type, IsJoined, AreJoined, HasText, HasSegmentTag, IsSegmentOf, IsSegment}
use Rattle.schema_read.specs.StringReading.{IsText, IsWhole, BeginsAfter, BodyAfter, MoreAfter, Reads, Stage}
use Rattle.schema_read.specs.declared.opened.Opened.{Opened}
use Rattle.schema_read.specs.declared.verdict.Verdict.{Verdict}
use Rattle.schema_read.specs.declared.verdict.Verdict.TheVariants.{Der, Ber, Neither}
use Rattle.schema_read.proofs.VerdictLemmas.{holds_neither}
use Rattle.schema_read.proofs.FindsLemmas.{Cases, both, first, second, cases, through, back, worst_true, worst_both, finds_and}
use Rattle.schema_read.proofs.EnclosedLemmas.{spread, same_next, within_iff, no_element_cut, within_step, within_front}
use Rattle.schema_read.proofs.ItemLemmas.{OfElements, none_at_end, ends_here}
use Rattle.schema_read.proofs.StringLemmas.{joined_once, joined_split, joined_merge, joined_whole, joined_own, joined_after, joined_alone, joined_last, text_of_contents}

-- how what is read goes together
pub reads_is : {Is : Texts} {v w : Verdict} {rest text : List ℕ} → v ≡ w → Reads Is w rest text → Reads Is v rest text
reads_is {Is} {v} {w} {rest} {text} e f = subst (λ u. Reads Is u rest text) (sym e) f

pub reads_as : {A B : Texts} {v : Verdict} {rest text : List ℕ} → ((r t : List ℕ) → A r t ↔ B r t) → Reads A v rest text → Reads B v rest text
reads_as same f = record {
  exact = λ on r t. through (back (same r t)) (f.exact on r t);
  none = λ off r t is. f.none off r t ((same r t).1 is);
}

pub reads_never : {Is : Texts} {v : Verdict} {rest text : List ℕ} → v ≡ Neither → ((r t : List ℕ) → Is r t → ⊥) → Reads Is v rest text
reads_never e never = reads_is e (record {
  exact = λ on. let off = holds_neither kind.Ber in absurd (cc);
  none = λ off r t is. never r t is;
})

pub stage_is : {A B : Texts} {v w : Verdict} → v ≡ w → Stage w A B → Stage v A B
stage_is {A} {B} e s = subst (λ u. Stage u A B) (sym e) s

-- a verdict that holds under BER changes nothing
pub stage_same : {A B : Texts} {v : Verdict} → holds kind.Ber v ≡ true → ((r t : List ℕ) → A r t ↔ B r t) → Stage v A B
stage_same on same = record {
  good = λ p r t. same r t;
  bad = λ off r t b. absurd (cc);
}

pub stage_then : {A B C : Texts} {v w : Verdict} → Stage v B C → Stage w A B → Stage (worst v w) A C
stage_then {A} {B} {C} {v} {w} s f = record { good = good; bad = bad }
  where
    good : holds kind.Ber (worst v w) ≡ true → (r t : List ℕ) → A r t ↔ C r t
    good on r t = let h = worst_true kind.Ber v w on in through (f.good h.1 r t) (s.good h.0 r t)

    bad : holds kind.Ber (worst v w) ≡ false → (r t : List ℕ) → C r t → ⊥
    bad off r t c = pick (cases (holds kind.Ber v) (holds kind.Ber w))
      where
        pick : Cases (holds kind.Ber v) (holds kind.Ber w) → ⊥
        pick (both p q) = let on : holds kind.Ber (worst v w) ≡ true = worst_both kind.Ber v w p q in absurd (cc)
        pick (first p) = s.bad p r t c
        pick (second p q) = f.bad q r t ((s.good p r t).1 c)

pub stage_ends : {A B : Texts} {v w : Verdict} {rest text : List ℕ} → Stage v A B → Reads A w rest text → Reads B (worst v w) rest text
stage_ends {A} {B} {v} {w} {rest} {text} s f = record { exact = exact; none = none }
  where
    exact : holds kind.Ber (worst v w) ≡ true → (r t : List ℕ) → B r t ↔ ((r ≡ rest) × (t ≡ text))
    exact on r t = let h = worst_true kind.Ber v w on in through (back (s.good h.0 r t)) (f.exact h.1 r t)

    none : holds kind.Ber (worst v w) ≡ false → (r t : List ℕ) → B r t → ⊥
    none off r t b = pick (cases (holds kind.Ber v) (holds kind.Ber w))
      where
        pick : Cases (holds kind.Ber v) (holds kind.Ber w) → ⊥
        pick (both p q) = let on : holds kind.Ber (worst v w) ≡ true = worst_both kind.Ber v w p q in absurd (cc)
        pick (first p) = s.bad p r t b
        pick (second p q) = f.none q r t ((s.good p r t).1 b)

-- a segment that may have others inside it
pub segment_step : (d : ℕ) (bits : Bool) (x t : List ℕ) → 0 < d → IsSegmentOf bits (IsSegment (d - 1) bits) x t ↔ IsSegment d bits x t
unfolding IsSegment
segment_step zero bits x t some = absurd (omega arith)
segment_step (suc d) bits x t some =
    let e : suc d - 1 ≡ d = omega arith in
    (λ h. subst (λ k. IsSegmentOf bits (IsSegment k bits) x t) e h, λ h. subst (λ k. IsSegmentOf bits (IsSegment k bits) x t) (sym e) h)

pub segment_none : (bits : Bool) (x t : List ℕ) → IsSegment 0 bits x t → ⊥
unfolding IsSegment
segment_none bits x t h = h

-- each is an element with the tag of segments
pub segment_element : (d : ℕ) (bits : Bool) (x t : List ℕ) → IsSegment d bits x t
    → (h : Header) × (inner : List ℕ) × IsEnclosed kind.Ber h inner x × HasSegmentTag bits h
segment_element zero bits x t h = absurd (segment_none bits x t h)
segment_element (suc d) bits x t h =
    let s = (segment_step (suc d) bits x t (omega arith)).1 h in (s.0, s.1, s.2, s.3)

pub segment_elements : (d : ℕ) (bits : Bool) → OfElements (λ x. (t : List ℕ) × IsSegment d bits x t)
segment_elements d bits x h = let e = segment_element d bits x h.0 h.1 in (kind.Ber, e.0, e.1, e.2)

-- a header with the tag of segments is no end-of-contents
tag_real : (bits : Bool) (h : Header) → HasSegmentTag bits h → h ≢ end_header
tag_real true h tag e =
    let n : h.number ≡ 3 = tag.1 in let z : h.number ≡ 0 = ap (λ (k : Header). k.number) e in absurd (cc)
tag_real false h tag e =
    let n : h.number ≡ 4 = tag.1 in let z : h.number ≡ 0 = ap (λ (k : Header). k.number) e in absurd (cc)

-- octets that begin with no segment
pub no_segment : {octets : List ℕ} (d : ℕ) (bits : Bool) → BeginWithNone d octets
    → (x rest text : List ℕ) → octets ≡ x ++ rest → IsSegment d bits x text → ⊥
no_segment zero bits none x rest text e is = segment_none bits x text is
no_segment (suc d) bits none x rest text e is =
    let s = segment_element (suc d) bits x text is in
    none kind.Ber s.0 s.1 x rest (omega arith) e s.2

pub no_segment_of_tag : {octets : List ℕ} {h : Header} (d : ℕ) (bits : Bool) → IsNext h octets → (HasSegmentTag bits h → ⊥)
    → (x rest text : List ℕ) → octets ≡ x ++ rest → IsSegment d bits x text → ⊥
no_segment_of_tag d bits next other x rest text e is =
    let s = segment_element d bits x text is in
    other (subst (HasSegmentTag bits) (sym (same_next rest next s.2 e)) s.3)

pub no_segment_cut : {octets : List ℕ} {h : Header} (d : ℕ) (bits : Bool) (before : List ℕ) (n : ℕ) → IsNext h octets → h.length ≡ Definite n
    → length octets < h.header_len + n → (r t : List ℕ) → BeginsAfter bits (IsSegment d bits) before octets r t → ⊥
no_segment_cut d bits before n next definite short r t (own, (x, e, is), joined) =
    let s = segment_element d bits x own is in
    no_element_cut (λ rules h inner. Unit {0}) n next definite short kind.Ber r (x, e, (s.0, s.1, s.2, tt))

-- the tag of a segment is that of a type
segment_known : (bits : Bool) (h : Header) → HasSegmentTag bits h → HasReservedTag (label_of_header h) → ⊥
segment_known true h tag reserved =
    let none : universal_at 3 ≡ None = subst (λ n. universal_at n ≡ None) tag.1 reserved.1 in absurd (cc)
segment_known false h tag reserved =
    let none : universal_at 4 ≡ None = subst (λ n. universal_at n ≡ None) tag.1 reserved.1 in absurd (cc)

-- the contents of an element, and the element
element_iff : (bits : Bool) (Is : Texts) (before : List ℕ) {h : Header} {octets : List ℕ} {o : Opened} → IsOpened h octets o → h ≢ end_header → HasSegmentTag bits h
    → (r t : List ℕ) → BodyAfter o.marked o.beyond.now bits before (HasText bits Is h.constructed) o.inside.octets.now r t ↔ BeginsAfter bits (IsSegmentOf bits Is) before octets r t
element_iff bits Is before {h} {octets} {o} is real tag r t = (to, from)
  where
    to : BodyAfter o.marked o.beyond.now bits before (HasText bits Is h.constructed) o.inside.octets.now r t → BeginsAfter bits (IsSegmentOf bits Is) before octets r t
    to (own, (inner, within, has), joined) =
        let back = (within_iff h.length is.after inner r o is.are).1 within in
        let x = is.front ++ (inner ++ ending h.length) in
        let whole : octets ≡ x ++ r =
        is.split ∙ ap (λ l. is.front ++ l) (back.1 ∙ sym (append_assoc inner (ending h.length) r))
        ∙ sym (append_assoc is.front (inner ++ ending h.length) r) in
        (own, (x, whole, (h, inner, record { front = is.front; is = is.is; counted = back.0; spelled = refl; real = real; known = segment_known bits h tag; allowed = tt }, tag, has)), joined)

    from : BeginsAfter bits (IsSegmentOf bits Is) before octets r t → BodyAfter o.marked o.beyond.now bits before (HasText bits Is h.constructed) o.inside.octets.now r t
    from (own, (x, e, (g, inner, en, named, has)), joined) =
        let one = one_header is.is en.is is.after (inner ++ (ending g.length ++ r)) (sym is.split ∙ spread r en e) in
        let g_is : g ≡ h = sym one.0 in
        let counted = subst (λ k. IsCounted k.length inner) g_is en.counted in
        let tail : is.after ≡ inner ++ (ending h.length ++ r) = one.2 ∙ ap (λ (k : Header). inner ++ (ending k.length ++ r)) g_is in
        (own, (inner, (within_iff h.length is.after inner r o is.are).0 (counted, tail), subst (λ k. HasText bits Is k.constructed inner own) g_is has), joined)

pub segment_reads : (d : ℕ) (bits : Bool) (before : List ℕ) {h : Header} {octets : List ℕ} {o : Opened} {a v : Verdict} {rest text : List ℕ} → 0 < d
    → IsOpened h octets o → HasSegmentTag bits h → ((rules : EncodingRules) → (holds rules a ≡ true) ↔ IsAllowed rules h)
    → Reads (BodyAfter o.marked o.beyond.now bits before (HasText bits (IsSegment (d - 1) bits) h.constructed) o.inside.octets.now) v rest text
    → Reads (BeginsAfter bits (IsSegment d bits) before octets) (worst a v) rest text
segment_reads d bits before {h} {octets} {o} some is tag test f =
    reads_as (λ r t. ((λ b. (b.0, (b.1.0, b.1.1, (segment_step d bits b.1.0 b.0 some).0 b.1.2), b.2)), (λ b. (b.0, (b.1.0, b.1.1, (segment_step d bits b.1.0 b.0 some).1 b.1.2), b.2))))
    (stage_ends (stage_same ((test kind.Ber).1 tt) (element_iff bits (IsSegment (d - 1) bits) before is (tag_real bits h tag) tag)) f)

-- the contents of a primitive segment
pub reads_primitive : (bits : Bool) (Is : Texts) (before octets : List ℕ) {c m : Bool} {b text : List ℕ} {v : Verdict} → c ≡ false → m ≡ false
    → ((rules : EncodingRules) → (holds rules v ≡ true) ↔ IsPrimitive rules (Some (segment_type bits)) octets)
    → (IsText bits octets → IsJoined bits (before ∷ octets ∷ []) text)
    → Reads (BodyAfter m b bits before (HasText bits Is c) octets) v b text
reads_primitive bits Is before octets {c} {m} {b} {text} {v} off closed test joined =
    subst (λ k. Reads (BodyAfter m b bits before (HasText bits Is k) octets) v b text) (sym off)
    (subst (λ n. Reads (BodyAfter n b bits before (HasText bits Is false) octets) v b text) (sym closed)
    (record { exact = exact; none = none }))
  where
    exact : holds kind.Ber v ≡ true → (r t : List ℕ) → BodyAfter false b bits before (HasText bits Is false) octets r t ↔ ((r ≡ b) × (t ≡ text))
    exact on r t = (to, from)
      where
        is : IsContents kind.Ber (segment_type bits) octets
        is = ((test kind.Ber).0 on).1

        this : IsJoined bits (before ∷ octets ∷ []) text
        this = joined (text_of_contents bits octets is)

        to : BodyAfter false b bits before (HasText bits Is false) octets r t → (r ≡ b) × (t ≡ text)
        to (own, (inner, (e, f), (g, kept)), one) =
            (f, joined_once bits (before ∷ octets ∷ []) t text (subst (λ l. IsJoined bits (before ∷ l ∷ []) t) (g ∙ sym e) one) this)

        from : (r ≡ b) × (t ≡ text) → BodyAfter false b bits before (HasText bits Is false) octets r t
        from (e, f) = (octets, (octets, (refl, e), (refl, is)), subst (IsJoined bits (before ∷ octets ∷ [])) (sym f) this)

    formed : (k : Bool) → allows (form_of (segment_type k)) false ≡ true
    formed true = refl
    formed false = refl

    none : holds kind.Ber v ≡ false → (r t : List ℕ) → BodyAfter false b bits before (HasText bits Is false) octets r t → ⊥
    none fails r t (own, (inner, (e, f), (g, kept)), one) =
        let on : holds kind.Ber v ≡ true = (test kind.Ber).1 (formed bits, subst (IsContents kind.Ber (segment_type bits)) (sym e) kept) in
        absurd (cc)

-- segments after a text, and the text that they have
pub more_own : (bits m : Bool) (Is : Texts) (b before octets : List ℕ) → IsWhole bits before
    → (r t : List ℕ) → MoreAfter m b bits Is before octets r t ↔ BodyAfter m b bits before (AreJoined bits Is) octets r t
more_own bits m Is b before octets whole r t = (to, from)
  where
    to : MoreAfter m b bits Is before octets r t → BodyAfter m b bits before (AreJoined bits Is) octets r t
    to (inner, within, (ts, texts, joined)) =
        let o = joined_own bits before ts t whole joined in
        (o.0, (inner, within, (ts, texts, o.1)), o.2)

    from : BodyAfter m b bits before (AreJoined bits Is) octets r t → MoreAfter m b bits Is before octets r t
    from (own, (inner, within, (ts, texts, joined)), after) =
        (inner, within, (ts, texts, joined_after bits before own ts t joined after))

-- at the end there are no segments
pub segments_end : (d : ℕ) (bits m : Bool) (b now rest : List ℕ) {end : List ℕ} {w : Verdict} → IsText bits now → IsEnded m rest
    → Finds (λ rules. Body m b (λ inner. inner ≡ []) rest) w end → Reads (MoreAfter m b bits (IsSegment d bits) now rest) w end now
segments_end d bits m b now rest {end} {w} text ended f = record { exact = exact; none = none }
  where
    closed : (r t : List ℕ) → MoreAfter m b bits (IsSegment d bits) now rest r t → Body m b (λ inner. inner ≡ []) rest r × (t ≡ now)
    closed r t (inner, within, ([], texts, joined)) =
        ((inner, within, texts), joined_once bits (now ∷ []) t now joined (joined_last bits now text))
    closed r t (inner, within, (s ∷ ts, (x, y, e, is, texts), joined)) =
        let front = within_front m b rest x y r (subst (λ i. IsWithin m b rest i r) e within) in
        absurd (none_at_end (λ z. (u : List ℕ) × IsSegment d bits z u) (segment_elements d bits) m rest x front.0 ended front.1 (s, is))

    exact : holds kind.Ber w ≡ true → (r t : List ℕ) → MoreAfter m b bits (IsSegment d bits) now rest r t ↔ ((r ≡ end) × (t ≡ now))
    exact on r t = (to, from)
      where
        to : MoreAfter m b bits (IsSegment d bits) now rest r t → (r ≡ end) × (t ≡ now)
        to more = let c = closed r t more in ((f.exact kind.Ber on r).0 c.0, c.1)

        from : (r ≡ end) × (t ≡ now) → MoreAfter m b bits (IsSegment d bits) now rest r t
        from (e, g) =
            let body = (f.exact kind.Ber on r).1 e in
            (body.0, body.1, ([], body.2, subst (IsJoined bits (now ∷ [])) (sym g) (joined_last bits now text)))

    none : holds kind.Ber w ≡ false → (r t : List ℕ) → MoreAfter m b bits (IsSegment d bits) now rest r t → ⊥
    none off r t more = f.none kind.Ber off r (closed r t more).0

-- a segment, and those after it
pub segment_found : (bits m : Bool) (b before now : List ℕ) {Is : Texts} {mid rest after : List ℕ} (w : Verdict) {v : Verdict} → (IsEnded m now → ⊥)
    → (holds kind.Ber w ≡ true) ↔ IsWhole bits before → (IsWhole bits before → mid ≡ before)
    → Reads (BeginsAfter bits Is mid now) v rest after
    → Stage (worst w v) (MoreAfter m b bits Is after rest) (MoreAfter m b bits Is before now)
segment_found bits m b before now {Is} {mid} {rest} {after} w {v} going test same f = record { good = good; bad = bad }
  where
    Step : Texts
    Step r t = (z : List ℕ) × (u : List ℕ) × BeginsAfter bits Is before now z u × MoreAfter m b bits Is u z r t

    step : (r t : List ℕ) → MoreAfter m b bits Is before now r t → Step r t
    step r t (inner, within, ([], texts, joined)) =
        absurd (going (ends_here m b now r (subst (λ i. IsWithin m b now i r) texts within)))
    step r t (inner, within, (s ∷ ts, (x, y, e, is, texts), joined)) =
        let front = within_front m b now x y r (subst (λ i. IsWithin m b now i r) e within) in
        let parts = joined_split bits before s ts t joined in
        (front.0, parts.0, (s, (x, front.1, is), parts.1), (y, front.2, (ts, texts, parts.2)))

    whole : (z u : List ℕ) → BeginsAfter bits Is before now z u → IsWhole bits before
    whole z u (own, at, joined) = joined_whole bits before own [] u joined

    good : holds kind.Ber (worst w v) ≡ true → (r t : List ℕ) → MoreAfter m b bits Is after rest r t ↔ MoreAfter m b bits Is before now r t
    good on r t = (to, from)
      where
        ons : (holds kind.Ber w ≡ true) × (holds kind.Ber v ≡ true)
        ons = worst_true kind.Ber w v on

        is_same : mid ≡ before
        is_same = same (test.0 ons.0)

        to : MoreAfter m b bits Is after rest r t → MoreAfter m b bits Is before now r t
        to (inner, within, (ts, texts, joined)) =
            let found = subst (λ l. BeginsAfter bits Is l now rest after) is_same ((f.exact ons.1 rest after).1 (refl, refl)) in
            (found.1.0 ++ inner, within_step m b now found.1.0 rest inner r found.1.1 within, (found.0 ∷ ts, (found.1.0, inner, refl, found.1.2, texts), joined_merge bits before found.0 after ts t found.2 joined))

        from : MoreAfter m b bits Is before now r t → MoreAfter m b bits Is after rest r t
        from more =
            let s = step r t more in
            let one = (f.exact ons.1 s.0 s.1).0 (subst (λ l. BeginsAfter bits Is l now s.0 s.1) (sym is_same) s.2) in
            subst (λ z. MoreAfter m b bits Is after z r t) one.0 (subst (λ u. MoreAfter m b bits Is u s.0 r t) one.1 s.3)

    bad : holds kind.Ber (worst w v) ≡ false → (r t : List ℕ) → MoreAfter m b bits Is before now r t → ⊥
    bad off r t more = pick (cases (holds kind.Ber w) (holds kind.Ber v))
      where
        s : Step r t
        s = step r t more

        is_whole : IsWhole bits before
        is_whole = whole s.0 s.1 s.2

        pick : Cases (holds kind.Ber w) (holds kind.Ber v) → ⊥
        pick (both p q) = let on : holds kind.Ber (worst w v) ≡ true = worst_both kind.Ber w v p q in absurd (cc)
        pick (first p) = let on : holds kind.Ber w ≡ true = test.1 is_whole in absurd (cc)
        pick (second p q) = f.none q s.0 s.1 (subst (λ l. BeginsAfter bits Is l now s.0 s.1) (sym (same is_whole)) s.2)

-- a verdict that is BER at best holds under BER alone
ber_only : (rules : EncodingRules) (v : Verdict) → holds rules (worst Ber v) ≡ true → (rules ≡ kind.Ber) × (holds kind.Ber v ≡ true)
ber_only kind.Ber Der on = (refl, refl)
ber_only kind.Ber Ber on = (refl, refl)
ber_only kind.Ber Neither on = absurd (cc)
ber_only kind.Der Der on = absurd (cc)
ber_only kind.Der Ber on = absurd (cc)
ber_only kind.Der Neither on = absurd (cc)

-- a constructed string: what its contents are
pub string_finds : (bits m : Bool) (Is : Texts) (b before octets : List ℕ) {v : Verdict} {rest text : List ℕ} → IsJoined bits [] before
    → Reads (BodyAfter m b bits before (AreJoined bits Is) octets) v rest text
    → Finds (λ rules. Body m b (λ inner. (rules ≡ kind.Ber) × ((t : List ℕ) × AreJoined bits Is inner t)) octets) (worst Ber v) rest
string_finds bits m Is b before octets {v} {rest} {text} empty f = record { exact = exact; none = none }
  where
    Whole : EncodingRules → List ℕ → Type 0
    Whole rules = Body m b (λ inner. (rules ≡ kind.Ber) × ((t : List ℕ) × AreJoined bits Is inner t)) octets

    read : (rules : EncodingRules) (r : List ℕ) → Whole rules r → (t : List ℕ) × BodyAfter m b bits before (AreJoined bits Is) octets r t
    read rules r (inner, within, (ber, (t, (ts, texts, joined)))) =
        (t, (t, (inner, within, (ts, texts, joined)), joined_alone bits before t ts empty joined))

    exact : (rules : EncodingRules) → holds rules (worst Ber v) ≡ true → (r : List ℕ) → Whole rules r ↔ (r ≡ rest)
    exact rules on r = (to, from)
      where
        to : Whole rules r → r ≡ rest
        to w = let s = read rules r w in ((f.exact (ber_only rules v on).1 r s.0).0 s.1).0

        from : r ≡ rest → Whole rules r
        from e =
            let s = (f.exact (ber_only rules v on).1 r text).1 (e, refl) in
            (s.1.0, s.1.1, ((ber_only rules v on).0, (s.0, s.1.2)))

    none : (rules : EncodingRules) → holds rules (worst Ber v) ≡ false → (r : List ℕ) → Whole rules r → ⊥
    none rules off r w =
        let ber : rules ≡ kind.Ber = w.2.0 in
        let s = read rules r w in
        f.none (plain v (subst (λ k. holds k (worst Ber v) ≡ false) ber off)) r s.0 s.1
      where
        plain : (u : Verdict) → holds kind.Ber (worst Ber u) ≡ false → holds kind.Ber u ≡ false
        plain Der e = e
        plain Ber e = e
        plain Neither e = refl

-- and they have no other text
pub string_only : (bits m : Bool) (Is : Texts) (b before octets : List ℕ) {v : Verdict} {rest text : List ℕ} → IsJoined bits [] before
    → Reads (BodyAfter m b bits before (AreJoined bits Is) octets) v rest text
    → (inner r t : List ℕ) → IsWithin m b octets inner r → AreJoined bits Is inner t → t ≡ text
string_only bits m Is b before octets {v} {rest} {text} empty f inner r t within (ts, texts, joined) =
    pick (cases (holds kind.Ber v) true)
  where
    is : BodyAfter m b bits before (AreJoined bits Is) octets r t
    is = (t, (inner, within, (ts, texts, joined)), joined_alone bits before t ts empty joined)

    pick : Cases (holds kind.Ber v) true → t ≡ text
    pick (both p q) = ((f.exact p r t).0 is).1
    pick (first p) = absurd (f.none p r t is)
    pick (second p q) = absurd (cc)

-- of which a condition may be asked
pub string_with : (m : Bool) (b octets : List ℕ) {Has : Texts} (P : EncodingRules → List ℕ → Type 0) (a : Verdict) {v : Verdict} {rest text : List ℕ}
    → Finds (λ rules. Body m b (λ inner. (rules ≡ kind.Ber) × ((t : List ℕ) × Has inner t)) octets) v rest
    → ((inner r t : List ℕ) → IsWithin m b octets inner r → Has inner t → t ≡ text)
    → ((rules : EncodingRules) → (holds rules a ≡ true) ↔ P rules text)
    → Finds (λ rules. Body m b (λ inner. (rules ≡ kind.Ber) × ((t : List ℕ) × Has inner t × P rules t)) octets) (worst a v) rest
string_with m b octets {Has} P a {v} {rest} {text} f only test = finds_and a (λ rules. P rules text) test to from f
  where
    to : (rules : EncodingRules) (r : List ℕ) → P rules text → Body m b (λ inner. (rules ≡ kind.Ber) × ((t : List ℕ) × Has inner t)) octets r
        → Body m b (λ inner. (rules ≡ kind.Ber) × ((t : List ℕ) × Has inner t × P rules t)) octets r
    to rules r p (inner, within, (ber, (t, has))) =
        (inner, within, (ber, (t, has, subst (P rules) (sym (only inner r t within has)) p)))

    from : (rules : EncodingRules) (r : List ℕ) → Body m b (λ inner. (rules ≡ kind.Ber) × ((t : List ℕ) × Has inner t × P rules t)) octets r
        → P rules text × Body m b (λ inner. (rules ≡ kind.Ber) × ((t : List ℕ) × Has inner t)) octets r
    from rules r (inner, within, (ber, (t, has, p))) =
        (subst (P rules) (only inner r t within has) p, (inner, within, (ber, (t, has))))

-- Elements at the front, and their contents.
use Rattle.std.proofs.Common.{◌≡◌, ◌≢◌, ◌↔◌, ℕ, ◌+◌, ◌-◌, ◌<◌, Bool, true, false, IsTrue, take, List, [], ◌∷◌, ◌++◌, length, refl, sym, ap, ◌∙◌, subst, append_assoc, length-append, arith}
use Rattle.der_base.specs.FixedOctets.{end_of_contents}
use Rattle.der_base.specs.declared.encoding_rules.EncodingRules.{EncodingRules}
use Rattle.der_base.proofs.DigitLemmas.{same_length_front}
use Rattle.ber.specs.Der.{HasReservedTag}
use Rattle.ber.specs.Header.{label_of_header, IsNext, end_header}
use Rattle.ber.specs.declared.header.Header.{Header}
use Rattle.ber.specs.declared.length.Length.{Length}
use Rattle.ber.specs.declared.length.Length.TheVariants.{Definite, Indefinite}
use Rattle.ber.proofs.GrammarLemmas.{one_header}
use Rattle.ber.proofs.HeaderLemmas.{end_header_next}
use Rattle.schema_read.specs.Verdict.{holds, worst}
use Rattle.schema_read.specs.Enclosed.{ending, IsCounted, IsAllowed, IsEnclosed, BeginWithNone}
use Rattle.schema_read.specs.Opened.{AreAfter, IsOpened}
use Rattle.schema_read.specs.Reading.{Front, IsWithin, Body, Finds}
use Rattle.schema_read.specs.declared.opened.Opened.{Opened}
use Rattle.schema_read.specs.declared.verdict.Verdict.{Verdict}
use Rattle.schema_read.proofs.FindsLemmas.{finds_and}

-- an element whose header and contents fulfil a condition
abbrev pub Elem : (EncodingRules → Header → List ℕ → Type 0) → EncodingRules → List ℕ → Type 0
Elem P rules x = (h : Header) × (inner : List ℕ) × IsEnclosed rules h inner x × P rules h inner

-- octets that begin with an element: its header, its contents, and what follows
pub spread : {rules : EncodingRules} {h : Header} {inner x octets : List ℕ} (r : List ℕ) → (is : IsEnclosed rules h inner x)
    → octets ≡ x ++ r → octets ≡ is.front ++ (inner ++ (ending h.length ++ r))
spread {h = h} {inner = inner} r is e =
    e ∙ ap (λ l. l ++ r) is.spelled ∙ append_assoc is.front (inner ++ ending h.length) r
    ∙ ap (λ l. is.front ++ l) (append_assoc inner (ending h.length) r)

-- they begin with its header
pub front_next : {rules : EncodingRules} {h : Header} {inner x octets : List ℕ} (r : List ℕ) → IsEnclosed rules h inner x → octets ≡ x ++ r → IsNext h octets
front_next {h = h} {inner = inner} r is e =
    record { front = is.front; rest = inner ++ (ending h.length ++ r); is = is.is; split = spread r is e }

-- and with no other
pub same_next : {rules : EncodingRules} {h g : Header} {inner x octets : List ℕ} (r : List ℕ) → IsNext h octets → IsEnclosed rules g inner x → octets ≡ x ++ r → h ≡ g
same_next {h = h} {g = g} {inner = inner} r next is e =
    (one_header next.is is.is next.rest (inner ++ (ending g.length ++ r)) (sym next.split ∙ spread r is e)).0

-- contents of a length, and what follows, are contents that a place has
pub within_iff : (l : Length) (after inner r : List ℕ) (o : Opened) → AreAfter l after o
    → (IsCounted l inner × (after ≡ inner ++ (ending l ++ r))) ↔ IsWithin o.marked o.beyond.now o.inside.octets.now inner r
within_iff (Definite n) after inner r o are = (forward, backward)
  where
    forward : IsCounted (Definite n) inner × (after ≡ inner ++ ([] ++ r)) → IsWithin o.marked o.beyond.now o.inside.octets.now inner r
    forward h =
        let same = same_length_front o.inside.octets.now inner o.beyond.now r (are.1 ∙ sym h.0) (sym are.0 ∙ h.1) in
        subst (λ b. IsWithin b o.beyond.now o.inside.octets.now inner r) (sym are.2) (same.0, sym same.1)

    backward : IsWithin o.marked o.beyond.now o.inside.octets.now inner r → IsCounted (Definite n) inner × (after ≡ inner ++ ([] ++ r))
    backward h =
        let w = subst (λ b. IsWithin b o.beyond.now o.inside.octets.now inner r) are.2 h in
        (ap length (sym w.0) ∙ are.1, are.0 ∙ ap (λ c. c ++ o.beyond.now) w.0 ∙ ap (λ b. inner ++ b) (sym w.1))
within_iff Indefinite after inner r o are = (
  (λ h. subst (λ b. IsWithin b o.beyond.now o.inside.octets.now inner r) (sym are.1) (sym are.0 ∙ h.1)),
  (λ h. (tt, are.0 ∙ subst (λ b. IsWithin b o.beyond.now o.inside.octets.now inner r) are.1 h)),
)

-- what the contents are, the element is
pub finds_element : {P : EncodingRules → Header → List ℕ → Type 0} {h : Header} {octets : List ℕ} {o : Opened} (a : Verdict) {v : Verdict} {rest : List ℕ}
    → IsOpened h octets o → h ≢ end_header → (HasReservedTag (label_of_header h) → ⊥) → ((rules : EncodingRules) → (holds rules a ≡ true) ↔ IsAllowed rules h)
    → Finds (λ rules. Body o.marked o.beyond.now (P rules h) o.inside.octets.now) v rest
    → Finds (λ rules. Front (Elem P rules) octets) (worst a v) rest
finds_element {P} {h} {octets} {o} a {v} {rest} is real known test f = finds_and a (λ rules. IsAllowed rules h) test to from f
  where
    to : (rules : EncodingRules) (r : List ℕ) → IsAllowed rules h → Body o.marked o.beyond.now (P rules h) o.inside.octets.now r → Front (Elem P rules) octets r
    to rules r allowed b =
        let back = (within_iff h.length is.after b.0 r o is.are).1 b.1 in
        let x = is.front ++ (b.0 ++ ending h.length) in
        let whole : octets ≡ x ++ r =
        is.split ∙ ap (λ l. is.front ++ l) (back.1 ∙ sym (append_assoc b.0 (ending h.length) r))
        ∙ sym (append_assoc is.front (b.0 ++ ending h.length) r) in
        (x, whole, (h, b.0, record { front = is.front; is = is.is; counted = back.0; spelled = refl; real = real; known = known; allowed = allowed }, b.2))

    from : (rules : EncodingRules) (r : List ℕ) → Front (Elem P rules) octets r → IsAllowed rules h × Body o.marked o.beyond.now (P rules h) o.inside.octets.now r
    from rules r (x, e, (g, inner, en, p)) =
        let one = one_header is.is en.is is.after (inner ++ (ending g.length ++ r)) (sym is.split ∙ spread r en e) in
        let g_is : g ≡ h = sym one.0 in
        let counted = subst (λ k. IsCounted k.length inner) g_is en.counted in
        let tail : is.after ≡ inner ++ (ending h.length ++ r) = one.2 ∙ ap (λ (k : Header). inner ++ (ending k.length ++ r)) g_is in
        (subst (IsAllowed rules) g_is en.allowed, (inner, (within_iff h.length is.after inner r o is.are).0 (counted, tail), subst (λ k. P rules k inner) g_is p))

-- octets without a header begin with no element
pub none_without_header : {octets : List ℕ} (d : ℕ) → ((h : Header) → IsNext h octets → ⊥) → BeginWithNone d octets
none_without_header d none rules h inner x r some e is = none h (front_next r is e)

-- nor do end-of-contents octets
pub none_at_marker : {octets : List ℕ} (d : ℕ) → IsNext end_header octets → BeginWithNone d octets
none_at_marker d next rules h inner x r some e is = is.real (sym (same_next r next is e))

-- nor does a header with a tag that no type has
pub none_reserved : {g : Header} {octets : List ℕ} (d : ℕ) → IsNext g octets → HasReservedTag (label_of_header g) → BeginWithNone d octets
none_reserved d next reserved rules h inner x r some e is =
    is.known (subst (λ (k : Header). HasReservedTag (label_of_header k)) (same_next r next is e) reserved)

-- nor does any where no level is left
pub none_at_depth : {octets : List ℕ} (d : ℕ) → d ≡ 0 → BeginWithNone d octets
none_at_depth d last rules h inner x r some e is = omega (arith, last, some)

-- a tag is not one of these, if a test says so
pub is_known : (h : Header) (b : Bool) → (IsTrue b ↔ HasReservedTag (label_of_header h)) → b ≡ false → HasReservedTag (label_of_header h) → ⊥
is_known h b test off reserved = let on : b ≡ true = test.1 reserved in absurd (cc)

-- nor does a header whose contents are cut off
pub no_element_cut : (P : EncodingRules → Header → List ℕ → Type 0) {h : Header} {octets : List ℕ} (n : ℕ) → IsNext h octets → h.length ≡ Definite n
    → length octets < h.header_len + n → (rules : EncodingRules) (r : List ℕ) → Front (Elem P rules) octets r → ⊥
no_element_cut P {h = h} {octets} n next definite short rules r (x, e, (g, inner, en, p)) =
    let same : g ≡ h = sym (same_next r next en e) in
    let counted : IsCounted (Definite n) inner = subst (λ l. IsCounted l inner) (ap (λ (k : Header). k.length) same ∙ definite) en.counted in
    let size : g.header_len ≡ h.header_len = ap (λ (k : Header). k.header_len) same in
    omega (arith, short, counted, size, en.is.whole, ap length (spread r en e), length-append en.front (inner ++ (ending g.length ++ r)), length-append inner (ending g.length ++ r))

-- octets are contents that begin with an encoding, if they begin with it, and what follows it is the rest
pub within_step : (m : Bool) (b octets x rest inner r : List ℕ) → octets ≡ x ++ rest → IsWithin m b rest inner r → IsWithin m b octets (x ++ inner) r
within_step true b octets x rest inner r e h = e ∙ ap (λ l. x ++ l) h ∙ sym (append_assoc x inner (end_of_contents ++ r))
within_step false b octets x rest inner r e h = (e ∙ ap (λ l. x ++ l) h.0, h.1)

pub within_front : (m : Bool) (b octets x inner r : List ℕ) → IsWithin m b octets (x ++ inner) r → (y : List ℕ) × (octets ≡ x ++ y) × IsWithin m b y inner r
within_front true b octets x inner r h = (inner ++ (end_of_contents ++ r), h ∙ append_assoc x inner (end_of_contents ++ r), refl)
within_front false b octets x inner r h = (inner, h.0, (refl, h.1))

-- a header at the front is no end-of-contents, if these octets are not there
pub real_header : {h : Header} (octets : List ℕ) (b : Bool) → IsNext h octets → (IsTrue b ↔ ((rest : List ℕ) × (octets ≡ end_of_contents ++ rest))) → b ≡ false → h ≢ end_header
real_header octets b next test off e =
    let on : b ≡ true = test.1 ((end_header_next octets).1 (subst (λ k. IsNext k octets) e next)) in
    absurd (cc)

take_front : (x rest : List ℕ) → take (length x) (x ++ rest) ≡ x
take_front [] rest = refl
take_front (o ∷ os) rest = ap (λ l. o ∷ l) (take_front os rest)

-- the octets before the rest
pub taken : (octets x rest : List ℕ) → octets ≡ x ++ rest → take (length octets - length rest) octets ≡ x
taken octets x rest e =
    let size : length octets - length rest ≡ length x = omega (arith, ap length e, length-append x rest) in
    rw size (rw e (take_front x rest))

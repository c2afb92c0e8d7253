-- Octets that are one value, and nothing more.
use Rattle.std.proofs.Common.{◌≡◌, ◌↔◌, ℕ, Bool, true, false, List, [], ◌++◌, refl, sym, ap, ◌∙◌, subst, ◌≤◌, take, length}
use Rattle.der_base.specs.declared.encoding_rules.EncodingRules.{EncodingRules}
use Rattle.schema_read.specs.Departures.{AreOfDer, are_inside}
use Rattle.schema_read.specs.Entries.{are_placed}
use Rattle.schema_read.specs.Notes.{departures_of, entries_of}
use Rattle.schema_read.specs.declared.departure.Departure.{Departure}
use Rattle.schema_read.specs.declared.entry.Entry.{Entry}
use Rattle.schema_read.specs.Verdict.{holds, worst}
use Rattle.schema_read.specs.Reading.{Front, IsWithin, Body, Finds, verdict_of, Logs}
use Rattle.schema_read.specs.declared.notes.Notes.{Notes}
use Rattle.schema_read.specs.declared.verdict.Verdict.{Verdict}
use Rattle.schema_types.specs.Table.{Table}
use Rattle.schema_read.specs.Known.{Known, IsUnknownOpen}
use Rattle.der_base.specs.declared.encoding_rules.EncodingRules.TheVariants.{Ber}
use Rattle.ber.specs.declared.universal.Universal.{Universal}
use Rattle.schema_rules.specs.Contents.{IsContents}
use Rattle.schema_types.specs.declared.node.Node.{Node}
use Rattle.schema_read.specs.Constraints.{IsConstrained}
use Rattle.schema_read.specs.Strings.{AreSegments}
use Rattle.schema_read.specs.Components.{Values}
use Rattle.schema_read.specs.Value.{IsJoinedText, Contains, typed, untyped}
use Rattle.schema_read.proofs.FindsLemmas.{worst_true, worst_both, finds_is, finds_and, status_ends}
use Rattle.schema_read.proofs.ItemLemmas.{inner_found}
use Rattle.schema_read.proofs.VerdictLemmas.{worst_comm}

yes_or_no : {P : Type 0} (b : Bool) → (b ≡ false → P → ⊥) → (b ≡ true → P) → (b ≡ true) ↔ P
yes_or_no true never is = ((λ on. is refl), (λ p. refl))
yes_or_no false never is = ((λ on. absurd (cc)), (λ p. absurd (never refl p)))

-- a value, and the end after it
pub whole_found : {Child : EncodingRules → List ℕ → Type 0} {v w : Verdict} {rest last : List ℕ} (octets : List ℕ)
    → Finds (λ rules. Front (Child rules) octets) v rest → Finds (λ rules. Body false [] (λ inner. inner ≡ []) rest) w last
    → (rules : EncodingRules) → (holds rules (worst v w) ≡ true) ↔ Child rules octets
whole_found {Child} {v} {w} {rest} {last} octets value end rules = yes_or_no (holds rules (worst v w)) never is
  where
    all : Finds (λ r. Body false [] (Child r) octets) (worst v w) last
    all = status_ends (inner_found false [] octets rest value) end

    never : holds rules (worst v w) ≡ false → Child rules octets → ⊥
    never off child = all.none rules off [] (octets, (refl, refl), child)

    is : holds rules (worst v w) ≡ true → Child rules octets
    is on = let there = (all.exact rules on last).1 refl in subst (Child rules) (sym there.1.0) there.2

-- the verdict on what was walked is that of the departures which notes have, if they are kept
pub kept_verdict : {v : Verdict} {old new : Notes} → departures_of old ≡ [] → old.kept ≡ true → Logs v old new → new.lost ≡ 0 → v ≡ verdict_of (departures_of new)
kept_verdict none kept logs all =
    let adds = (logs.adds kept all).1 in
    adds.verdict ∙ ap verdict_of (sym (adds.split ∙ ap (λ l. l ++ adds.added) none))

pub exact_of : {P : EncodingRules → Type 0} {v w : Verdict} → v ≡ w → ((rules : EncodingRules) → (holds rules v ≡ true) ↔ P rules) → (rules : EncodingRules) → (holds rules w ≡ true) ↔ P rules
exact_of {P} e f rules = subst (λ u. (holds rules u ≡ true) ↔ P rules) e (f rules)

-- two tests
pub both_tests : {P Q : EncodingRules → Type 0} {v w : Verdict} → ((rules : EncodingRules) → (holds rules v ≡ true) ↔ P rules) → ((rules : EncodingRules) → (holds rules w ≡ true) ↔ Q rules)
    → (rules : EncodingRules) → (holds rules (worst v w) ≡ true) ↔ (P rules × Q rules)
both_tests {P} {Q} {v} {w} f g rules = (
  (λ on. let h = worst_true rules v w on in ((f rules).0 h.0, (g rules).0 h.1)),
  (λ p. worst_both rules v w ((f rules).1 p.0) ((g rules).1 p.1)),
)

-- contents that are read as a whole, and a test of them
pub finds_also : (P Q : EncodingRules → List ℕ → Type 0) {v a : Verdict} {rest : List ℕ} (m : Bool) (b octets : List ℕ) → m ≡ false
    → Finds (λ rules. Body m b (P rules) octets) v rest → ((rules : EncodingRules) → (holds rules a ≡ true) ↔ Q rules octets)
    → Finds (λ rules. Body m b (λ i. P rules i × Q rules i) octets) (worst v a) rest
finds_also P Q {v} {a} {rest} m b octets off f test =
    finds_is (worst_comm v a) (subst (λ n. Finds (λ rules. Body n b (λ i. P rules i × Q rules i) octets) (worst a v) rest) (sym off)
    (finds_and a (λ rules. Q rules octets) test
    (λ rules r q h. (h.0, h.1, (h.2, subst (Q rules) h.1.0 q)))
    (λ rules r h. (subst (Q rules) (sym h.1.0) h.2.1, (h.0, h.1, h.2.0)))
    (subst (λ n. Finds (λ rules. Body n b (P rules) octets) v rest) off f)))

-- the value in a string
pub contains_value : (t : Table) (Child : Values) (known : Known) (i : ℕ) (inner : List ℕ) {v : Verdict} → (IsUnknownOpen t known i → ⊥)
    → ((rules : EncodingRules) → (holds rules v ≡ true) ↔ Child rules known i inner)
    → (rules : EncodingRules) → (holds rules v ≡ true) ↔ Contains rules t Child known i inner
contains_value t Child known i inner {v} never test rules = ((λ on. typed ((test rules).0 on)), back)
  where
    back : Contains rules t Child known i inner → holds rules v ≡ true
    back (typed child) = (test rules).1 child
    back (untyped is) = absurd (never is)

-- a constructed string, whose text is the only one
pub finds_text : (t : Table) (n : Node) (u : Universal) (text : List ℕ) {v a b : Verdict} {rest : List ℕ} (m : Bool) (c octets : List ℕ)
    → Finds (λ rules. Body m c (λ inner. (rules ≡ Ber) × ((s : List ℕ) × AreSegments 64 u inner s)) octets) v rest
    → ((inner r s : List ℕ) → IsWithin m c octets inner r → AreSegments 64 u inner s → s ≡ text)
    → ((rules : EncodingRules) → (holds rules a ≡ true) ↔ IsContents rules u text)
    → ((rules : EncodingRules) → (holds rules b ≡ true) ↔ IsConstrained rules t n u text)
    → Finds (λ rules. Body m c (IsJoinedText rules t n u) octets) (worst v (worst a b)) rest
finds_text t n u text {v} {a} {b} m c octets f only whole kept =
    finds_is (worst_comm v (worst a b)) (finds_and (worst a b) (λ rules. IsContents rules u text × IsConstrained rules t n u text) (both_tests whole kept)
    (λ rules r is h.
    let same = only h.0 r h.2.1.0 h.1 h.2.1.1 in
    (h.0, h.1, (h.2.0, (h.2.1.0, h.2.1.1, subst (IsContents rules u) (sym same) is.0, subst (IsConstrained rules t n u) (sym same) is.1))))
    (λ rules r h.
    let same = only h.0 r h.2.1.0 h.1 h.2.1.1 in
    ((subst (IsContents rules u) same h.2.1.2, subst (IsConstrained rules t n u) same h.2.1.3), (h.0, h.1, (h.2.0, (h.2.1.0, h.2.1.1))))) f)

-- what holds of the departures that notes have, holds of the memory that they were put into
pub ber_there : {P : Type 0} {new : List Departure} (n : Notes) → new ≡ n.departures.now → AreOfDer (departures_of n) ↔ P → AreOfDer (take n.departure_count new) ↔ P
ber_there {P} n same f = subst (λ l. AreOfDer (take n.departure_count l) ↔ P) (sym same) f

pub inside_there : {new : List Departure} {end : ℕ} (n : Notes) → new ≡ n.departures.now → n.end ≡ end → are_inside end (take n.departure_count new) ≡ true
inside_there {new} n same e = rw same (subst (λ k. are_inside k (departures_of n) ≡ true) e n.inside)

pub placed_there : {new : List Entry} {end : ℕ} (n : Notes) → new ≡ n.entries.now → n.end ≡ end → are_placed end (take n.entry_count new) ≡ true
placed_there {new} n same e = rw same (subst (λ k. are_placed k (entries_of n) ≡ true) e n.placed)

pub fits_there : {es : List Entry} {ds : List Departure} (n : Notes) → es ≡ n.entries.now → ds ≡ n.departures.now
    → (n.entry_count ≤ length es) × (n.departure_count ≤ length ds)
fits_there n e f = (subst (λ l. n.entry_count ≤ length l) (sym e) n.entries_fit, subst (λ l. n.departure_count ≤ length l) (sym f) n.departures_fit)

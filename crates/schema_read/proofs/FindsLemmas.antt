-- How what functions find goes together.
use Rattle.std.proofs.Common.{◌≡◌, ◌↔◌, ◌&&◌, ℕ, Bool, true, false, List, refl, sym, ◌∙◌, subst}
use Rattle.der_base.specs.declared.encoding_rules.EncodingRules.{EncodingRules}
use Rattle.schema_read.specs.Verdict.{holds, worst}
use Rattle.schema_read.specs.Reading.{Front, Body, Finds, Status}
use Rattle.schema_read.specs.declared.verdict.Verdict.{Verdict}
use Rattle.schema_read.specs.declared.verdict.Verdict.TheVariants.{Der, Neither}
use Rattle.schema_read.proofs.VerdictLemmas.{holds_worst, holds_neither, holds_der}

-- what is said of the octets that follow
abbrev pub Said : Type 1
Said = EncodingRules → List ℕ → Type 0

pub through : {A B C : Type 0} → (A ↔ B) → (B ↔ C) → A ↔ C
through f g = (λ a. g.0 (f.0 a), λ c. f.1 (g.1 c))

pub back : {A B : Type 0} → (A ↔ B) → B ↔ A
back f = (f.1, f.0)

-- both hold, or one does not
pub data Cases (a b : Bool) : Type 0 where
  both : a ≡ true → b ≡ true → Cases a b
  first : a ≡ false → Cases a b
  second : a ≡ true → b ≡ false → Cases a b

pub cases : (a b : Bool) → Cases a b
cases true true = both refl refl
cases true false = second refl refl
cases false b = first refl

and_true : (a b : Bool) → a && b ≡ true → (a ≡ true) × (b ≡ true)
and_true true b e = (refl, e)
and_true false b e = absurd (cc)

pub worst_true : (r : EncodingRules) (v w : Verdict) → holds r (worst v w) ≡ true → (holds r v ≡ true) × (holds r w ≡ true)
worst_true r v w e = and_true (holds r v) (holds r w) (sym (holds_worst r v w) ∙ e)

-- the verdict on both holds if both do
pub worst_both : (r : EncodingRules) (v w : Verdict) → holds r v ≡ true → holds r w ≡ true → holds r (worst v w) ≡ true
worst_both r v w p q = holds_worst r v w ∙ rw p q

-- nothing of this kind is there
pub finds_none : {Is : Said} {rest : List ℕ} → ((rules : EncodingRules) (r : List ℕ) → Is rules r → ⊥) → Finds Is Neither rest
finds_none never = record {
  exact = λ rules on. let off = holds_neither rules in absurd (cc);
  none = λ rules off r is. never rules r is;
}

-- the same said in other words
pub finds_as : {Is Also : Said} {v : Verdict} {rest : List ℕ} → ((rules : EncodingRules) (r : List ℕ) → Is rules r ↔ Also rules r) → Finds Is v rest → Finds Also v rest
finds_as same f = record {
  exact = λ rules on r. through (back (same rules r)) (f.exact rules on r);
  none = λ rules off r is. f.none rules off r ((same rules r).1 is);
}

-- a verdict on another fact added
pub finds_and : {Is Also : Said} (a : Verdict) {v : Verdict} {rest : List ℕ} (Fact : EncodingRules → Type 0)
    → ((rules : EncodingRules) → (holds rules a ≡ true) ↔ Fact rules)
    → ((rules : EncodingRules) (r : List ℕ) → Fact rules → Is rules r → Also rules r)
    → ((rules : EncodingRules) (r : List ℕ) → Also rules r → Fact rules × Is rules r)
    → Finds Is v rest → Finds Also (worst a v) rest
finds_and {Is} {Also} a {v} {rest} Fact test to from f = record { exact = exact; none = none }
  where
    exact : (rules : EncodingRules) → holds rules (worst a v) ≡ true → (r : List ℕ) → Also rules r ↔ (r ≡ rest)
    exact rules on r =
        let h = worst_true rules a v on in
        (λ also. (f.exact rules h.1 r).0 (from rules r also).1, λ e. to rules r ((test rules).0 h.0) ((f.exact rules h.1 r).1 e))

    decide : (rules : EncodingRules) (r : List ℕ) → Also rules r → holds rules (worst a v) ≡ true
    decide rules r also = pick (cases (holds rules a) (holds rules v))
      where
        pick : Cases (holds rules a) (holds rules v) → holds rules (worst a v) ≡ true
        pick (both p q) = holds_worst rules a v ∙ rw p q
        pick (first p) = let on : holds rules a ≡ true = (test rules).1 (from rules r also).0 in absurd (cc)
        pick (second p q) = absurd (f.none rules q r (from rules r also).1)

    none : (rules : EncodingRules) → holds rules (worst a v) ≡ false → (r : List ℕ) → Also rules r → ⊥
    none rules off r also = let on = decide rules r also in absurd (cc)

pub status_then : {A B C : Said} {v w : Verdict} → Status v B C → Status w A B → Status (worst v w) A C
status_then {A} {B} {C} {v} {w} s t = record { good = good; bad = bad }
  where
    good : (rules : EncodingRules) → holds rules (worst v w) ≡ true → (r : List ℕ) → A rules r ↔ C rules r
    good rules on r = let h = worst_true rules v w on in through (t.good rules h.1 r) (s.good rules h.0 r)

    bad : (rules : EncodingRules) → holds rules (worst v w) ≡ false → (r : List ℕ) → C rules r → ⊥
    bad rules off r c = pick (cases (holds rules v) (holds rules w))
      where
        pick : Cases (holds rules v) (holds rules w) → ⊥
        pick (both p q) = let on : holds rules (worst v w) ≡ true = holds_worst rules v w ∙ rw p q in absurd (cc)
        pick (first p) = s.bad rules p r c
        pick (second p q) = t.bad rules q r ((s.good rules p r).1 c)

pub status_same : {A B : Said} → ((rules : EncodingRules) (r : List ℕ) → A rules r ↔ B rules r) → Status Der A B
status_same same = record {
  good = λ rules on r. same rules r;
  bad = λ rules off r b. let on = holds_der rules in absurd (cc);
}

pub status_refused : {A B : Said} → ((rules : EncodingRules) (r : List ℕ) → B rules r → ⊥) → Status Neither A B
status_refused never = record {
  good = λ rules on. let off = holds_neither rules in absurd (cc);
  bad = λ rules off r b. never rules r b;
}

pub status_ends : {A B : Said} {v w : Verdict} {rest : List ℕ} → Status v A B → Finds A w rest → Finds B (worst v w) rest
status_ends {A} {B} {v} {w} {rest} s f = record { exact = exact; none = none }
  where
    exact : (rules : EncodingRules) → holds rules (worst v w) ≡ true → (r : List ℕ) → B rules r ↔ (r ≡ rest)
    exact rules on r = let h = worst_true rules v w on in through (back (s.good rules h.0 r)) (f.exact rules h.1 r)

    none : (rules : EncodingRules) → holds rules (worst v w) ≡ false → (r : List ℕ) → B rules r → ⊥
    none rules off r b = pick (cases (holds rules v) (holds rules w))
      where
        pick : Cases (holds rules v) (holds rules w) → ⊥
        pick (both p q) = let on : holds rules (worst v w) ≡ true = holds_worst rules v w ∙ rw p q in absurd (cc)
        pick (first p) = s.bad rules p r b
        pick (second p q) = f.none rules q r ((s.good rules p r).1 b)

-- for verdicts that are the same
pub finds_is : {Is : Said} {v w : Verdict} {rest : List ℕ} → v ≡ w → Finds Is w rest → Finds Is v rest
finds_is {Is} {v} {w} {rest} e f = subst (λ u. Finds Is u rest) (sym e) f

pub status_is : {A B : Said} {v w : Verdict} → v ≡ w → Status w A B → Status v A B
status_is {A} {B} e s = subst (λ u. Status u A B) (sym e) s

pub finds_never : {Is : Said} {v : Verdict} {rest : List ℕ} → v ≡ Neither → ((rules : EncodingRules) (r : List ℕ) → Is rules r → ⊥) → Finds Is v rest
finds_never e never = finds_is e (finds_none never)

-- at octets that are the same
pub finds_at : (Is : EncodingRules → List ℕ → Type 0) {v : Verdict} {rest s t : List ℕ} → s ≡ t → Finds (λ rules. Front (Is rules) s) v rest → Finds (λ rules. Front (Is rules) t) v rest
finds_at Is {v} {rest} e f = subst (λ o. Finds (λ rules. Front (Is rules) o) v rest) e f

pub body_at : (Are : EncodingRules → List ℕ → Type 0) {v : Verdict} {rest b c s t : List ℕ} {m n : Bool} → m ≡ n → b ≡ c → s ≡ t
    → Finds (λ rules. Body m b (Are rules) s) v rest → Finds (λ rules. Body n c (Are rules) t) v rest
body_at Are {v} {rest} {b} {c} {s} {t} {m} {n} e f g h =
    subst (λ o. Finds (λ rules. Body n c (Are rules) o) v rest) g
    (subst (λ o. Finds (λ rules. Body n o (Are rules) s) v rest) f
    (subst (λ o. Finds (λ rules. Body o b (Are rules) s) v rest) e h))

-- for the same said of what is there
pub front_as : {P Q : List ℕ → Type 0} {octets r : List ℕ} → ((x : List ℕ) → P x ↔ Q x) → Front P octets r ↔ Front Q octets r
front_as same = ((λ f. (f.0, f.1, (same f.0).0 f.2)), (λ f. (f.0, f.1, (same f.0).1 f.2)))

pub body_as : {P Q : List ℕ → Type 0} (m : Bool) (b octets r : List ℕ) → ((x : List ℕ) → P x ↔ Q x) → Body m b P octets r ↔ Body m b Q octets r
body_as m b octets r same = ((λ f. (f.0, f.1, (same f.0).0 f.2)), (λ f. (f.0, f.1, (same f.0).1 f.2)))

-- contents that are read as a whole
pub finds_whole : (P : EncodingRules → List ℕ → Type 0) {v : Verdict} (m : Bool) (b octets : List ℕ) → m ≡ false
    → ((rules : EncodingRules) → (holds rules v ≡ true) ↔ P rules octets) → Finds (λ rules. Body m b (P rules) octets) v b
finds_whole P {v} m b octets off test = subst (λ n. Finds (λ rules. Body n b (P rules) octets) v b) (sym off) (record {
  exact = λ rules on r. ((λ f. f.1.1), (λ e. (octets, (refl, e), (test rules).0 on)));
  none = λ rules no r f. let on : holds rules v ≡ true = (test rules).1 (subst (P rules) (sym f.1.0) f.2) in absurd (cc);
})

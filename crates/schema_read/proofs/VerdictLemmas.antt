-- Verdicts on parts together, and what is added to a list of departures.
use Rattle.std.proofs.Common.{◌≡◌, ◌↔◌, ◌&&◌, true, false, List, [], ◌∷◌, ◌++◌, refl, sym, ap, ◌∙◌, subst, append_assoc, append-nil}
use Rattle.der_base.specs.declared.encoding_rules.EncodingRules.{EncodingRules}
use Rattle.der_base.specs.declared.encoding_rules.EncodingRules.TheVariants as rules
use Rattle.schema_read.specs.Notes.{departures_of}
use Rattle.schema_read.specs.Verdict.{holds, worst}
use Rattle.schema_read.specs.Rule.{verdict_of_rule}
use Rattle.schema_read.specs.Reading.{verdict_of, Adds, Logs}
use Rattle.schema_read.specs.declared.departure.Departure.{Departure}
use Rattle.schema_read.specs.declared.notes.Notes.{Notes}
use Rattle.schema_read.specs.declared.verdict.Verdict.{Verdict}
use Rattle.schema_read.specs.declared.verdict.Verdict.TheVariants.{Der, Ber, Neither}

pub holds_worst : (r : EncodingRules) (v w : Verdict) → holds r (worst v w) ≡ holds r v && holds r w
holds_worst rules.Der Der w = refl
holds_worst rules.Der Ber Der = refl
holds_worst rules.Der Ber Ber = refl
holds_worst rules.Der Ber Neither = refl
holds_worst rules.Der Neither w = refl
holds_worst rules.Ber Der w = refl
holds_worst rules.Ber Ber Der = refl
holds_worst rules.Ber Ber Ber = refl
holds_worst rules.Ber Ber Neither = refl
holds_worst rules.Ber Neither w = refl

pub holds_neither : (r : EncodingRules) → holds r Neither ≡ false
holds_neither rules.Der = refl
holds_neither rules.Ber = refl

pub holds_der : (r : EncodingRules) → holds r Der ≡ true
holds_der rules.Der = refl
holds_der rules.Ber = refl

pub worst_assoc : (u v w : Verdict) → worst (worst u v) w ≡ worst u (worst v w)
worst_assoc Der v w = refl
worst_assoc Ber Der w = refl
worst_assoc Ber Ber Der = refl
worst_assoc Ber Ber Ber = refl
worst_assoc Ber Ber Neither = refl
worst_assoc Ber Neither w = refl
worst_assoc Neither v w = refl

pub worst_der : (v : Verdict) → worst v Der ≡ v
worst_der Der = refl
worst_der Ber = refl
worst_der Neither = refl

-- the verdict on added departures is that on both
pub verdict_append : (a b : List Departure) → verdict_of (a ++ b) ≡ worst (verdict_of a) (verdict_of b)
verdict_append [] b = refl
verdict_append (d ∷ ds) b =
    ap (λ v. worst (verdict_of_rule d.rule) v) (verdict_append ds b)
    ∙ sym (worst_assoc (verdict_of_rule d.rule) (verdict_of ds) (verdict_of b))

pub adds_then : {v w : Verdict} {a b c : List Departure} → Adds v a b → Adds w b c → Adds (worst v w) a c
adds_then {v = v} {w = w} {a = a} s t = record {
  added = s.added ++ t.added;
  split = t.split ∙ ap (λ l. l ++ t.added) s.split ∙ append_assoc a s.added t.added;
  verdict = ap (λ x. worst x w) s.verdict ∙ ap (λ x. worst (verdict_of s.added) x) t.verdict ∙ sym (verdict_append s.added t.added);
}

pub adds_none : (a : List Departure) → Adds Der a a
adds_none a = record { added = []; split = sym (append-nil a); verdict = refl }

pub adds_one : (d : Departure) (a : List Departure) → Adds (verdict_of_rule d.rule) a (a ++ d ∷ [])
adds_one d a = record { added = d ∷ []; split = refl; verdict = sym (worst_der (verdict_of_rule d.rule)) }

pub logs_then : {v w : Verdict} {a b c : Notes} → Logs v a b → Logs w b c → Logs (worst v w) a c
logs_then s t = record {
  same = t.same ∙ s.same;
  entries = t.entries ∙ s.entries;
  departures = t.departures ∙ s.departures;
  adds = λ on none.
      let later = t.adds (s.same ∙ on) none in
      let first = s.adds on later.0 in
      (first.0, adds_then first.1 later.1);
}

pub logs_none : (a : Notes) → Logs Der a a
logs_none a = record { same = refl; entries = refl; departures = refl; adds = λ on none. (none, adds_none (departures_of a)) }

pub worst_neither : (v : Verdict) → worst v Neither ≡ Neither
worst_neither Der = refl
worst_neither Ber = refl
worst_neither Neither = refl

pub logs_is : {v w : Verdict} {a b : Notes} → v ≡ w → Logs w a b → Logs v a b
logs_is {a = a} {b = b} e s = subst (λ u. Logs u a b) (sym e) s

pub logs_after : {v : Verdict} {a b c : Notes} → Logs Der a b → Logs v b c → Logs v a c
logs_after s t = logs_then s t

-- a rule that is kept, and one that is broken under all rules
pub kept : {P : EncodingRules → Type 0} → ((r : EncodingRules) → P r) → (r : EncodingRules) → (holds r Der ≡ true) ↔ P r
kept is r = ((λ on. is r), (λ p. holds_der r))

pub broken : {P : EncodingRules → Type 0} → ((r : EncodingRules) → P r → ⊥) → (r : EncodingRules) → (holds r Neither ≡ true) ↔ P r
broken never r = ((λ on. let off = holds_neither r in absurd (cc)), (λ p. absurd (never r p)))

pub worst_comm : (v w : Verdict) → worst v w ≡ worst w v
worst_comm Der Der = refl
worst_comm Der Ber = refl
worst_comm Der Neither = refl
worst_comm Ber Der = refl
worst_comm Ber Ber = refl
worst_comm Ber Neither = refl
worst_comm Neither Der = refl
worst_comm Neither Ber = refl
worst_comm Neither Neither = refl

pub logs_left : {v : Verdict} {a b c : Notes} → Logs Der b c → Logs v a b → Logs v a c
logs_left {v = v} t s = logs_is (sym (worst_der v)) (logs_then s t)

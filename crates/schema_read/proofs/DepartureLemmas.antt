-- What lists of departures say of the octets.
use Rattle.std.proofs.Common.{◌≡◌, ◌↔◌, ◌⊎◌, inl, inr, if◌then◌else◌, Bool, true, false, List, [], ◌∷◌, refl, sym, ◌∙◌, subst, ℕ, zero, suc, ◌+◌, ◌<◌, ◌≤◌, ◌&&◌, not, nat_lt, ◌++◌, length, take, slice_set, arith}
use Rattle.std.proofs.lemmas.List.{take_more_set}
use Rattle.der_base.specs.declared.encoding_rules.EncodingRules.TheVariants as rules
use Rattle.schema_rules.specs.Rules.{is_of_der}
use Rattle.std.proofs.lemmas.Bool.{le-ltb}
use Rattle.schema_read.specs.Departures.{AreOfDer, are_inside}
use Rattle.schema_read.specs.Reading.{verdict_of}
use Rattle.schema_read.specs.Rule.{verdict_of_rule}
use Rattle.schema_read.specs.Verdict.{holds, worst}
use Rattle.schema_read.specs.declared.departure.Departure.{Departure}
use Rattle.schema_read.specs.declared.rule.Rule.{Rule}
use Rattle.schema_read.specs.declared.rule.Rule.TheVariants as rule
use Rattle.schema_read.specs.declared.verdict.Verdict.{Verdict}
use Rattle.schema_read.specs.declared.verdict.Verdict.TheVariants.{Der, Ber, Neither}

-- a broken rule leaves BER or nothing
abbrev Departs : Verdict → Type 0
Departs v = (v ≡ Ber) ⊎ (v ≡ Neither)

of_bool : (b : Bool) → Departs (if◌then◌else◌ b Ber Neither)
of_bool true = inl refl
of_bool false = inr refl

rule_departs : (r : Rule) → Departs (verdict_of_rule r)
rule_departs rule.LongLength = inl refl
rule_departs rule.IndefiniteLength = inl refl
rule_departs rule.SetOrder = inl refl
rule_departs rule.ComponentOrder = inl refl
rule_departs rule.DefaultEncoded = inl refl
rule_departs rule.ConstructedString = inl refl
rule_departs rule.UnusedBits = inr refl
rule_departs rule.Header = inr refl
rule_departs rule.Truncated = inr refl
rule_departs rule.EndOfContents = inr refl
rule_departs rule.Unended = inr refl
rule_departs rule.Form = inr refl
rule_departs (rule.Contents r) = of_bool (is_of_der r)
rule_departs rule.Tag = inr refl
rule_departs rule.Duplicate = inr refl
rule_departs rule.Missing = inr refl
rule_departs rule.Unexpected = inr refl
rule_departs rule.ValueRange = inr refl
rule_departs rule.Size = inr refl
rule_departs rule.Alphabet = inr refl
rule_departs rule.Unlisted = inr refl
rule_departs rule.Depth = inr refl

not_der : (v w : Verdict) → Departs v → holds rules.Der (worst v w) ≡ true → ⊥
not_der v w (inl e) on = ber w (subst (λ u. holds rules.Der (worst u w) ≡ true) e on)
  where
    ber : (u : Verdict) → holds rules.Der (worst Ber u) ≡ true → ⊥
    ber Der is = cc
    ber Ber is = cc
    ber Neither is = cc
not_der v w (inr e) on = let off = subst (λ u. holds rules.Der (worst u w) ≡ true) e on in cc

-- no departure exactly if DER is kept
pub none_departs : (ds : List Departure) → (holds rules.Der (verdict_of ds) ≡ true) ↔ (ds ≡ [])
none_departs [] = ((λ on. refl), (λ e. refl))
none_departs (d ∷ ds) = ((λ on. absurd (not_der (verdict_of_rule d.rule) (verdict_of ds) (rule_departs d.rule) on)), (λ e. cc))

same_ber : (w : Verdict) → holds rules.Ber (worst Ber w) ≡ holds rules.Ber w
same_ber Der = refl
same_ber Ber = refl
same_ber Neither = refl

one_departs : {P : Type 0} (v w : Verdict) → Departs v → (holds rules.Ber w ≡ true) ↔ P → (holds rules.Ber (worst v w) ≡ true) ↔ ((v ≡ Ber) × P)
one_departs v w (inl e) rest = (
  (λ on. (e, rest.0 (sym (same_ber w) ∙ subst (λ u. holds rules.Ber (worst u w) ≡ true) e on))),
  (λ p. subst (λ u. holds rules.Ber (worst u w) ≡ true) (sym e) (same_ber w ∙ rest.1 p.1)),
)
one_departs v w (inr e) rest = (
  (λ on. let off = subst (λ u. holds rules.Ber (worst u w) ≡ true) e on in absurd (cc)),
  (λ p. let both = sym e ∙ p.0 in absurd (cc)),
)

-- none but of DER exactly if BER is kept
pub some_depart : (ds : List Departure) → (holds rules.Ber (verdict_of ds) ≡ true) ↔ AreOfDer ds
some_depart [] = ((λ on. tt), (λ are. refl))
some_depart (d ∷ ds) = one_departs (verdict_of_rule d.rule) (verdict_of ds) (rule_departs d.rule) (some_depart ds)

-- one more departure at such an offset
pub inside_more : (n : ℕ) (ds : List Departure) (d : Departure) → are_inside n ds ≡ true → d.offset ≤ n → are_inside n (ds ++ d ∷ []) ≡ true
inside_more n [] d all here = rw (le-ltb n d.offset here) refl
inside_more n (e ∷ es) d all here = both (not (nat_lt n e.offset)) all (λ rest. inside_more n es d rest here)
  where
    both : (b : Bool) → b && are_inside n es ≡ true → (are_inside n es ≡ true → are_inside n (es ++ d ∷ []) ≡ true) → b && are_inside n (es ++ d ∷ []) ≡ true
    both true rest more = more rest
    both false rest more = absurd (cc)

-- a departure that was added at the end of those which are kept
pub inside_added : (n : ℕ) (ds : List Departure) (k : ℕ) (d : Departure) → k < length ds → are_inside n (take k ds) ≡ true → d.offset ≤ n → are_inside n (take (k + 1) (slice_set ds k d)) ≡ true
inside_added n ds k d room all here = rw (take_more_set ds k d room) (inside_more n (take k ds) d all here)

-- none is kept exactly if none is counted
pub none_counted : (ds : List Departure) (k : ℕ) → k ≤ length ds → (k ≡ 0) ↔ (take k ds ≡ [])
none_counted ds zero fits = ((λ e. refl), (λ e. refl))
none_counted [] (suc k) fits = absurd (omega (arith, fits))
none_counted (d ∷ ds) (suc k) fits = ((λ e. cc), (λ e. cc))

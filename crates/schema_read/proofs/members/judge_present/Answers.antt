use Rattle.std.proofs.Common.{◌≡◌, ◌↔◌, ◌⊎◌, ◌+◌, ◌<◌, ⊎_elim, inl, inr, ℕ, true, Some, slice_get, sym, ◌∙◌, subst, arith}
use Rattle.std.proofs.lemmas.Bool.{cases_lt}
use Rattle.der_base.specs.declared.encoding_rules.EncodingRules.{EncodingRules}
use Rattle.schema_types.specs.Tags.{IsFieldOf}
use Rattle.schema_types.specs.declared.field.Field.{Field}
use Rattle.schema_read.specs.Components.{MayBeAbsent}
use Rattle.schema_read.specs.Members.{is_seen}
use Rattle.schema_read.specs.Types.{types_in}
use Rattle.schema_read.specs.Verdict.{holds}
use Rattle.schema_read.proofs.FindsLemmas.{worst_true, worst_both}
use Rattle.schema_read.proofs.UntypedLemmas.{test_is}
use Rattle.schema_read.proofs.VerdictLemmas.{logs_is, logs_then}
use Rattle.schema_read.proofs.members.judge_present.Goals as goal

pub loop-k-preserved : goal.loop-k-preserved
loop-k-preserved c = record {
  low = omega (arith, c.loop-k.invariant.low);
  exact = λ rules. (forward rules, backward rules);
  log = logs_is c.and-verdict.ensures (logs_then c.loop-k.invariant.log c.in_ok-present.ensures.log);
  end = c.in_ok-present.ensures.end ∙ c.loop-k.invariant.end;
}
  where
    IsThere : ℕ → Field → Type 0
    IsThere k f = MayBeAbsent f ⊎ (is_seen c.args.seen.now k ≡ true)

    Before : ℕ → Type 0
    Before end = (k : ℕ) (f : Field) → k < end → IsFieldOf (types_in c.args.schema.now.octets.now) c.args.node k f → IsThere k f

    test : (rules : EncodingRules) → (holds rules c.in_ok-present.present ≡ true) ↔ (MayBeAbsent c.field_of.result ⊎ (c.is_seen.result ≡ true))
    test = test_is c.in_ok-present.ensures.verdict c.presence_rule-rule.ensures

    forward : (rules : EncodingRules) → holds rules c.and-verdict.result ≡ true → Before (c.loop-k.k + 1)
    forward rules on k f high is =
        let both = worst_true rules c.loop-k.verdict c.in_ok-present.present (subst (λ v. holds rules v ≡ true) c.and-verdict.ensures on) in
        ⊎_elim (λ less. (c.loop-k.invariant.exact rules).0 both.0 k f less is) (λ over. here (omega (arith, high, over)) ((test rules).0 both.1)) (cases_lt k c.loop-k.k)
      where
        here : k ≡ c.loop-k.k → MayBeAbsent c.field_of.result ⊎ (c.is_seen.result ≡ true) → IsThere k f
        here e (inl may) =
            let row : slice_get (types_in c.args.schema.now.octets.now).fields c.loop-k.k ≡ Some f = subst (λ q. slice_get (types_in c.args.schema.now.octets.now).fields q ≡ Some f) e is.row in
            let rows : Some c.field_of.result ≡ Some f = sym c.field_of.ensures.value ∙ row in
            let it : c.field_of.result ≡ f = cc in
            inl (subst MayBeAbsent it may)
        here e (inr seen) = inr (subst (λ q. is_seen c.args.seen.now q ≡ true) (sym e) (sym c.is_seen.ensures ∙ seen))

    backward : (rules : EncodingRules) → Before (c.loop-k.k + 1) → holds rules c.and-verdict.result ≡ true
    backward rules all =
        subst (λ v. holds rules v ≡ true) (sym c.and-verdict.ensures)
        (worst_both rules c.loop-k.verdict c.in_ok-present.present
        ((c.loop-k.invariant.exact rules).1 (λ k f less is. all k f (omega (arith, less)) is))
        ((test rules).1 (of (all c.loop-k.k c.field_of.result (omega arith) (record { part = (c.loop-k.invariant.low, omega (arith, c.loop-k-test.true, c.end_of-k-end.ensures)); row = c.field_of.ensures.value })))))
      where
        of : IsThere c.loop-k.k c.field_of.result → MayBeAbsent c.field_of.result ⊎ (c.is_seen.result ≡ true)
        of (inl may) = inl may
        of (inr seen) = inr (c.is_seen.ensures ∙ seen)

use Rattle.std.proofs.Common.{◌≡◌, ◌∙◌, ℕ, ℤ, true, refl, sym, arith}
use Rattle.schema_rules.specs.Values.{integer_value, IsInRange}
use Rattle.schema_types.specs.Table.{Table}
use Rattle.schema_types.specs.Allowed.{IsLimitOf}
use Rattle.schema_types.specs.declared.limit.Limit.{Limit}
use Rattle.schema_types.specs.declared.limit_kind.LimitKind.TheVariants.{Value}
use Rattle.schema_types.specs.declared.span.Span.{Span}
use Rattle.schema_types.proofs.TestLemmas.{refuted}
use Rattle.schema_read.proofs.LimitLemmas.{isnt_true, isnt_both, looked_at}
use Rattle.schema_read.specs.Constraints.{IsAllowedValue, limited, unlimited}
use Rattle.schema_read.proofs.constraints.is_allowed_value.Goals.{then-is_of_values+else-allows, else-is_of_values}
use Rattle.schema_read.proofs.constraints.is_allowed_value.Goals as goal

pub returns-then-allows : goal.returns-then-allows
returns-then-allows c = (
  λ _. limited c.loop-k.k c.limit_of-limit.result
      (record { part = (c.loop-k.auto.k, omega arith); row = c.limit_of-limit.ensures; kind_is = c.is_of_values.ensures.0 c.if-is_of_values.true })
      (c.allows.ensures.0 c.if-allows.true),
  λ _. refl,
)

-- a number is not allowed if there is a range, and it is outside each
disallowed : {t : Table} {limits : Span} {number : ℤ} → (k : ℕ) × (m : Limit) × IsLimitOf t limits Value k m → ((k : ℕ) (m : Limit) → IsLimitOf t limits Value k m → IsInRange m.low m.high number → ⊥) → IsAllowedValue t limits number → ⊥
disallowed there outside (limited k m is between) = outside k m is between
disallowed there outside (unlimited none) = none there.0 there.1 there.2

pub returns : goal.returns
returns c = (
  λ e. unlimited (λ k m is. isnt_both e (c.loop-k.invariant.outside k m (omega (arith, is.part.1)) is).1),
  λ allowed. isnt_true c.loop-k.limited (λ e. disallowed (c.loop-k.invariant.one e) (λ k m is. (c.loop-k.invariant.outside k m (omega (arith, is.part.1)) is).0) allowed),
)

pub loop-k-preserved : goal.loop-k-preserved
loop-k-preserved c =
    let Fact : Limit → Type 0 = λ m. (IsInRange m.low m.high (integer_value c.args.contents.now) → ⊥) × (c.if-is_of_values.limited ≡ true) in
    elim c.if-is_of_values.branch [
      | then-is_of_values+else-allows w ↦ record {
        outside = looked_at Fact c.limit_of-limit.ensures (λ _. (refuted w.allows.ensures w.if-allows.false, w.limited-is)) (λ k m lt is. ((c.loop-k.invariant.outside k m lt is).0, w.limited-is));
        one = λ _. (c.loop-k.k, c.limit_of-limit.result, record { part = (c.loop-k.auto.k, omega arith); row = c.limit_of-limit.ensures; kind_is = c.is_of_values.ensures.0 w.if-is_of_values.true });
      }
      | else-is_of_values w ↦ record {
        outside = looked_at Fact c.limit_of-limit.ensures (λ e. absurd (refuted c.is_of_values.ensures w.if-is_of_values.false e)) (λ k m lt is. let p = c.loop-k.invariant.outside k m lt is in (p.0, w.limited-is ∙ p.1));
        one = λ e. c.loop-k.invariant.one (sym w.limited-is ∙ e);
      }
    ]

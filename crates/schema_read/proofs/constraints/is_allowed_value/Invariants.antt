use Rattle.std.proofs.Common.{◌≡◌, ◌<◌, ℕ, true}
use Rattle.schema_rules.specs.Values.{integer_value, IsInRange}
use Rattle.schema_types.specs.Allowed.{IsLimitOf}
use Rattle.schema_types.specs.declared.limit.Limit.{Limit}
use Rattle.schema_types.specs.declared.limit_kind.LimitKind.TheVariants.{Value}
use Rattle.schema_read.specs.Types.{types_in}
use Rattle.schema_read.proofs.constraints.is_allowed_value.Given as goal

abbrev pub invariant-loop-k : goal.invariant-loop-k
invariant-loop-k l = record {
  outside : (k : ℕ) (m : Limit) → k < l.k → IsLimitOf (types_in l.schema.octets.now) l.fn.limits Value k m → (IsInRange m.low m.high (integer_value l.contents) → ⊥) × (l.limited ≡ true);
  one : l.limited ≡ true → (k : ℕ) × (m : Limit) × IsLimitOf (types_in l.schema.octets.now) l.fn.limits Value k m;
}

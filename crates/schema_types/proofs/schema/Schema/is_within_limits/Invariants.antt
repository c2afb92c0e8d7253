use Rattle.std.proofs.Common.{◌≡◌, ◌<◌, ℕ, true}
use Rattle.schema_types.specs.Table.{table_in}
use Rattle.schema_types.specs.Allowed.{IsLimitOf, IsBetween}
use Rattle.schema_types.specs.declared.limit.Limit.{Limit}
use Rattle.schema_types.proofs.schema.Schema.is_within_limits.Given as goal

abbrev pub invariant-loop-k : goal.invariant-loop-k
invariant-loop-k l = record {
  outside : (k : ℕ) (m : Limit) → k < l.k → IsLimitOf (table_in l.self.octets.now) l.fn.limits l.fn.kind k m → (IsBetween m l.fn.number → ⊥) × (l.limited ≡ true);
  one : l.limited ≡ true → (k : ℕ) × (m : Limit) × IsLimitOf (table_in l.self.octets.now) l.fn.limits l.fn.kind k m;
}

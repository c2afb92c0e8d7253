use Rattle.std.proofs.Common.{◌≡◌, ◌<◌, ℕ, pos, true}
use Rattle.schema_rules.specs.Characters.{AreZeroFrom}
use Rattle.schema_types.specs.Allowed.{IsLimitOf, IsBetween}
use Rattle.schema_types.specs.declared.limit.Limit.{Limit}
use Rattle.schema_types.specs.declared.limit_kind.LimitKind.TheVariants.{Size}
use Rattle.schema_read.specs.Constraints.{counted}
use Rattle.schema_read.specs.Types.{types_in}
use Rattle.schema_read.proofs.bits.has_size_with_zeros.Given as goal

abbrev pub invariant-loop-k : goal.invariant-loop-k
invariant-loop-k l = record {
  outside : (k : ℕ) (m : Limit) → k < l.k → IsLimitOf (types_in l.schema.octets.now) l.fn.limits Size k m → (((size : ℕ) × AreZeroFrom size l.contents × IsBetween m (pos (counted size))) → ⊥) × (l.limited ≡ true);
  one : l.limited ≡ true → (k : ℕ) × (m : Limit) × IsLimitOf (types_in l.schema.octets.now) l.fn.limits Size k m;
}

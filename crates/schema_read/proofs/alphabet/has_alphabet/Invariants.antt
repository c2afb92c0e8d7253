use Rattle.std.proofs.Common.{◌<◌, ℕ}
use Rattle.schema_types.specs.Allowed.{IsLimitOf}
use Rattle.schema_types.specs.declared.limit.Limit.{Limit}
use Rattle.schema_types.specs.declared.limit_kind.LimitKind.TheVariants.{Alphabet}
use Rattle.schema_read.specs.Types.{types_in}
use Rattle.schema_read.proofs.alphabet.has_alphabet.Given as goal

abbrev pub invariant-loop-k : goal.invariant-loop-k
invariant-loop-k l = (k : ℕ) (m : Limit) → k < l.k → IsLimitOf (types_in l.schema.octets.now) l.fn.limits Alphabet k m → ⊥

use Rattle.std.proofs.Common.{◌≡◌, ◌<◌, ℕ, slice_get, Some}
use Rattle.schema_rules.specs.Values.{integer_value, IsInRange}
use Rattle.schema_types.specs.Tags.{IsPart}
use Rattle.schema_types.specs.declared.name.Name.{Name}
use Rattle.schema_read.specs.Types.{types_in}
use Rattle.schema_read.proofs.constraints.is_listed.Given as goal

abbrev pub invariant-loop-k : goal.invariant-loop-k
invariant-loop-k l =
    (k : ℕ) (n : Name) → k < l.k → IsPart l.fn.names k → slice_get (types_in l.schema.octets.now).names k ≡ Some n → IsInRange n.number n.number (integer_value l.contents) → ⊥

use Rattle.std.proofs.Common.{ℕ, ◌<◌, ◌≤◌}
use Rattle.schema_types.specs.Tags.{IsFieldOf}
use Rattle.schema_types.specs.declared.field.Field.{Field}
use Rattle.schema_read.specs.Tags.{NoneBegins}
use Rattle.schema_read.specs.Types.{types_in}
use Rattle.schema_read.proofs.select.find_field.Given as goal

abbrev pub invariant-loop-k : goal.invariant-loop-k
invariant-loop-k l =
    (k : ℕ) (f : Field) → l.first ≤ k → k < l.k → IsFieldOf (types_in l.schema.octets.now) l.fn.node k f
    → NoneBegins (types_in l.schema.octets.now) f.node l.octets

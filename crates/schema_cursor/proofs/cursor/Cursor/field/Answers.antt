use Rattle.std.proofs.Common.{ℕ, IfSome, IfNone, subst}
use Rattle.schema_read.specs.Types.{types_in}
use Rattle.schema_cursor.specs.Cursor.{IsAt}
use Rattle.schema_cursor.specs.Names.{IsNamedChild, IsField}
use Rattle.schema_cursor.proofs.cursor.Cursor.field.Goals as goal

pub returns-clause-some : goal.returns-clause-some
returns-clause-some c =
    subst (λ s. IfSome c.child_named.result (λ d. IsAt c.args.self d.index d × IsField (types_in c.args.self.schema.now.octets.now) c.args.self.entries.now c.args.self.index s d.index))
    c.as_bytes.ensures.value c.child_named.ensures.some

pub returns-clause-none : goal.returns-clause-none
returns-clause-none c =
    subst (λ s. IfNone c.child_named.result ((k : ℕ) → IsNamedChild (types_in c.args.self.schema.now.octets.now) c.args.self.entries.now c.args.self.index s k → ⊥))
    c.as_bytes.ensures.value c.child_named.ensures.none

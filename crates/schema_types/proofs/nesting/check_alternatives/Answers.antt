use Rattle.std.proofs.Common.{subst, below_more, arith}
use Rattle.schema_types.specs.Table.{table_in}
use Rattle.schema_types.specs.Tags.{IsPart}
use Rattle.schema_types.specs.declared.node.Node.{Node}
use Rattle.schema_types.proofs.TagLemmas.{same_row}
use Rattle.schema_types.proofs.nesting.check_alternatives.Goals as goal

pub loop-k-preserved : goal.loop-k-preserved
loop-k-preserved c = below_more _ _ c.loop-k.invariant c.in_ok-check_alternative.ensures.ok

pub returns-clause-ok : goal.returns-clause-ok
returns-clause-ok c k f nested =
    let e = same_row (table_in c.args.rows.now.octets.now).nodes c.args.index nested.row c.requires.there in
    let part = subst (λ (n : Node). IsPart n.parts k) e nested.field.part in
    c.loop-k.invariant k (omega (arith, part.1)) f nested

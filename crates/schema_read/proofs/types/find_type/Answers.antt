use Rattle.schema_read.specs.Types.{types_in}
use Rattle.schema_read.proofs.ChosenLemmas.{one_row}
use Rattle.schema_read.proofs.types.find_type.Goals as goal

pub returns-in-Some-clause-single : goal.returns-in-Some-clause-single
unfolding types_in
returns-in-Some-clause-single c p other =
    one_row c.args.schema.now.octets.now c.args.schema.now.counts c.args.node.now.parts c.args.identifier.now c.in-Some.chosen p c.args.schema.now.counted (c.requires.ascending c.requires.kind) c.in-Some.ensures.row other

use Rattle.schema_types.proofs.TableLemmas.{chosen_row, chosen_none}
use Rattle.schema_types.proofs.schema.Schema.find_open_type.Goals as goal

pub returns-clause-row : goal.returns-clause-row
returns-clause-row c =
    let s = c.args.self.now in
    chosen_row s.octets.now s.counts c.args.types c.args.identifier.now c.find_open_type.result s.counted c.requires.there c.find_open_type.ensures.found

pub returns-clause-no_row : goal.returns-clause-no_row
returns-clause-no_row c =
    let s = c.args.self.now in
    chosen_none s.octets.now s.counts c.args.types c.args.identifier.now c.find_open_type.result s.counted c.requires.there c.find_open_type.ensures.none

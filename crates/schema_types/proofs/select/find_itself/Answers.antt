use Rattle.schema_types.specs.Sought.{IsMet}
use Rattle.schema_types.proofs.TestLemmas.{refuted}
use Rattle.schema_types.proofs.TagLemmas.{selects_itself, selects_no_other}
use Rattle.schema_types.proofs.select.find_itself.Goals as goal

pub returns-then-is_met-clause-found : goal.returns-then-is_met-clause-found
returns-then-is_met-clause-found c =
    selects_itself c.requires.there (IsMet c.args.sought) c.requires.kind (c.is_met.ensures.0 c.if-is_met.true)

pub returns-else-is_met-clause-none : goal.returns-else-is_met-clause-none
returns-else-is_met-clause-none c =
    selects_no_other c.requires.there (IsMet c.args.sought) c.requires.kind (refuted c.is_met.ensures c.if-is_met.false)

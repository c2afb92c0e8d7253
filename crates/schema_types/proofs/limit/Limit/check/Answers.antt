use Rattle.std.proofs.Common.{ap, sym, ◌∙◌}
use Rattle.schema_types.specs.LimitKind.{limit_kind_at}
use Rattle.schema_types.specs.Limit.{unknown_limit}
use Rattle.schema_types.proofs.limit.Limit.check.Goals as goal

pub returns-in-None-clause-fault : goal.returns-in-None-clause-fault
returns-in-None-clause-fault c =
    rw c.new.ensures (unknown_limit (sym (c.from_number.ensures ∙ ap limit_kind_at c.number_at.ensures) ∙ c.in-None.is))

use Rattle.std.proofs.Common.{below_more, arith}
use Rattle.schema_types.proofs.distinct.check_fields.Goals as goal

pub loop-k-preserved : goal.loop-k-preserved
loop-k-preserved c = below_more _ _ c.loop-k.invariant c.in_ok-check_field.ensures.ok

pub returns-clause-ok : goal.returns-clause-ok
returns-clause-ok c k j f g follow share = c.loop-k.invariant k (omega (arith, follow.later.part.1)) j f g follow share

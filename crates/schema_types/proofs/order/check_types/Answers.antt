use Rattle.std.proofs.Common.{arith}
use Rattle.schema_types.specs.OpenType.{not_before}
use Rattle.schema_types.proofs.TestLemmas.{refuted}
use Rattle.schema_types.proofs.order.check_types.Goals as goal

pub returns-then-not-is_before_next-clause-fault : goal.returns-then-not-is_before_next-clause-fault
returns-then-not-is_before_next-clause-fault c =
    rw (c.new.ensures, c.opens_at.ensures) (not_before c.loop-k.k (omega arith) (omega arith) (refuted c.is_before_next.ensures c.if-not-is_before_next.true))

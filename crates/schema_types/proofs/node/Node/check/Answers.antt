use Rattle.std.proofs.Common.{◌∙◌, sym, ap, not, arith}
use Rattle.schema_types.specs.Node.{unknown_kind, no_class, no_flag, no_inner_flag}
use Rattle.schema_types.proofs.TestLemmas.{nothing}
use Rattle.schema_types.proofs.node.Node.check.Goals as goal

pub returns-then-is_none-clause-fault : goal.returns-then-is_none-clause-fault
returns-then-is_none-clause-fault c =
    rw c.new.ensures (unknown_kind (sym c.from_octet.ensures ∙ nothing (c.is_none.ensures ∙ ap not c.if-is_none.true)))

pub returns-then-octets-at-ne0-clause-fault : goal.returns-then-octets-at-ne0-clause-fault
returns-then-octets-at-ne0-clause-fault c = rw c.new-then-octets-at-ne0.ensures (no_class c.if-octets-at-ne0.true)

pub returns-then-octets-at-gt1-clause-fault : goal.returns-then-octets-at-gt1-clause-fault
returns-then-octets-at-gt1-clause-fault c = rw c.new-then-octets-at-gt1.ensures (no_flag (omega arith))

pub returns-then-octets-at-gt1-2-clause-fault : goal.returns-then-octets-at-gt1-2-clause-fault
returns-then-octets-at-gt1-2-clause-fault c = rw c.new-then-octets-at-gt1-2.ensures (no_inner_flag (omega arith))

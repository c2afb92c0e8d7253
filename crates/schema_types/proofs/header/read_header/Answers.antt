use Rattle.std.proofs.Common.{◌∙◌, ap, arith}
use Rattle.schema_types.specs.Counts.{size_of}
use Rattle.schema_types.specs.Schema.{too_short, other_magic, other_version, other_size}
use Rattle.schema_types.proofs.header.read_header.Goals as goal

pub returns-then-octets-lt32-clause-fault : goal.returns-then-octets-lt32-clause-fault
returns-then-octets-lt32-clause-fault c = rw c.new.ensures (too_short c.if-octets-lt32.true)

pub returns-then-number_at-ne-MAGIC-clause-fault : goal.returns-then-number_at-ne-MAGIC-clause-fault
returns-then-number_at-ne-MAGIC-clause-fault c =
    rw c.new-then-number_at-ne-MAGIC.ensures (other_magic (omega arith) (λ e. c.if-number_at-ne-MAGIC.true (c.number_at.ensures ∙ e)))

pub returns-then-number_at-ne-VERSION-clause-fault : goal.returns-then-number_at-ne-VERSION-clause-fault
returns-then-number_at-ne-VERSION-clause-fault c =
    rw c.new-then-number_at-ne-VERSION.ensures (other_version (omega arith) (λ e. c.if-number_at-ne-VERSION.true (c.number_at-2.ensures ∙ e)))

pub returns-then-size-octets-clause-fault : goal.returns-then-size-octets-clause-fault
returns-then-size-octets-clause-fault c =
    rw c.new-then-size-octets.ensures (other_size (omega arith) (λ e. c.if-size-octets.true (c.size.ensures ∙ ap size_of c.read-counts.ensures ∙ e)))

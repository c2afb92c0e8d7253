use Rattle.der_c_values.specs.WriteCalls.{of_tag}
use Rattle.der_c_values.proofs.write_refusal.refuse_no_value.Goals as goal

pub returns-then-is_tag-clause-writes : goal.returns-then-is_tag-clause-writes
returns-then-is_tag-clause-writes c =
    let is = c.is_tag.ensures.some c.if-is_tag.true in
    of_tag is.0 is.1 (rw c.value_error.ensures at c.refuse_write.ensures.writes)

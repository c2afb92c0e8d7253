use Rattle.std.proofs.Common.{arith, sym, ◌∙◌}
use Rattle.der_c_values.specs.WriteCalls.{no_value, of_value}
use Rattle.der_c_values.proofs.write_bits.der_write_bit_string.Goals as goal

pub returns-clause-writes : goal.returns-clause-writes
returns-clause-writes c = of_value (sym c.are_bits.ensures ∙ c.if-not-are_bits.false) (omega arith) c.write_bits.ensures.writes

pub returns-then-not-are_bits-clause-writes : goal.returns-then-not-are_bits-clause-writes
returns-then-not-are_bits-clause-writes c = no_value (sym c.are_bits.ensures ∙ c.if-not-are_bits.true) c.refuse_no_value.ensures.writes

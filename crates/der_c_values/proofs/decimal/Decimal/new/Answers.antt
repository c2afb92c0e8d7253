use Rattle.std.proofs.Common.{arith}
use Rattle.der_c_values.proofs.DecimalLemmas.{building_continues}
use Rattle.der_c_values.proofs.decimal.Decimal.new.Goals as goal

pub digits-preserved : goal.digits-preserved
digits-preserved c = building_continues c.digit_of.result c.digits.invariant (omega (arith, c.digits-test.true)) c.digit_of.ensures

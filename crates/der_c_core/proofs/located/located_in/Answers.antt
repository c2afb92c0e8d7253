use Rattle.std.proofs.Common.{arith}
use Rattle.der_c_core.proofs.located.located_in.Goals as goal

pub returns : goal.returns
returns c = record { short = λ few. c.located_error.ensures; long = λ many. absurd (omega arith) }

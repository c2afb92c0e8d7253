use Rattle.std.proofs.Common.{refl}
use Rattle.der_c_core.specs.CompareCall.{refused}
use Rattle.der_c_core.proofs.compare.der_compare.Goals as goal

pub returns-in-Err : goal.returns-in-Err
returns-in-Err c = refused c.in-Err.error c.in-Err.ensures.refused c.c_error.ensures refl

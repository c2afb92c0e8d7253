use Rattle.std.proofs.Common.{refl}
use Rattle.der_c_x509.specs.FindCalls.{ReadsKnown}
use Rattle.der_c_x509.proofs.key_purposes.der_extended_key_usage.Goals as goal

pub returns-in-Ok : goal.returns-in-Ok
returns-in-Ok c = ReadsKnown.found c.in-Ok.found c.in-Ok.ensures c.found_list.ensures refl

pub returns-in-Err : goal.returns-in-Err
returns-in-Err c = ReadsKnown.refused c.in-Err.ensures refl

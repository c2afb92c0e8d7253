use Rattle.std.proofs.Common.{refl}
use Rattle.der_c_x509.specs.LenientCalls.{ReadsLenientUsage}
use Rattle.der_c_x509.proofs.lenient.der_key_usage_lenient.Goals as goal

pub returns-in-Ok : goal.returns-in-Ok
returns-in-Ok c = ReadsLenientUsage.found c.in-Ok.found c.in-Ok.ensures c.usage_of.ensures c.flag_of.ensures refl

pub returns-in-Err : goal.returns-in-Err
returns-in-Err c = ReadsLenientUsage.refused c.in-Err.ensures refl refl

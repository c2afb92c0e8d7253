use Rattle.std.proofs.Common.{refl}
use Rattle.der_c_x509.specs.Calls.{ReadsWhole}
use Rattle.der_c_x509.proofs.certificate.der_certificate_read.Goals as goal

pub returns-in-Ok : goal.returns-in-Ok
returns-in-Ok c =
    ReadsWhole.read c.in-Ok.value
    (record { ok = c.in-Ok.ensures.ok; complete = c.in-Ok.ensures.complete; exact = c.in-Ok.ensures.exact })
    c.certificate_of.ensures refl

pub returns-in-Err : goal.returns-in-Err
returns-in-Err c =
    ReadsWhole.refused c.in-Err.error
    (record { ok = c.in-Err.ensures.ok; complete = c.in-Err.ensures.complete; exact = c.in-Err.ensures.exact })
    c.located_in.ensures refl

use Rattle.std.proofs.Common.{Err, ap}
use Rattle.der_c_x509.specs.FindCalls.{FindsType}
use Rattle.der_c_x509.proofs.find.find_known.Goals as goal

pub returns-in-Ok : goal.returns-in-Ok
returns-in-Ok g c = FindsType.in_list (rw c.in-Ok.ensures.ok.0 at c.find_in_list.ensures)

pub returns-in-Err : goal.returns-in-Err
returns-in-Err g c =
    FindsType.no_list c.in-Err.error
    (record { too_long = c.in-Err.ensures.too_long; no_item = c.in-Err.ensures.exact })
    (ap Err c.c_error.ensures)

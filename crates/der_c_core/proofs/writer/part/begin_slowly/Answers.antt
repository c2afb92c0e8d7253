use Rattle.std.proofs.Common.{refl, rules}
use Rattle.der_c_core.specs.Part.{no_header, begun}
use Rattle.der_c_core.proofs.writer.part.begin_slowly.Goals as goal

pub returns-in-Ok : goal.returns-in-Ok
returns-in-Ok c =
    begun c.in-Some.tag c.in-Some.ensures.is (rw c.open_element.ensures.same c.in-Ok.ensures.writes) refl (search rules) (search rules) (search rules)

pub returns-in-Err : goal.returns-in-Err
returns-in-Err c =
    no_header c.in-Some.tag c.in-Err.error c.in-Some.ensures.is c.in-Err.ensures.writes c.c_error.ensures c.in-Err.ensures.keeps_open refl

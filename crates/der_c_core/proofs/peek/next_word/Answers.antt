use Rattle.std.proofs.Common.{refl}
use Rattle.der_c_core.specs.PeekCalls.{next}
use Rattle.der_c_core.proofs.peek.next_word.Goals as goal

pub returns-in-Some : goal.returns-in-Some
returns-in-Some c = next c.in-Some.octet c.in-Some.ensures refl

use Rattle.std.proofs.Common.{refl}
use Rattle.der_c_core.specs.PeekCalls.{next, refused}
use Rattle.der_c_core.proofs.NextTagLemmas.{word_next, word_refused}
use Rattle.der_c_core.proofs.peek.der_peek.Goals as goal

pub returns-in-Ok : goal.returns-in-Ok
returns-in-Ok c = record { peeks = next (word_next c.in-Ok.ensures) refl }

pub returns-in-Err : goal.returns-in-Err
returns-in-Err c = record { peeks = refused c.in-Err.error (word_refused c.in-Err.ensures) c.c_error.ensures refl }

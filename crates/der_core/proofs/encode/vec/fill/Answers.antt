use Rattle.std.proofs.Common.{arith}
use Rattle.der_core.specs.Writer.{fresh_state, appended_state}
use Rattle.der_core.proofs.BeforeLemmas.{fresh_accepted}
use Rattle.der_core.proofs.encode.vec.fill.Goals as goal

pub returns-then-is_certain-clause-exact : goal.returns-then-is_certain-clause-exact
returns-then-is_certain-clause-exact g c =
    (0, appended_state (fresh_state c.args.buf.now 0) (g.T.Encode.encoding c.args.value.now), fresh_accepted _ _ _ _ c.args.buf.now _ (c.requires.certain c.if-is_certain.true) (omega arith) c.requires.countable)

use Rattle.std.proofs.Common.{refl}
use Rattle.der_core.specs.Nested.{forwarded}
use Rattle.der_core.proofs.NestedLemmas.{close_left_over, close_whole}
use Rattle.der_core.proofs.reader.extension.ReaderExt.close_nested.Goals as goal

pub returns-in-Err-clause-exact : goal.returns-in-Err-clause-exact
returns-in-Err-clause-exact g c = forwarded _ c.in-Err.is refl c.leave_nested.ensures

pub returns-then-not-is_zero-clause-exact : goal.returns-then-not-is_zero-clause-exact
returns-then-not-is_zero-clause-exact g c =
    close_left_over (g.Self.Reader.state c.args.self.now) (g.Self.Reader.state c.leave_nested-2.new.self) c.is_zero.result c.remaining_len-left.result c.in-Ok.value _ _ _ _ c.in-Ok.is
    c.leave_nested-2.ensures c.remaining_len-left.ensures c.is_zero.ensures.1 c.if-not-is_zero.true c.position.ensures c.error.ensures.at_position c.error.ensures.failed c.from.ensures refl

pub returns-clause-exact : goal.returns-clause-exact
returns-clause-exact g c =
    let law = g.met.Self.Reader.sound_state c.args.self.now in
    close_whole (g.Self.Reader.state c.args.self.now) (g.Self.Reader.state c.leave_nested-2.new.self) c.is_zero.result c.remaining_len-left.result c.in-Ok.value law.ordered c.in-Ok.is
    c.leave_nested-2.ensures c.remaining_len-left.ensures c.is_zero.ensures.0 c.if-not-is_zero.false refl

use Rattle.std.proofs.Common.{Ok, refl}
use Rattle.der_c_core.specs.WriterCalls.{of_tag}
use Rattle.der_c_core.proofs.writer.calls.der_write_header.Goals as goal

pub returns-then-write_short-clause-writes : goal.returns-then-write_short-clause-writes
returns-then-write_short-clause-writes c =
    let w = c.write_short.ensures.written c.if-write_short.true in
    of_tag w.tag (Ok tt) w.is w.writes refl

pub returns-clause-writes : goal.returns-clause-writes
returns-clause-writes c = rw (c.write_short.ensures.left c.if-write_short.false) at c.header_slowly.ensures.writes

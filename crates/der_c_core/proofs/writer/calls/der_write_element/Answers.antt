use Rattle.std.proofs.Common.{length}
use Rattle.der_c_core.specs.CWriter.{writer_state}
use Rattle.der_c_core.specs.WriterCalls.{of_tag}
use Rattle.der_c_core.proofs.WriterCallLemmas.{element_written}
use Rattle.der_c_core.proofs.writer.calls.der_write_element.Goals as goal

pub returns-then-write_short-clause-writes : goal.returns-then-write_short-clause-writes
returns-then-write_short-clause-writes c =
    let w = c.write_short.ensures.written c.if-write_short.true in
    of_tag w.tag c.write.result w.is w.few
    (element_written w.tag (length c.args.contents.now) c.args.contents.now (writer_state c.args.writer.now) w.writes c.write.ensures.exact) c.code.ensures

pub returns-clause-writes : goal.returns-clause-writes
returns-clause-writes c = rw (c.write_short.ensures.left c.if-write_short.false) at c.element_slowly.ensures.writes

use Rattle.std.proofs.Common.{Err, length, arith}
use Rattle.der_c_core.specs.CWriter.{writer_state}
use Rattle.der_c_core.specs.WriterCalls.{of_tag}
use Rattle.der_c_core.proofs.WriterCallLemmas.{element_written, element_refused}
use Rattle.der_c_core.proofs.writer.calls.element_slowly.Goals as goal

pub returns-in-Ok-clause-writes : goal.returns-in-Ok-clause-writes
returns-in-Ok-clause-writes c =
    of_tag c.in-Some.tag c.write.result c.in-Some.ensures.is (omega arith)
    (element_written c.in-Some.tag (length c.args.contents.now) c.args.contents.now (writer_state c.args.writer.now) c.in-Ok.ensures.writes c.write.ensures.exact)
    c.code.ensures

pub returns-in-Err-clause-writes : goal.returns-in-Err-clause-writes
returns-in-Err-clause-writes c =
    of_tag c.in-Some.tag (Err c.in-Err.error) c.in-Some.ensures.is (omega arith)
    (element_refused c.in-Some.tag (length c.args.contents.now) c.args.contents.now (writer_state c.args.writer.now) c.in-Err.ensures.writes)
    c.c_error.ensures

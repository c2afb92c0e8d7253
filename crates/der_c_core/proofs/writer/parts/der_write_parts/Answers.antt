use Rattle.std.proofs.Common.{Err, Ok, length, arith, subst}
use Rattle.der_core.specs.Writer.{Writes}
use Rattle.der_core.specs.Encode.{header_outcome}
use Rattle.der_c_core.specs.CWriter.{writer_state}
use Rattle.der_c_core.specs.JoinedSpans.{joined_spans}
use Rattle.der_c_core.specs.WriterCalls.{of_tag}
use Rattle.der_c_core.proofs.WriterCallLemmas.{element_written, element_refused}
use Rattle.der_c_core.proofs.writer.parts.der_write_parts.Goals as goal

pub returns-in-Ok-clause-writes : goal.returns-in-Ok-clause-writes
returns-in-Ok-clause-writes c =
    let contents = joined_spans c.args.parts.now in
    let tag = c.in-Some-tag_of_word.tag in
    let s = writer_state c.args.writer.now in
    let header = subst (λ n. Writes (header_outcome tag n s) (Ok tt) (writer_state c.encode_header.new.writer)) c.in-Some.ensures.some c.in-Ok.ensures.writes in
    of_tag tag c.write_joined.result c.in-Some-tag_of_word.ensures.is (omega (arith, c.in-Some.ensures.some))
    (element_written tag (length contents) contents s header c.write_joined.ensures.writes) c.code.ensures

pub returns-in-Err-clause-writes : goal.returns-in-Err-clause-writes
returns-in-Err-clause-writes c =
    let contents = joined_spans c.args.parts.now in
    let tag = c.in-Some-tag_of_word.tag in
    let s = writer_state c.args.writer.now in
    let header = subst (λ n. Writes (header_outcome tag n s) (Err c.in-Err.error) (writer_state c.encode_header.new.writer)) c.in-Some.ensures.some c.in-Err.ensures.writes in
    of_tag tag (Err c.in-Err.error) c.in-Some-tag_of_word.ensures.is (omega (arith, c.in-Some.ensures.some))
    (element_refused tag (length contents) contents s header) c.c_error.ensures

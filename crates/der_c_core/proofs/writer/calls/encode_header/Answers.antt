use Rattle.std.proofs.Common.{refl, ap}
use Rattle.der_base.specs.Length.{number}
use Rattle.der_c_core.specs.CWriter.{writer_state}
use Rattle.der_c_core.proofs.WriterCallLemmas.{same_header_written}
use Rattle.der_c_core.proofs.writer.calls.encode_header.Goals as goal

pub returns-clause-writes : goal.returns-clause-writes
returns-clause-writes c =
    same_header_written (writer_state c.args.writer.now) c.new-header.ensures (ap number c.new.ensures) (c.encode-answer.ensures.exact refl)

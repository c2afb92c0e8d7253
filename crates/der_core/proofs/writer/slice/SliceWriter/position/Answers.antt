use Rattle.std.proofs.Common.{arith, ap, ◌∙◌}
use Rattle.der_base.specs.Length.{definite_length}
use Rattle.der_core.proofs.WriterLemmas.{octets_written_at}
use Rattle.der_core.proofs.writer.slice.SliceWriter.position.Goals as goal

pub returns : goal.returns
returns c = c.new.ensures ∙ ap definite_length (omega (arith, octets_written_at c.args.self.now))

use Rattle.std.proofs.Common.{arith}
use Rattle.ber.proofs.GrammarLemmas.{header_few}
use Rattle.schema_read.proofs.entry.Entry.new.Goals as goal

pub overflow_cast-result : goal.overflow_cast-result
overflow_cast-result c = omega (arith, header_few c.requires.is)

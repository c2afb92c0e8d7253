use Rattle.std.proofs.Common.{arith}
use Rattle.std.proofs.lemmas.Grind.{common_steps}
use Rattle.der_core.proofs.WriterLemmas.{kept_appended}
use Rattle.der_c_core.proofs.writer.DerWriterWriter.write.Goals as goal

pub returns-clause-kept : goal.returns-clause-kept
returns-clause-kept c = kept_appended _ c.args.octets.now _ (grind (arith, common_steps))

use Rattle.std.proofs.Common.{refl, sym, ◌∙◌}
use Rattle.der_core.specs.Decode.{refuses}
use Rattle.der_core.proofs.reader.extension.ReaderExt.decode.Goals as goal

pub returns-in-Err-clause-exact : goal.returns-in-Err-clause-exact
returns-in-Err-clause-exact g c = refuses _ (sym c.is_failed.ensures ∙ c.if-is_failed.false) refl c.in-Err.ensures.exact c.error-in-Err.ensures.failed

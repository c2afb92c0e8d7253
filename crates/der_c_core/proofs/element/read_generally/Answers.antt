use Rattle.std.proofs.Common.{refl}
use Rattle.der_c_core.specs.ElementCalls.{no_header, following}
use Rattle.der_c_core.specs.Failure.{RefusesHeader}
use Rattle.der_c_core.proofs.ReadLemmas.{fails_by}
use Rattle.der_c_core.proofs.element.read_generally.Goals as goal

pub returns-in-Ok-clause-reads : goal.returns-in-Ok-clause-reads
returns-in-Ok-clause-reads c = following c.in-Ok.header _ c.in-Ok.ensures.ok c.read_element_contents.ensures.reads

pub returns-in-Err-clause-reads : goal.returns-in-Err-clause-reads
returns-in-Err-clause-reads c = no_header (fails_by (RefusesHeader _) c.in-Err.error _ (c.in-Err.ensures.refused refl) c.fail.ensures.reported c.fail.ensures.stopped) refl

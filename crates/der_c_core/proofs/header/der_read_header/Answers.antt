use Rattle.std.proofs.Common.{refl}
use Rattle.der_c_core.specs.HeaderCall.{read, refused}
use Rattle.der_c_core.specs.Failure.{RefusesHeader}
use Rattle.der_c_core.proofs.ReadLemmas.{fails_by}
use Rattle.der_c_core.proofs.header.der_read_header.Goals as goal

pub returns-in-Ok-clause-reads : goal.returns-in-Ok-clause-reads
returns-in-Ok-clause-reads c =
    read c.in-Ok.read c.in-Ok.ensures.ok refl c.c_header.ensures

pub returns-in-Err-clause-reads : goal.returns-in-Err-clause-reads
returns-in-Err-clause-reads c = refused (fails_by (RefusesHeader _) c.in-Err.error _ (c.in-Err.ensures.refused refl) c.fail.ensures.reported c.fail.ensures.stopped) refl

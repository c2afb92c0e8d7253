use Rattle.std.proofs.Common.{refl, rules}
use Rattle.der_c_core.specs.EnterCalls.{no_header, other_tag, following}
use Rattle.der_c_core.specs.Failure.{RefusesHeader}
use Rattle.der_c_core.proofs.ReadLemmas.{fails_by}
use Rattle.der_c_core.proofs.enter.enter_generally.Goals as goal

pub returns-then-met-tag-clause-enters : goal.returns-then-met-tag-clause-enters
returns-then-met-tag-clause-enters c =
    other_tag c.in-Ok.header _ c.in-Ok.ensures.ok (search rules) (search rules) refl

pub returns-else-met-tag-clause-enters : goal.returns-else-met-tag-clause-enters
returns-else-met-tag-clause-enters c =
    following c.in-Ok.header _ c.in-Ok.ensures.ok (search rules) c.enter.ensures.enters

pub returns-in-Err-clause-enters : goal.returns-in-Err-clause-enters
returns-in-Err-clause-enters c = no_header (fails_by (RefusesHeader _) c.in-Err.error _ (c.in-Err.ensures.refused refl) c.fail.ensures.reported c.fail.ensures.stopped) refl

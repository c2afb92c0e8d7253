use Rattle.std.proofs.Common.{refl, rules}
use Rattle.der_c_core.specs.ElementCalls.{no_header, other_tag}
use Rattle.der_c_core.specs.Failure.{RefusesHeader}
use Rattle.der_c_core.proofs.ReadLemmas.{fails_by}
use Rattle.der_c_core.proofs.MeetLemmas.{contents_meet, contents_cut}
use Rattle.der_c_core.proofs.element.meet_generally.Goals as goal

pub returns-then-met-tag-clause-meets : goal.returns-then-met-tag-clause-meets
returns-then-met-tag-clause-meets c =
    other_tag c.in-Ok.header _ c.in-Ok.ensures.ok (search rules) (search rules) refl (search rules)

pub returns-then-error-eq0-clause-meets : goal.returns-then-error-eq0-clause-meets
returns-then-error-eq0-clause-meets c =
    contents_meet c.in-Ok.header c.in-Ok.ensures.ok (search rules) c.if-met-tag.false c.read_element_contents-error.ensures.reads c.if-error-eq0.true

pub returns-else-error-eq0-clause-meets : goal.returns-else-error-eq0-clause-meets
returns-else-error-eq0-clause-meets c =
    contents_cut c.in-Ok.header c.in-Ok.ensures.ok (search rules) c.read_element_contents-error.ensures.reads c.if-error-eq0.false

pub returns-in-Err-clause-meets : goal.returns-in-Err-clause-meets
returns-in-Err-clause-meets c = no_header _ refl (fails_by (RefusesHeader _) c.in-Err.error _ (c.in-Err.ensures.refused refl) c.fail.ensures.reported c.fail.ensures.stopped) refl

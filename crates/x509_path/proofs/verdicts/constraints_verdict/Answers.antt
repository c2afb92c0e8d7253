use Rattle.std.proofs.Common.{None, subst}
use Rattle.x509_path.specs.Names.{HasAltNameVerdict, IsSubjectVerdict}
use Rattle.x509_path.proofs.verdicts.constraints_verdict.Goals as goal

pub returns-in-Some : goal.returns-in-Some
returns-in-Some c = rw c.in-Some.is (subst (λ o. HasAltNameVerdict c.args.constraints.now o c.in-Some.extensions.0 c.alternatives_verdict.result) c.octets-subject.ensures.value c.alternatives_verdict.ensures)

pub returns-in-None : goal.returns-in-None
returns-in-None c = rw c.in-None.is (subst (λ o. IsSubjectVerdict c.args.constraints.now o None c.lone_subject_verdict.result) c.octets-subject.ensures.value c.lone_subject_verdict.ensures)

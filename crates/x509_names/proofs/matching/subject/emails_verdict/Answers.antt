use Rattle.std.proofs.Common.{sym, subst}
use Rattle.std.specs.Iterator.{Yields}
use Rattle.der.specs.Prelude.{slice_state}
use Rattle.x509.proofs.FindLemmas.{gives, octets_drained}
use Rattle.x509.specs.CertificateLists.{IsLevel, level_encoding}
use Rattle.x509_names.proofs.JudgedLemmas.{judged_on}
use Rattle.x509_names.specs.Judgements.{AreJudged}
use Rattle.x509_names.specs.Subjects.{HasLevelVerdict}
use Rattle.x509_names.proofs.matching.subject.emails_verdict.Goals as goal

pub levels-preserved : goal.levels-preserved
levels-preserved c =
    subst (AreJudged (HasLevelVerdict c.args.constraints.now) _) (sym c.first_refusal-verdict.ensures) (judged_on (HasLevelVerdict c.args.constraints.now) c.levels.yielded c.in-Some.level c.levels.verdict c.level_verdict.result c.levels.invariant c.level_verdict.ensures)

pub returns : goal.returns
returns c =
    let start = c.into_iter-level-iterator.ensures.into_iter_gives in
    record {
      levels =
          octets_drained (λ i. slice_state i.items.reader) IsLevel level_encoding c.args.subject.now.levels.octets.now c.iter-level-items.result c.levels.yielded c.levels.level-iterator c.next.new.self c.iter-level-items.ensures
          (subst (λ i. Yields (gives (λ i. slice_state i.items.reader) IsLevel level_encoding) i c.levels.yielded c.levels.level-iterator) start c.levels.yielded_by) c.in-None.ensures.steps;
      are = c.levels.invariant;
    }

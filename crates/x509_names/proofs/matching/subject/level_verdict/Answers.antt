use Rattle.std.proofs.Common.{sym, subst}
use Rattle.std.specs.Iterator.{Yields}
use Rattle.der.specs.Prelude.{slice_state}
use Rattle.x509.proofs.FindLemmas.{gives, octets_drained}
use Rattle.x509.specs.CertificateLists.{IsAttribute, attribute_encoding, level_octets}
use Rattle.x509_names.proofs.JudgedLemmas.{judged_on}
use Rattle.x509_names.specs.Judgements.{AreJudged}
use Rattle.x509_names.specs.Subjects.{HasAttributeVerdict}
use Rattle.x509_names.proofs.matching.subject.level_verdict.Goals as goal

pub attributes-preserved : goal.attributes-preserved
attributes-preserved c =
    subst (AreJudged (HasAttributeVerdict c.args.constraints.now) _) (sym c.first_refusal-verdict.ensures) (judged_on (HasAttributeVerdict c.args.constraints.now) c.attributes.yielded c.in-Some.attribute c.attributes.verdict c.attribute_verdict.result c.attributes.invariant c.attribute_verdict.ensures)

pub returns : goal.returns
returns c =
    let start = c.into_iter-attribute-iterator.ensures.into_iter_gives in
    record {
      attributes =
          octets_drained (λ i. slice_state i.items.reader) IsAttribute attribute_encoding (level_octets c.args.level.now) c.iter-attribute-items.result c.attributes.yielded c.attributes.attribute-iterator c.next.new.self c.iter-attribute-items.ensures
          (subst (λ i. Yields (gives (λ i. slice_state i.items.reader) IsAttribute attribute_encoding) i c.attributes.yielded c.attributes.attribute-iterator) start c.attributes.yielded_by) c.in-None.ensures.steps;
      are = c.attributes.invariant;
    }

use Rattle.std.proofs.Common.{sym, subst}
use Rattle.std.specs.Iterator.{Yields}
use Rattle.der.specs.Prelude.{slice_state}
use Rattle.x509.specs.contracts.asn1.general_name.GeneralNameItem.TheImpl.{ghosts}
use Rattle.x509.proofs.FindLemmas.{gives, octets_drained}
use Rattle.x509_names.proofs.JudgedLemmas.{judged_on}
use Rattle.x509_names.specs.Judgements.{AreJudged}
use Rattle.x509_names.specs.Verdicts.{HasVerdict}
use Rattle.x509_names.proofs.matching.names.names_verdict.Goals as goal

pub names-preserved : goal.names-preserved
names-preserved c =
    subst (AreJudged (HasVerdict c.args.constraints.now) _) (sym c.first_refusal-verdict.ensures) (judged_on (HasVerdict c.args.constraints.now) c.names.yielded c.in-Some.name c.names.verdict c.name_verdict.result c.names.invariant c.name_verdict.ensures)

pub returns : goal.returns
returns c =
    let start = c.into_iter-name-iterator.ensures.into_iter_gives in
    record {
      names =
          octets_drained (λ i. slice_state i.items.reader) ghosts.item.valid ghosts.item.octets c.args.names.now.octets.now c.iter-name-items.result c.names.yielded c.names.name-iterator c.next.new.self c.iter-name-items.ensures
          (subst (λ i. Yields (gives (λ i. slice_state i.items.reader) ghosts.item.valid ghosts.item.octets) i c.names.yielded c.names.name-iterator) start c.names.yielded_by) c.in-None.ensures.steps;
      are = c.names.invariant;
    }

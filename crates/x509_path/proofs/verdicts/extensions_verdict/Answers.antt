use Rattle.std.proofs.Common.{sym, subst}
use Rattle.std.specs.Iterator.{Yields}
use Rattle.der.specs.Prelude.{slice_state}
use Rattle.x509.proofs.FindLemmas.{gives, octets_drained}
use Rattle.x509.specs.CertificateLists.{IsExtension, extension_encoding}
use Rattle.x509_names.specs.Judgements.{AreJudged}
use Rattle.x509_path.proofs.VerdictLemmas.{judged_on}
use Rattle.x509_path.specs.Names.{IsExtensionVerdict}
use Rattle.x509_path.proofs.verdicts.extensions_verdict.Goals as goal

pub extensions-preserved : goal.extensions-preserved
extensions-preserved c =
    subst (AreJudged (IsExtensionVerdict c.args.signed.now) _) (sym c.first_refusal-verdict.ensures)
    (judged_on (IsExtensionVerdict c.args.signed.now) c.extensions.yielded c.in-Some.extension c.extensions.verdict c.extension_verdict.result c.extensions.invariant c.extension_verdict.ensures)

pub returns : goal.returns
returns c =
    let start = c.into_iter-extension-iterator.ensures.into_iter_gives in
    record {
      list =
          octets_drained (λ i. slice_state i.items.reader) IsExtension extension_encoding c.args.extensions.now.items.octets.now c.iter-extension-items.result c.extensions.yielded c.extensions.extension-iterator c.next.new.self c.iter-extension-items.ensures
          (subst (λ i. Yields (gives (λ i. slice_state i.items.reader) IsExtension extension_encoding) i c.extensions.yielded c.extensions.extension-iterator) start c.extensions.yielded_by) c.in-None.ensures.steps;
      are = c.extensions.invariant;
    }

use Rattle.std.proofs.Common.{◌≡◌, ◌∙◌, ◌↔◌, Ok, true, false, ap, subst, inl, inr, refl}
use Rattle.der.specs.Prelude.{Sequence}
use Rattle.x509_path.proofs.CertificateLemmas.{contents_short}
use Rattle.x509_path.proofs.PurposeLemmas.{allows_err, allows_none, allows_some, list_made, false_not_true}
use Rattle.x509_path.specs.Purpose.{HasPurpose}
use Rattle.x509_path.proofs.purpose.purpose_allows.Goals as goal

pub returns-in-Ok-None : goal.returns-in-Ok-None
returns-in-Ok-None c =
    allows_none _ c.args.certificate.now c.find_extension.result c.find_extension.ensures.absent c.find_extension.ensures.found c.args.purpose.now.octets.now c.args.any_counts (c.in-Ok-None.is ∙ ap Ok c.in-Ok-None.field-0-is)

pub returns-in-Err : goal.returns-in-Err
returns-in-Err c =
    allows_err _ c.args.certificate.now c.find_extension.result c.find_extension.ensures.absent c.find_extension.ensures.found c.args.purpose.now.octets.now c.args.any_counts _ c.in-Err.is
    (λ v inner small r octets e l. (
    let short = contents_short Sequence v octets small e in
    let list = list_made _ _ (λ p h. record { octets = record { ref_ptr = (0, 0); now = p }; grammar = record {}; checked = h }) (λ p h. h) (λ p h. refl) octets l in
    elim (r.complete (record { octets = record { ref_ptr = (0, 0); now = octets }; of = record {}; short = short; checked = ∣ list ∣₁ }) small (∣ list ∣₁, short) e) [ inl never ↦ false_not_true never | inr lacks ↦ false_not_true lacks.0 ]))

pub returns-in-Ok-Some : goal.returns-in-Ok-Some
returns-in-Ok-Some c =
    allows_some _ c.args.certificate.now c.find_extension.result c.find_extension.ensures.absent c.find_extension.ensures.found c.args.purpose.now.octets.now c.args.any_counts c.in-Ok-Some.known c.in-Ok-Some.known.value.octets.now c.has_purpose.result (c.in-Ok-Some.is ∙ ap Ok c.in-Ok-Some.field-0-is) (λ v r. r.ok.1)
    (subst (λ o. HasPurpose o c.args.any_counts c.in-Ok-Some.known.value.octets.now c.has_purpose.result) c.octets.ensures.value c.has_purpose.ensures)

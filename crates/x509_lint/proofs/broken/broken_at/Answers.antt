use Rattle.std.proofs.Common.{refl, sym, subst}
use Rattle.x509_lint.proofs.LintLemmas.{whole_finds}
use Rattle.x509_lint.specs.Lint.{FindsPlace}
use Rattle.x509_lint.specs.declared.rule.Rule.TheVariants as of
use Rattle.x509_lint.proofs.broken.broken_at.Goals as goal

pub returns-in-IssuerPresent : goal.returns-in-IssuerPresent
returns-in-IssuerPresent c =
    subst (λ r. FindsPlace r c.args.certificate.now c.whole-in-IssuerPresent.result) (sym c.in-IssuerPresent.is)
    (whole_finds of.IssuerPresent c.args.certificate.now c.has_issuer.result c.whole-in-IssuerPresent.result c.whole-in-IssuerPresent.ensures c.has_issuer.ensures refl)

pub returns-in-TimeOrder : goal.returns-in-TimeOrder
returns-in-TimeOrder c =
    subst (λ r. FindsPlace r c.args.certificate.now c.whole-in-TimeOrder.result) (sym c.in-TimeOrder.is)
    (whole_finds of.TimeOrder c.args.certificate.now c.is_ordered.result c.whole-in-TimeOrder.result c.whole-in-TimeOrder.ensures c.is_ordered.ensures refl)

pub returns-in-ExtensionPresent : goal.returns-in-ExtensionPresent
returns-in-ExtensionPresent c =
    subst (λ r. FindsPlace r c.args.certificate.now c.whole-in-ExtensionPresent.result) (sym c.in-ExtensionPresent.is)
    (whole_finds of.ExtensionPresent c.args.certificate.now c.has_extension_if_present.result c.whole-in-ExtensionPresent.result c.whole-in-ExtensionPresent.ensures c.has_extension_if_present.ensures refl)

pub returns-in-SubjectPresent : goal.returns-in-SubjectPresent
returns-in-SubjectPresent c =
    subst (λ r. FindsPlace r c.args.certificate.now c.whole-in-SubjectPresent.result) (sym c.in-SubjectPresent.is)
    (whole_finds of.SubjectPresent c.args.certificate.now c.has_subject.result c.whole-in-SubjectPresent.result c.whole-in-SubjectPresent.ensures c.has_subject.ensures refl)

pub returns-in-UniqueIdentifiers : goal.returns-in-UniqueIdentifiers
returns-in-UniqueIdentifiers c =
    subst (λ r. FindsPlace r c.args.certificate.now c.whole-in-UniqueIdentifiers.result) (sym c.in-UniqueIdentifiers.is)
    (whole_finds of.UniqueIdentifiers c.args.certificate.now c.has_no_unique_identifier.result c.whole-in-UniqueIdentifiers.result c.whole-in-UniqueIdentifiers.ensures c.has_no_unique_identifier.ensures refl)

pub returns-in-AuthoritySubject : goal.returns-in-AuthoritySubject
returns-in-AuthoritySubject c =
    subst (λ r. FindsPlace r c.args.certificate.now c.whole-in-AuthoritySubject.result) (sym c.in-AuthoritySubject.is)
    (whole_finds of.AuthoritySubject c.args.certificate.now c.has_authority_subject.result c.whole-in-AuthoritySubject.result c.whole-in-AuthoritySubject.ensures c.has_authority_subject.ensures refl)

pub returns-in-KeyIdentifier : goal.returns-in-KeyIdentifier
returns-in-KeyIdentifier c =
    subst (λ r. FindsPlace r c.args.certificate.now c.whole-in-KeyIdentifier.result) (sym c.in-KeyIdentifier.is)
    (whole_finds of.KeyIdentifier c.args.certificate.now c.has_key_identifier.result c.whole-in-KeyIdentifier.result c.whole-in-KeyIdentifier.ensures c.has_key_identifier.ensures refl)

pub returns-in-Pair : goal.returns-in-Pair
returns-in-Pair c =
    subst (λ r. FindsPlace r c.args.certificate.now c.whole-in-Pair.result) (sym c.in-Pair.is)
    (whole_finds (of.Pair c.in-Pair.rule) c.args.certificate.now c.has_pair.result c.whole-in-Pair.result c.whole-in-Pair.ensures c.has_pair.ensures refl)

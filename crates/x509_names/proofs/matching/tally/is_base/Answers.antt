use Rattle.std.proofs.Common.{◌≡◌, ◌↔◌, Bool, true, sym, subst}
use Rattle.x509_names.specs.Comparable.{IsHostConstraint, IsMailConstraint, IsUriConstraint}
use Rattle.x509.specs.declared.asn1.general_name.GeneralName.{GeneralName}
use Rattle.x509.specs.declared.asn1.general_name.GeneralName.TheVariants as general
use Rattle.x509_names.specs.Constraints.{IsBase}
use Rattle.x509_names.proofs.matching.tally.is_base.Goals as goal

abbrev Answers : Bool → GeneralName → Type 0
Answers answer base = (answer ≡ true) ↔ IsBase base

pub returns-in-Rfc822Name : goal.returns-in-Rfc822Name
returns-in-Rfc822Name c =
    let answer = c.is_mail_constraint.result in
    let told : Answers answer (general.Rfc822Name c.in-Rfc822Name.base) = subst (λ x. (answer ≡ true) ↔ IsMailConstraint x) c.octets.ensures.value c.is_mail_constraint.ensures in
    subst (Answers answer) (sym c.in-Rfc822Name.is) told

pub returns-in-DnsName : goal.returns-in-DnsName
returns-in-DnsName c =
    let answer = c.is_host_constraint.result in
    let told : Answers answer (general.DnsName c.in-DnsName.base) = subst (λ x. (answer ≡ true) ↔ IsHostConstraint x) c.octets-in-DnsName.ensures.value c.is_host_constraint.ensures in
    subst (Answers answer) (sym c.in-DnsName.is) told

pub returns-in-UniformResourceIdentifier : goal.returns-in-UniformResourceIdentifier
returns-in-UniformResourceIdentifier c =
    let answer = c.is_uri_constraint.result in
    let told : Answers answer (general.UniformResourceIdentifier c.in-UniformResourceIdentifier.base) = subst (λ x. (answer ≡ true) ↔ IsUriConstraint x) c.octets-in-UniformResourceIdentifier.ensures.value c.is_uri_constraint.ensures in
    subst (Answers answer) (sym c.in-UniformResourceIdentifier.is) told

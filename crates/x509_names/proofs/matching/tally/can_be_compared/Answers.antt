use Rattle.std.proofs.Common.{◌≡◌, ◌↔◌, Bool, true, sym, subst}
use Rattle.x509_names.specs.Comparable.{IsHostMailbox, IsHostUri}
use Rattle.x509_names.specs.UriSyntax.{IsHost}
use Rattle.x509.specs.declared.asn1.general_name.GeneralName.{GeneralName}
use Rattle.x509.specs.declared.asn1.general_name.GeneralName.TheVariants as general
use Rattle.x509_names.specs.Constraints.{CanBeCompared}
use Rattle.x509_names.proofs.matching.tally.can_be_compared.Goals as goal

abbrev Answers : Bool → GeneralName → Type 0
Answers answer name = (answer ≡ true) ↔ CanBeCompared name

pub returns-in-Rfc822Name : goal.returns-in-Rfc822Name
returns-in-Rfc822Name c =
    let answer = c.is_host_mailbox.result in
    let told : Answers answer (general.Rfc822Name c.in-Rfc822Name.name) = subst (λ x. (answer ≡ true) ↔ IsHostMailbox x) c.octets.ensures.value c.is_host_mailbox.ensures in
    subst (Answers answer) (sym c.in-Rfc822Name.is) told

pub returns-in-DnsName : goal.returns-in-DnsName
returns-in-DnsName c =
    let answer = c.is_host.result in
    let told : Answers answer (general.DnsName c.in-DnsName.name) = subst (λ x. (answer ≡ true) ↔ IsHost x) c.octets-in-DnsName.ensures.value c.is_host.ensures in
    subst (Answers answer) (sym c.in-DnsName.is) told

pub returns-in-UniformResourceIdentifier : goal.returns-in-UniformResourceIdentifier
returns-in-UniformResourceIdentifier c =
    let answer = c.is_host_uri.result in
    let told : Answers answer (general.UniformResourceIdentifier c.in-UniformResourceIdentifier.name) = subst (λ x. (answer ≡ true) ↔ IsHostUri x) c.octets-in-UniformResourceIdentifier.ensures.value c.is_host_uri.ensures in
    subst (Answers answer) (sym c.in-UniformResourceIdentifier.is) told

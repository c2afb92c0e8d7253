use Rattle.std.proofs.Common.{◌≡◌, ◌↔◌, Bool, true, sym, subst}
use Rattle.x509_names.specs.Wildcards.{IsSomeBelow}
use Rattle.x509.specs.declared.asn1.general_name.GeneralName.{GeneralName}
use Rattle.x509.specs.declared.asn1.general_name.GeneralName.TheVariants as general
use Rattle.x509_names.specs.GeneralNames.{IsPartlyWithinBase}
use Rattle.x509_names.proofs.matching.general_name.is_partly_within_base.Goals as goal

abbrev Answers : Bool → GeneralName → GeneralName → Type 0
Answers answer base name = (answer ≡ true) ↔ IsPartlyWithinBase base name

pub returns-in-DnsName-DnsName : goal.returns-in-DnsName-DnsName
returns-in-DnsName-DnsName c =
    let answer = c.is_some_below_host.result in
    let base = c.in-DnsName-DnsName.base in
    let name = c.in-DnsName-DnsName.name in
    let both : Answers answer (general.DnsName base) (general.DnsName name) = subst (λ x. (answer ≡ true) ↔ IsSomeBelow base.0.octets.now x) c.octets-in-DnsName-DnsName.ensures.value (subst (λ x. (answer ≡ true) ↔ IsSomeBelow x c.octets-in-DnsName-DnsName.result.now) c.octets.ensures.value c.is_some_below_host.ensures) in
    subst (λ v. Answers answer v c.args.name.now) (sym c.in-DnsName-DnsName.is-0) (subst (Answers answer (general.DnsName base)) (sym c.in-DnsName-DnsName.is-1) both)

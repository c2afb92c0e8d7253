use Rattle.std.proofs.Common.{◌≡◌, ◌↔◌, Bool, true, sym, subst}
use Rattle.x509_names.specs.Comparable.{IsHostOrDomain}
use Rattle.x509.specs.declared.asn1.general_name.GeneralName.{GeneralName}
use Rattle.x509.specs.declared.asn1.general_name.GeneralName.TheVariants as general
use Rattle.x509_names.specs.Constraints.{AreComparable}
use Rattle.x509_names.proofs.matching.tally.are_comparable.Goals as goal

abbrev Answers : Bool → GeneralName → GeneralName → Type 0
Answers answer base name = (answer ≡ true) ↔ AreComparable base name

pub returns-in-Rfc822Name-OtherName : goal.returns-in-Rfc822Name-OtherName
returns-in-Rfc822Name-OtherName c =
    let answer = c.is_host_or_domain.result in
    let base = c.in-Rfc822Name-OtherName.base in
    let name = c.in-Rfc822Name-OtherName._name in
    let both : Answers answer (general.Rfc822Name base) (general.OtherName name) = subst (λ x. (answer ≡ true) ↔ IsHostOrDomain x) c.octets.ensures.value c.is_host_or_domain.ensures in
    subst (λ v. Answers answer v c.args.name.now) (sym c.in-Rfc822Name-OtherName.is-0) (subst (Answers answer (general.Rfc822Name base)) (sym c.in-Rfc822Name-OtherName.is-1) both)

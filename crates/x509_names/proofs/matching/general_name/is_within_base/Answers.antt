use Rattle.std.proofs.Common.{◌≡◌, ◌↔◌, Bool, true, sym, subst}
use Rattle.x509_names.specs.Mailboxes.{IsMailWithin}
use Rattle.x509_names.specs.Wildcards.{AreAllBelow}
use Rattle.x509.specs.declared.asn1.general_name.GeneralName.{GeneralName}
use Rattle.x509.specs.declared.asn1.general_name.GeneralName.TheVariants as general
use Rattle.x509_names.specs.GeneralNames.{IsUtf8MailWithin, IsWithinBase}
use Rattle.x509_names.proofs.matching.general_name.is_within_base.Goals as goal

abbrev Answers : Bool → GeneralName → GeneralName → Type 0
Answers answer base name = (answer ≡ true) ↔ IsWithinBase base name

pub returns-in-Rfc822Name-Rfc822Name : goal.returns-in-Rfc822Name-Rfc822Name
returns-in-Rfc822Name-Rfc822Name c =
    let answer = c.is_mail_within.result in
    let base = c.in-Rfc822Name-Rfc822Name.base in
    let name = c.in-Rfc822Name-Rfc822Name.name in
    let both : Answers answer (general.Rfc822Name base) (general.Rfc822Name name) = subst (λ x. (answer ≡ true) ↔ IsMailWithin base.0.octets.now x) c.octets-in-Rfc822Name-Rfc822Name.ensures.value (subst (λ x. (answer ≡ true) ↔ IsMailWithin x c.octets-in-Rfc822Name-Rfc822Name.result.now) c.octets.ensures.value c.is_mail_within.ensures) in
    subst (λ v. Answers answer v c.args.name.now) (sym c.in-Rfc822Name-Rfc822Name.is-0) (subst (Answers answer (general.Rfc822Name base)) (sym c.in-Rfc822Name-Rfc822Name.is-1) both)

pub returns-in-Rfc822Name-OtherName : goal.returns-in-Rfc822Name-OtherName
returns-in-Rfc822Name-OtherName c =
    let answer = c.is_utf8_mail_within.result in
    let base = c.in-Rfc822Name-OtherName.base in
    let name = c.in-Rfc822Name-OtherName.name in
    let both : Answers answer (general.Rfc822Name base) (general.OtherName name) = subst (λ x. (answer ≡ true) ↔ IsUtf8MailWithin x name.0) c.octets-in-Rfc822Name-OtherName.ensures.value c.is_utf8_mail_within.ensures in
    subst (λ v. Answers answer v c.args.name.now) (sym c.in-Rfc822Name-OtherName.is-0) (subst (Answers answer (general.Rfc822Name base)) (sym c.in-Rfc822Name-OtherName.is-1) both)

pub returns-in-DnsName-DnsName : goal.returns-in-DnsName-DnsName
returns-in-DnsName-DnsName c =
    let answer = c.are_all_below_host.result in
    let base = c.in-DnsName-DnsName.base in
    let name = c.in-DnsName-DnsName.name in
    let both : Answers answer (general.DnsName base) (general.DnsName name) = subst (λ x. (answer ≡ true) ↔ AreAllBelow base.0.octets.now x) c.octets-in-DnsName-DnsName-2.ensures.value (subst (λ x. (answer ≡ true) ↔ AreAllBelow x c.octets-in-DnsName-DnsName-2.result.now) c.octets-in-DnsName-DnsName.ensures.value c.are_all_below_host.ensures) in
    subst (λ v. Answers answer v c.args.name.now) (sym c.in-DnsName-DnsName.is-0) (subst (Answers answer (general.DnsName base)) (sym c.in-DnsName-DnsName.is-1) both)

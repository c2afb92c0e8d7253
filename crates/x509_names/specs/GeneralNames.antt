-- General names compared (RFC 5280, 7.2 to 7.5): `GeneralNamesMatch`; and with the base of a subtree
-- of a nameConstraints (4.2.1.10): `IsWithinBase`, `IsPartlyWithinBase`.
use Rattle.std.specs.Prelude.{◌≡◌, ℕ, Bool, false, true, List, [], ◌∷◌}
use Rattle.der.specs.Prelude.{Tag, Utf8String}
use Rattle.der_asn1.specs.AnyRef.{any_contents}
use Rattle.x509_names.specs.Addresses.{IsAddressWithin}
use Rattle.x509_names.specs.Hosts.{IsSameHost}
use Rattle.x509_names.specs.Mailboxes.{IsMailWithin, MailboxesMatch}
use Rattle.x509_names.specs.Uris.{IsUriWithin}
use Rattle.x509_names.specs.Wildcards.{AreAllBelow, IsSomeBelow}
use Rattle.x509.specs.declared.asn1.general_name.GeneralName.{GeneralName}
use Rattle.x509.specs.declared.asn1.general_name.GeneralName.TheVariants as name
use Rattle.x509.specs.declared.asn1.other_name.OtherName.{OtherName}
use Rattle.x509_names.specs.NameMatching.{IsNameWithin, IsSameElement, NamesMatch}

-- the same type, and the same element
abbrev pub OtherNamesMatch : OtherName → OtherName → Type 0
OtherNamesMatch v w =
    (v.type_id.octets.now ≡ w.type_id.octets.now) × IsSameElement v.value.0 w.value.0

-- two names of one form match. URIs are the same octet by octet; two ediPartyNames are not compared
abbrev pub GeneralNamesMatch : GeneralName → GeneralName → Type 0
GeneralNamesMatch (name.OtherName v) (name.OtherName w) = OtherNamesMatch v.0 w.0
GeneralNamesMatch (name.Rfc822Name v) (name.Rfc822Name w) =
    MailboxesMatch v.0.octets.now w.0.octets.now
GeneralNamesMatch (name.DnsName v) (name.DnsName w) = IsSameHost v.0.octets.now w.0.octets.now
GeneralNamesMatch (name.X400Address v) (name.X400Address w) = v.0.octets.now ≡ w.0.octets.now
GeneralNamesMatch (name.DirectoryName v) (name.DirectoryName w) = NamesMatch v.0 w.0
GeneralNamesMatch (name.UniformResourceIdentifier v) (name.UniformResourceIdentifier w) =
    v.0.octets.now ≡ w.0.octets.now
GeneralNamesMatch (name.IpAddress v) (name.IpAddress w) = v.0.octets.now ≡ w.0.octets.now
GeneralNamesMatch (name.RegisteredId v) (name.RegisteredId w) = v.0.octets.now ≡ w.0.octets.now
GeneralNamesMatch _ _ = ⊥

-- the type of a SmtpUTF8Mailbox, 1.3.6.1.5.5.7.8.9 (RFC 9598, 3)
abbrev pub smtp_utf8_mailbox : List ℕ
smtp_utf8_mailbox = 43 ∷ 6 ∷ 1 ∷ 5 ∷ 5 ∷ 7 ∷ 8 ∷ 9 ∷ []

abbrev pub is_utf8_tag : Tag → Bool
is_utf8_tag Utf8String = true
is_utf8_tag _ = false

-- a SmtpUTF8Mailbox is an otherName with this type, whose value is a UTF8String
abbrev pub IsUtf8Mailbox : OtherName → Type 0
IsUtf8Mailbox v =
    (v.type_id.octets.now ≡ smtp_utf8_mailbox) × (is_utf8_tag v.value.0.tag ≡ true)

-- the constraint of an rfc822Name is for a SmtpUTF8Mailbox too (RFC 9598, 6)
abbrev pub IsUtf8MailWithin : List ℕ → OtherName → Type 0
IsUtf8MailWithin base v = IsUtf8Mailbox v × IsMailWithin base (any_contents v.value.0)

-- a name is within the base of a subtree, which has its form. A dNSName with an asterisk is if all
-- names for which it stands are
abbrev pub IsWithinBase : GeneralName → GeneralName → Type 0
IsWithinBase (name.Rfc822Name b) (name.Rfc822Name n) = IsMailWithin b.0.octets.now n.0.octets.now
IsWithinBase (name.Rfc822Name b) (name.OtherName n) = IsUtf8MailWithin b.0.octets.now n.0
IsWithinBase (name.DnsName b) (name.DnsName n) = AreAllBelow b.0.octets.now n.0.octets.now
IsWithinBase (name.DirectoryName b) (name.DirectoryName n) = IsNameWithin b.0 n.0
IsWithinBase (name.UniformResourceIdentifier b) (name.UniformResourceIdentifier n) =
    IsUriWithin b.0.octets.now n.0.octets.now
IsWithinBase (name.IpAddress b) (name.IpAddress n) = IsAddressWithin b.0.octets.now n.0.octets.now
IsWithinBase _ _ = ⊥

-- a name is within the base, at least for one of the names for which it stands
abbrev pub IsPartlyWithinBase : GeneralName → GeneralName → Type 0
IsPartlyWithinBase (name.DnsName b) (name.DnsName n) = IsSomeBelow b.0.octets.now n.0.octets.now
IsPartlyWithinBase base name = IsWithinBase base name

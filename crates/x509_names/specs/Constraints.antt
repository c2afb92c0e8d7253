-- Names and the lists of subtrees of a nameConstraints (RFC 5280, 4.2.1.10): `IsTally` is what one
-- list says of a name, and `HasVerdict` what both lists say.
use Rattle.std.specs.Prelude.{◌≡◌, ◌⊎◌, ◌↔◌, ℕ, true, List, IsNone}
use Rattle.der_asn1.specs.AnyRef.{any_contents}
use Rattle.der_asn1.specs.SequenceOf.{IsListOf}
use Rattle.x509_names.specs.Addresses.{IsAddress, IsCidrRange}
use Rattle.x509_names.specs.Comparable.{IsHostConstraint, IsHostMailbox, IsHostOrDomain, IsHostUri}
use Rattle.x509_names.specs.Comparable.{IsMailConstraint, IsUriConstraint, IsUtf8HostMailbox}
use Rattle.x509_names.specs.UriSyntax.{IsHost}
use Rattle.x509.specs.contracts.asn1.general_subtree.GeneralSubtreeItem.TheImpl as subtree
use Rattle.x509.specs.declared.asn1.general_name.GeneralName.{GeneralName}
use Rattle.x509.specs.declared.asn1.general_name.GeneralName.TheVariants as name
use Rattle.x509.specs.declared.asn1.general_subtree.GeneralSubtree.{GeneralSubtree}
use Rattle.x509.specs.declared.asn1.other_name.OtherName.{OtherName}
use Rattle.x509_names.specs.GeneralNames.{IsPartlyWithinBase, IsUtf8Mailbox, IsWithinBase}
use Rattle.x509_names.specs.GeneralNames.{smtp_utf8_mailbox}
use Rattle.x509_names.specs.Lists.{SomeItem}
use Rattle.x509_names.specs.NameMatching.{IsDecided}
use Rattle.x509_names.specs.declared.matching.tally.Tally.{Tally}

-- the number of the form: that of its tag
abbrev pub form_of : GeneralName → ℕ
form_of (name.OtherName _) = 0
form_of (name.Rfc822Name _) = 1
form_of (name.DnsName _) = 2
form_of (name.X400Address _) = 3
form_of (name.DirectoryName _) = 4
form_of (name.EdiPartyName _) = 5
form_of (name.UniformResourceIdentifier _) = 6
form_of (name.IpAddress _) = 7
form_of (name.RegisteredId _) = 8

-- a mailbox is an rfc822Name, or a SmtpUTF8Mailbox, an otherName with this type
abbrev pub IsMailName : GeneralName → Type 0
IsMailName (name.Rfc822Name n) = Unit {0}
IsMailName (name.OtherName n) = n.0.type_id.octets.now ≡ smtp_utf8_mailbox
IsMailName _ = ⊥

-- a SmtpUTF8Mailbox can be compared if it is at a host
abbrev pub IsComparableMailbox : OtherName → Type 0
IsComparableMailbox v = IsUtf8Mailbox v × IsUtf8HostMailbox (any_contents v.value.0)

-- a name can be compared with constraints of its form: a mailbox at a host, a host name (whose first
-- label may be an asterisk), a URI with a host name, and an address of 4 or 16 octets. The RFC has
-- no constraints for the other forms
abbrev pub CanBeCompared : GeneralName → Type 0
CanBeCompared (name.OtherName n) = IsComparableMailbox n.0
CanBeCompared (name.Rfc822Name n) = IsHostMailbox n.0.octets.now
CanBeCompared (name.DnsName n) = IsHost n.0.octets.now
CanBeCompared (name.DirectoryName n) = Unit {0}
CanBeCompared (name.UniformResourceIdentifier n) = IsHostUri n.0.octets.now
CanBeCompared (name.IpAddress n) = IsAddress n.0.octets.now
CanBeCompared _ = ⊥

-- a base can be compared with names: it has the syntax that the RFC gives constraints of its form
abbrev pub IsBase : GeneralName → Type 0
IsBase (name.Rfc822Name b) = IsMailConstraint b.0.octets.now
IsBase (name.DnsName b) = IsHostConstraint b.0.octets.now
IsBase (name.DirectoryName b) = Unit {0}
IsBase (name.UniformResourceIdentifier b) = IsUriConstraint b.0.octets.now
IsBase (name.IpAddress b) = IsCidrRange b.0.octets.now
IsBase _ = ⊥

-- a base and a name can be compared with each other. RFC 9598 strips the local part of the base (6)
-- before it is compared with a SmtpUTF8Mailbox: so a base that is one mailbox would have all mailboxes
-- of its host, and says nothing here. The comparison of the levels of two names is decided
abbrev pub AreComparable : GeneralName → GeneralName → Type 0
AreComparable (name.Rfc822Name b) (name.OtherName n) = IsHostOrDomain b.0.octets.now
AreComparable (name.DirectoryName b) (name.DirectoryName n) = IsDecided b.0 n.0
AreComparable _ _ = Unit {0}

-- the subtrees of a list with these octets
abbrev pub AreSubtrees : List ℕ → Type 0
AreSubtrees octets = IsListOf subtree.ghosts.item.valid subtree.ghosts.item.octets octets

-- a subtree has the form of a name. Those of rfc822Names concern a SmtpUTF8Mailbox too (RFC 9598, 6)
abbrev pub Concerns : GeneralName → GeneralSubtree → Type 0
Concerns n s = (form_of s.base ≡ form_of n) ⊎ (IsMailName s.base × IsMailName n)

-- the name is within the subtree: all names for which it stands, or at least one of them
abbrev pub Contains : GeneralName → GeneralSubtree → Type 0
Contains n s = IsWithinBase s.base n

abbrev pub ContainsPart : GeneralName → GeneralSubtree → Type 0
ContainsPart n s = IsPartlyWithinBase s.base n

-- minimum is 0, and maximum is absent
abbrev pub HasBaseAlone : GeneralSubtree → Type 0
HasBaseAlone s = (s.minimum.0.0.value.number ≡ 0) × IsNone s.maximum.0

-- the subtree can be compared with the name
abbrev pub IsUsable : GeneralName → GeneralSubtree → Type 0
IsUsable n s =
    HasBaseAlone s × ((IsBase s.base × CanBeCompared n) × AreComparable s.base n)

-- the subtree has the form of the name, and cannot be compared with it
abbrev pub IsUnclear : GeneralName → GeneralSubtree → Type 0
IsUnclear n s = Concerns n s × (IsUsable n s → ⊥)

-- these answers are those for these subtrees
pub record Answers (n : GeneralName) (items : List GeneralSubtree) (t : Tally) : Type 0 where
  pub concerned : (t.concerned ≡ true) ↔ SomeItem (Concerns n) items
  pub within : (t.within ≡ true) ↔ SomeItem (Contains n) items
  pub partly : (t.partly ≡ true) ↔ SomeItem (ContainsPart n) items
  pub unclear : (t.unclear ≡ true) ↔ SomeItem (IsUnclear n) items

-- what a list of subtrees says of a name
pub record IsTally (octets : List ℕ) (n : GeneralName) (t : Tally) : Type 0 where
  pub list : AreSubtrees octets
  pub answers : Answers n list.items t

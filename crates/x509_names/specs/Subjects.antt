-- What a nameConstraints says of the subject of a certificate (RFC 5280, 4.2.1.10; 6.1.3 (b), (c)):
-- `HasSubjectVerdict`.
use Rattle.std.specs.Prelude.{◌≡◌, ◌≢◌, ◌⊎◌, ◌↔◌, ◌&&◌, ℕ, Bool, false, true, List, [], ◌∷◌, Option, Some}
use Rattle.std.specs.Prelude.{None, if◌then◌else◌}
use Rattle.der.specs.Prelude.{Ia5String, Tag}
use Rattle.der_asn1.specs.AnyRef.{any_contents}
use Rattle.der_asn1.specs.Forms.{ia5_form}
use Rattle.der_asn1.specs.declared.elements.any.AnyRef.{AnyRef}
use Rattle.x509.specs.CertificateLists.{AreAttributes, AreLevels, level_octets}
use Rattle.x509.specs.declared.asn1.attribute_type_and_value.AttributeTypeAndValue.{AttributeTypeAndValue}
use Rattle.x509.specs.declared.asn1.general_name.GeneralName.{GeneralName}
use Rattle.x509.specs.declared.asn1.general_name.GeneralName.TheVariants as name
use Rattle.x509.specs.declared.asn1.name.Name.{Name}
use Rattle.x509.specs.declared.asn1.name_constraints.NameConstraints.{NameConstraints}
use Rattle.x509.specs.declared.asn1.relative_distinguished_name.RelativeDistinguishedName.{RelativeDistinguishedName}
use Rattle.x509_names.specs.Judgements.{AreJudged, first_refusal}
use Rattle.x509_names.specs.Lists.{SomeItem}
use Rattle.x509_names.specs.Verdicts.{AreNames, HasVerdict}
use Rattle.x509_names.specs.declared.matching.verdict.Verdict.{Verdict}
use Rattle.x509_names.specs.declared.matching.verdict.Verdict.TheVariants.{Permitted}

-- a general name is a subject, as a directoryName
abbrev pub IsDirectoryNameOf : Name → GeneralName → Type 0
IsDirectoryNameOf subject (name.DirectoryName n) = n.0 ≡ subject
IsDirectoryNameOf _ _ = ⊥

abbrev pub IsDirectoryVerdict : NameConstraints → Name → Verdict → Type 0
IsDirectoryVerdict c subject v = (n : GeneralName) × IsDirectoryNameOf subject n × HasVerdict c n v

-- "Restrictions of the form directoryName MUST be applied to the subject field in the certificate
-- (when the certificate includes a non-empty subject field)" (4.2.1.10)
abbrev pub HasDirectoryVerdict : NameConstraints → Name → Verdict → Type 0
HasDirectoryVerdict c subject v =
    ((subject.levels.octets.now ≡ []) × (v ≡ Permitted))
    ⊎ ((subject.levels.octets.now ≢ []) × IsDirectoryVerdict c subject v)

-- the type emailAddress, 1.2.840.113549.1.9.1 (4.1.2.6)
abbrev pub email_address : List ℕ
email_address = 42 ∷ 134 ∷ 72 ∷ 134 ∷ 247 ∷ 13 ∷ 1 ∷ 9 ∷ 1 ∷ []

abbrev pub IsEmailAddress : AttributeTypeAndValue → Type 0
IsEmailAddress a = a.oid.octets.now ≡ email_address

abbrev pub is_ia5_tag : Tag → Bool
is_ia5_tag Ia5String = true
is_ia5_tag _ = false

-- the octets of a mailbox, which is an IA5String (appendix A). Any other value counts as a mailbox
-- without octets, which cannot be compared
abbrev pub mailbox_of : AnyRef → List ℕ
mailbox_of v = if is_ia5_tag v.tag && ia5_form (any_contents v) then any_contents v else []

-- a general name has these octets, as an rfc822Name
abbrev pub IsMailNameOf : List ℕ → GeneralName → Type 0
IsMailNameOf octets (name.Rfc822Name n) = n.0.octets.now ≡ octets
IsMailNameOf _ _ = ⊥

abbrev pub IsMailVerdict : NameConstraints → List ℕ → Verdict → Type 0
IsMailVerdict c octets v = (n : GeneralName) × IsMailNameOf octets n × HasVerdict c n v

-- an emailAddress is judged as an rfc822Name; other attributes are permitted
abbrev pub HasAttributeVerdict : NameConstraints → AttributeTypeAndValue → Verdict → Type 0
HasAttributeVerdict c a v =
    (IsEmailAddress a × IsMailVerdict c (mailbox_of a.value) v)
    ⊎ ((IsEmailAddress a → ⊥) × (v ≡ Permitted))

-- the attributes of a level, and the levels of a subject, in their order
pub record HasLevelVerdict (c : NameConstraints) (level : RelativeDistinguishedName) (v : Verdict)
    : Type 0 where
  pub attributes : AreAttributes (level_octets level)
  pub are : AreJudged (HasAttributeVerdict c) attributes.items v

pub record HasEmailsVerdict (c : NameConstraints) (subject : Name) (v : Verdict) : Type 0 where
  pub levels : AreLevels subject
  pub are : AreJudged (HasLevelVerdict c) levels.items v

abbrev pub IsRfc822Name : GeneralName → Type 0
IsRfc822Name (name.Rfc822Name _) = Unit {0}
IsRfc822Name _ = ⊥

-- whether one of the names of a list is an rfc822Name
pub record HaveMail (octets : List ℕ) (has_mail : Bool) : Type 0 where
  pub names : AreNames octets
  pub is : (has_mail ≡ true) ↔ SomeItem IsRfc822Name names.items

-- the same of a list that may be absent
abbrev pub HasMail : Option (List ℕ) → Bool → Type 0
HasMail None has_mail = has_mail ≡ false
HasMail (Some octets) has_mail = HaveMail octets has_mail

-- "When constraints are imposed on the rfc822Name name form, but the certificate does not include a
-- subject alternative name, the rfc822Name constraint MUST be applied to the attribute of type
-- emailAddress in the subject distinguished name" (4.2.1.10). Here it is applied too if there are
-- alternative names, but no rfc822Name: a reader that wants a mailbox then finds that attribute
abbrev pub HasMailVerdict : NameConstraints → Name → Bool → Verdict → Type 0
HasMailVerdict c subject has_mail v =
    ((has_mail ≡ true) × (v ≡ Permitted))
    ⊎ ((has_mail ≡ false) × HasEmailsVerdict c subject v)

-- the first refusal of the subject as a directoryName, and of its mailboxes; `names` are the octets
-- of the alternative names, if there are any
pub record HasSubjectVerdict (c : NameConstraints) (subject : Name) (names : Option (List ℕ))
    (v : Verdict) : Type 0 where
  pub has_mail : Bool
  pub directory : Verdict
  pub mail : Verdict
  pub alternatives : HasMail names has_mail
  pub as_directory : HasDirectoryVerdict c subject directory
  pub as_mail : HasMailVerdict c subject has_mail mail
  pub is : v ≡ first_refusal directory mail

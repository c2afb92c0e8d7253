-- Purposes of keys (RFC 5280, 4.2.1.12): `AllowsPurpose`.
use Rattle.std.specs.Prelude.{◌≡◌, ◌↔◌, ◌⊎◌, ℕ, Bool, true, List, [], ◌∷◌, Option, Some, None}
use Rattle.der.specs.Prelude.{ObjectIdentifier, Sequence, element_octets}
use Rattle.der_asn1.specs.Arcs.{oid_octets}
use Rattle.der_asn1.specs.Forms.{oid_form}
use Rattle.der_asn1.specs.SequenceOf.{IsListOf}
use Rattle.x509.specs.ExtensionIdentifiers.{id_ce}
use Rattle.x509.specs.declared.asn1.tbs_certificate.TbsCertificate.{TbsCertificate}
use Rattle.x509_names.specs.Lists.{SomeItem}
use Rattle.x509_path.specs.ExtensionValue.{ExtensionHas, IsElementOf}
use Rattle.x509_path.specs.declared.purpose.Purpose.{Purpose}
use Rattle.x509_path.specs.declared.purpose.Purpose.TheVariants as purpose

-- the identifier 1.3.6.1.5.5.7.3.n
abbrev pub id_kp : ℕ → List ℕ
id_kp n = oid_octets (1 ∷ 3 ∷ 6 ∷ 1 ∷ 5 ∷ 5 ∷ 7 ∷ 3 ∷ n ∷ [])

abbrev pub purpose_octets : Purpose → List ℕ
purpose_octets purpose.ServerAuth = id_kp 1
purpose_octets purpose.ClientAuth = id_kp 2
purpose_octets purpose.CodeSigning = id_kp 3
purpose_octets purpose.EmailProtection = id_kp 4
purpose_octets purpose.TimeStamping = id_kp 8
purpose_octets purpose.OcspSigning = id_kp 9

-- anyExtendedKeyUsage, 2.5.29.37.0
abbrev pub any_purpose : List ℕ
any_purpose = oid_octets (2 ∷ 5 ∷ 29 ∷ 37 ∷ 0 ∷ [])

-- the contents octets of OBJECT IDENTIFIERs, whose encodings these octets are, one after the other
abbrev pub ArePurposes : List ℕ → Type 0
ArePurposes octets = IsListOf (λ p. oid_form p ≡ true) (element_octets ObjectIdentifier) octets

-- a purpose of a list is the one that is asked for; or it is anyExtendedKeyUsage, if that counts
abbrev pub IsPurpose : List ℕ → Bool → List ℕ → Type 0
IsPurpose asked any_counts p = (p ≡ asked) ⊎ ((any_counts ≡ true) × (p ≡ any_purpose))

-- no extKeyUsage, or one that is a SEQUENCE OF OBJECT IDENTIFIERs, with the purpose among them
abbrev pub PermitsPurpose : List ℕ → Bool → Option (List ℕ) → Type 0
PermitsPurpose asked any_counts None = Unit {0}
PermitsPurpose asked any_counts (Some value) =
    (c : List ℕ) × IsElementOf value Sequence c
    × ((l : ArePurposes c) × SomeItem (IsPurpose asked any_counts) l.items)

-- the extKeyUsage of a certificate, if there is one, permits the purpose; it is not there twice
abbrev pub AllowsPurpose : List ℕ → Bool → TbsCertificate → Type 0
AllowsPurpose asked any_counts c = ExtensionHas (id_ce 37) (PermitsPurpose asked any_counts) c

-- whether one of the purposes of a list is the one that is asked for
pub record HasPurpose (asked : List ℕ) (any_counts : Bool) (octets : List ℕ) (has : Bool) : Type 0
  where
    pub purposes : ArePurposes octets
    pub is : (has ≡ true) ↔ SomeItem (IsPurpose asked any_counts) purposes.items

-- The value of an extension of a certificate (RFC 5280, 4.2): `ExtensionHas`.
use Rattle.std.specs.Prelude.{◌≡◌, ℕ, List, [], ◌∷◌, map, Option, Some, None, MatchOption}
use Rattle.der.specs.Prelude.{Tag, element_octets}
use Rattle.x509.specs.CertificateLists.{AreExtensions}
use Rattle.x509.specs.Find.{of_type}
use Rattle.x509.specs.declared.asn1.extension.Extension.{Extension}
use Rattle.x509.specs.declared.asn1.tbs_certificate.TbsCertificate.{TbsCertificate}

-- the octets inside the OCTET STRINGs of the extensions with an identifier, in order
abbrev pub values_of : List ℕ → List Extension → List (List ℕ)
values_of id items = map (λ e. e.extn_value.octets.now) (of_type (λ e. e.extn_id.octets.now) id items)

-- there is no value, or only one, and that has the property
abbrev pub OnlyHas : (Option (List ℕ) → Type 0) → List (List ℕ) → Type 0
OnlyHas P [] = P None
OnlyHas P (v ∷ []) = P (Some v)
OnlyHas P (v ∷ w ∷ vs) = ⊥

-- a certificate has no extension with an identifier, or only one, and its value has the property
abbrev pub ExtensionHas : List ℕ → (Option (List ℕ) → Type 0) → TbsCertificate → Type 0
ExtensionHas id P c =
    MatchOption c.extensions.0 (P None)
    (λ e. (l : AreExtensions e.0) × OnlyHas P (values_of id l.items))

-- octets are the DER encoding of one element, with this tag and these contents
abbrev pub IsElementOf : List ℕ → Tag → List ℕ → Type 0
IsElementOf octets tag contents = octets ≡ element_octets tag contents

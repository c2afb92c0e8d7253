-- Critical extensions (RFC 5280, 4.2, 6.1.4 (o), 6.1.5 (f)): `IsUnderstood`.
use Rattle.std.specs.Prelude.{◌≡◌, ◌⊎◌, ℕ, Bool, false, true, List, All, IfSome}
use Rattle.der_asn1.specs.Forms.{is_false}
use Rattle.x509.specs.CertificateLists.{AreExtensions}
use Rattle.x509.specs.ExtensionIdentifiers.{id_ce}
use Rattle.x509.specs.declared.asn1.extension.Extension.{Extension}
use Rattle.x509.specs.declared.asn1.extensions.Extensions.{Extensions}
use Rattle.x509.specs.declared.asn1.tbs_certificate.TbsCertificate.{TbsCertificate}
use Rattle.x509_lint.specs.CertificateChecks.{IsPresent}
use Rattle.x509_lint.specs.ValueRules.{ValueKeeps}
use Rattle.x509_lint.specs.declared.extension_test.ExtensionTest.TheVariants as test
use Rattle.x509_lint.specs.declared.value_rule.ValueRule.TheVariants as value
use Rattle.x509_path.specs.Qualifiers.{HasNoQualifiers}

-- keyUsage (4.2.1.3), subjectAltName (4.2.1.6), basicConstraints (4.2.1.9), nameConstraints
-- (4.2.1.10), certificatePolicies (4.2.1.4), and extKeyUsage (4.2.1.12), which is for the caller
abbrev pub IsKnown : List ℕ → Type 0
IsKnown id =
    (id ≡ id_ce 15) ⊎ ((id ≡ id_ce 17) ⊎ ((id ≡ id_ce 19) ⊎ ((id ≡ id_ce 30)
    ⊎ ((id ≡ id_ce 32) ⊎ (id ≡ id_ce 37)))))

-- policyMappings (4.2.1.5), policyConstraints (4.2.1.11) and inhibitAnyPolicy (4.2.1.14), which
-- limit the policies of a path
abbrev pub IsPolicyLimit : List ℕ → Type 0
IsPolicyLimit id = (id ≡ id_ce 33) ⊎ ((id ≡ id_ce 36) ⊎ (id ≡ id_ce 54))

-- an extension with this identifier is processed, if the caller judges policies or not
abbrev pub IsProcessed : Bool → List ℕ → Type 0
IsProcessed judges_policies id = IsKnown id ⊎ ((judges_policies ≡ true) × IsPolicyLimit id)

-- the value is one of the type that the extension has, under DER, and no pathLenConstraint is
-- negative
abbrev pub IsFormed : List ℕ → List ℕ → Type 0
IsFormed id v = ValueKeeps value.Contents id v × ValueKeeps value.PathLength id v

-- no policy of a critical certificatePolicies has qualifiers: who does not interpret them has to
-- reject it (4.2.1.4). `plain` says that an extension is not critical
abbrev pub IsInterpreted : List ℕ → Bool → List ℕ → Type 0
IsInterpreted id plain v = id ≡ id_ce 32 → plain ≡ false → HasNoQualifiers v

-- an extension with this identifier and this value is processed, well-formed and interpreted; or it
-- is not critical, and limits no policies
abbrev pub IsUnderstoodAs : Bool → List ℕ → Bool → List ℕ → Type 0
IsUnderstoodAs judges_policies id plain v =
    (IsProcessed judges_policies id × (IsFormed id v × IsInterpreted id plain v))
    ⊎ ((IsProcessed judges_policies id → ⊥)
    × ((plain ≡ false → ⊥) × (IsPolicyLimit id → ⊥)))

abbrev pub IsUnderstoodBy : Bool → Extension → Type 0
IsUnderstoodBy judges_policies e =
    IsUnderstoodAs judges_policies e.extn_id.octets.now (is_false e.critical.0.octets.now)
    e.extn_value.octets.now

abbrev pub AreUnderstood : Bool → Extensions → Type 0
AreUnderstood judges_policies v =
    ∥ ((l : AreExtensions v) × All (IsUnderstoodBy judges_policies) l.items) ∥₁

abbrev pub AreUnderstoodIfPresent : Bool → TbsCertificate → Type 0
AreUnderstoodIfPresent judges_policies c =
    IfSome c.extensions.0 (λ e. AreUnderstood judges_policies e.0)

-- all extensions are understood, and a nameConstraints is in the certificate of an authority only
-- (4.2.1.10)
abbrev pub IsUnderstood : Bool → TbsCertificate → Type 0
IsUnderstood judges_policies c =
    AreUnderstoodIfPresent judges_policies c
    × (IsPresent test.NameConstraints c → IsPresent test.Authority c)

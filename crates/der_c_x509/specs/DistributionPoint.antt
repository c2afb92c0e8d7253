-- A distribution point as a struct of C (`IsDistributionPointOf`; RFC 5280, 4.2.1.13).
use Rattle.std.specs.Prelude.{◌≡◌, ℕ, true, false, List, [], Option, MatchOption}
use Rattle.std.specs.Option.{is_some}
use Rattle.x509.specs.declared.asn1.distribution_point.DistributionPoint.{DistributionPoint}
use Rattle.x509.specs.declared.asn1.distribution_point_name.DistributionPointName.{DistributionPointName}
use Rattle.x509.specs.declared.asn1.distribution_point_name.DistributionPointName.TheVariants as place
use Rattle.der_c_x509.specs.Fields.{IsOptionalSpanOf}
use Rattle.der_c_x509.specs.Known.{first_bits}
use Rattle.der_c_x509.specs.declared.distribution_point.DerDistributionPoint.{DerDistributionPoint}

-- no names of the place
pub record IsNoFullName (p : DerDistributionPoint) : Type 0 where
  pub full_name : p.full_name.octets.now ≡ []
  pub has_full_name : p.has_full_name ≡ false

-- no level below the name of the issuer of the list
pub record IsNoRelativeName (p : DerDistributionPoint) : Type 0 where
  pub relative_name : p.relative_name.octets.now ≡ []
  pub has_relative_name : p.has_relative_name ≡ false

-- the place is absent; or it is names of its own, or a level below the name of the issuer
abbrev pub IsNoPlace : DerDistributionPoint → Type 0
IsNoPlace p = IsNoFullName p × IsNoRelativeName p

abbrev pub IsPlaceOf : DistributionPointName → DerDistributionPoint → Type 0
IsPlaceOf (place.FullName n) p = (p.full_name.octets.now ≡ n.0.octets.now)
    × (p.has_full_name ≡ true) × IsNoRelativeName p
IsPlaceOf (place.NameRelativeToCrlIssuer n) p =
    (p.relative_name.octets.now ≡ n.0.attributes.elements.octets.now)
    × (p.has_relative_name ≡ true) × IsNoFullName p

-- the reasons 0 to 15; none if they are absent
abbrev pub IsReasonsOf : {A : Type 0} → (A → List ℕ) → Option A → ℕ → Type 0
IsReasonsOf octets_of o reasons =
    MatchOption o (reasons ≡ 0) (λ v. reasons ≡ first_bits 16 (octets_of v))

pub record IsDistributionPointOf (v : DistributionPoint) (p : DerDistributionPoint) : Type 0 where
  pub place : MatchOption v.distribution_point.0 (IsNoPlace p) (λ t. IsPlaceOf t.0.value p)
  pub has_reasons : p.has_reasons ≡ is_some v.reasons.0
  pub reasons : IsReasonsOf (λ r. r.0.octets.now) v.reasons.0 p.reasons
  pub has_list_issuer : p.has_list_issuer ≡ is_some v.crl_issuer.0
  pub list_issuer : IsOptionalSpanOf (λ n. n.0.octets.now) v.crl_issuer.0 p.list_issuer

-- The pathLenConstraint (RFC 5280, 4.2.1.9): `AllowsPath`.
use Rattle.std.specs.Prelude.{◌≡◌, ◌<◌, ◌≤◌, ◌-◌, ◌^◌, ℕ, List, All, Option, Some, IfSome, length, min, if◌then◌else◌}
use Rattle.std.specs.Option.{option_map}
use Rattle.der_asn1.specs.Integer.{is_negative, magnitude}
use Rattle.x509.specs.CertificateLists.{AreExtensions}
use Rattle.x509.specs.ExtensionIdentifiers.{id_ce}
use Rattle.x509.specs.contracts.asn1.basic_constraints.BasicConstraintsItem.TheImpl as basic
use Rattle.x509.specs.declared.asn1.basic_constraints.BasicConstraints.{BasicConstraints}
use Rattle.x509.specs.declared.asn1.extension.Extension.{Extension}
use Rattle.x509.specs.declared.asn1.extensions.Extensions.{Extensions}
use Rattle.x509.specs.declared.asn1.tbs_certificate.TbsCertificate.{TbsCertificate}

-- the number of a pathLenConstraint with these contents octets: a negative one counts as 0 (it is
-- refused where extensions are), and one above 2^64 - 1 as this, which no path exceeds
abbrev pub limit_number : List ℕ → ℕ
limit_number octets = if is_negative octets then 0 else min (magnitude octets) (2 ^ 64 - 1)

-- the contents octets of the pathLenConstraint, if there is one
abbrev pub limit_of : BasicConstraints → Option (List ℕ)
limit_of b = option_map (λ n. n.octets.now) b.path_len_constraint.0

-- octets are a basicConstraints, with a pathLenConstraint that has these contents octets
pub record HasLimit (v contents : List ℕ) : Type 0 where
  pub constraints : BasicConstraints
  pub short : length v < 2 ^ 32
  pub valid : basic.ghosts.item.valid constraints
  pub encoding : v ≡ basic.ghosts.item.octets constraints
  pub limit : limit_of constraints ≡ Some contents

-- a value allows this number of intermediate certificates: each pathLenConstraint that it has does
abbrev pub AllowsBy : List ℕ → ℕ → Type 0
AllowsBy v n = (contents : List ℕ) → HasLimit v contents → n ≤ limit_number contents

-- an extension allows this number, if it is a basicConstraints
abbrev pub Allows : ℕ → Extension → Type 0
Allows n e = e.extn_id.octets.now ≡ id_ce 19 → AllowsBy e.extn_value.octets.now n

-- all extensions of a list do
abbrev pub AllAllow : ℕ → Extensions → Type 0
AllAllow n v = ∥ ((l : AreExtensions v) × All (Allows n) l.items) ∥₁

-- a certificate allows this number of intermediate certificates after it
abbrev pub AllowsPath : ℕ → TbsCertificate → Type 0
AllowsPath n c = IfSome c.extensions.0 (λ e. AllAllow n e.0)

-- the lesser of two limits, of which each may be absent
abbrev pub lesser : Option ℕ → Option ℕ → Option ℕ
lesser (Some k) (Some m) = Some (min k m)
lesser first (Some m) = Some m
lesser first second = first

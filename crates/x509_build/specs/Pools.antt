-- What a pool says of chains (`Follows`, `IsWhole`), and the path of a chain (`path_of`). A candidate
-- below the number of certificates is one of these, and the others are the trust anchors. The first
-- candidate of a chain issues the certificate to be validated, and each other one issues the one
-- before it.
use Rattle.std.specs.Prelude.{◌≡◌, ◌⊎◌, ◌-◌, ℕ, List, ◌∷◌, Any, Option, Some, None, IsSome, IsSomeAnd, length, map, reverse, slice_get, slice_index_or, take, if◌then◌else◌, nat_lt}
use Rattle.std.specs.Option.{option_and_then}
use Rattle.x509.specs.declared.asn1.name.Name.{Name}
use Rattle.x509.specs.declared.asn1.tbs_certificate.TbsCertificate.{TbsCertificate}
use Rattle.x509_build.specs.Links.{HasFailed, last_of}
use Rattle.x509_build.specs.declared.pool.Pool.{Pool}
use Rattle.x509_names.specs.NameMatching.{NamesMatch}
use Rattle.x509_path.specs.CertificateFacts.{part}
use Rattle.x509_path.specs.declared.certificate.PathCertificate.{PathCertificate}
use Rattle.x509_path.specs.declared.inputs.Inputs.{Inputs}

-- the certificate with a number; the one to be validated, if none has it
abbrev pub certificate_at : Pool → ℕ → PathCertificate
certificate_at p c = slice_index_or p.certificates.now c p.target.now

-- the certificate that the next candidate has to issue: that of the last one, or the one to be
-- validated
abbrev pub subject_at : Pool → Option ℕ → PathCertificate
subject_at p None = p.target.now
subject_at p (Some c) = certificate_at p c

-- the trust anchor with a number, with the time and what else its validation needs (RFC 5280, 6.1.1)
unfoldable pub inputs_at : Pool → ℕ → Option Inputs
inputs_at p c =
    if nat_lt c (length p.certificates.now) then None
    else slice_get p.anchors.now (c - length p.certificates.now)

-- the one with which a chain ends
abbrev pub inputs_of : Pool → List ℕ → Option Inputs
inputs_of p chain = option_and_then (inputs_at p) (last_of chain)

-- the issuer of a certificate is this name (6.1.3 (a) (4))
unfoldable pub HasIssuer : TbsCertificate → Name → Type 0
HasIssuer s name = NamesMatch s.issuer name

-- a candidate issues a certificate, by the names: its subject, or the name of the trust anchor, is
-- the issuer
unfoldable pub Issues : Pool → TbsCertificate → ℕ → Type 0
Issues p s c =
    IsSomeAnd (slice_get p.certificates.now c) (λ d. HasIssuer s (part d).subject)
    ⊎ IsSomeAnd (inputs_at p c) (λ i. HasIssuer s i.anchor.name)

-- two certificates are the same: they have the same octets
unfoldable pub IsSame : PathCertificate → PathCertificate → Type 0
IsSame c d = c.octets.now ≡ d.octets.now

-- the certificate is that of a candidate
unfoldable pub IsAt : Pool → PathCertificate → ℕ → Type 0
IsAt p c d = IsSame c (certificate_at p d)

-- the certificate is the one to be validated, or that of a candidate of the chain
unfoldable pub Has : Pool → List ℕ → PathCertificate → Type 0
Has p chain c = IsSame c p.target.now ⊎ Any (IsAt p c) chain

-- a candidate is a certificate that the chain has already
unfoldable pub IsUsed : Pool → List ℕ → ℕ → Type 0
IsUsed p chain c = IsSomeAnd (slice_get p.certificates.now c) (Has p chain)

-- a chain is whole: it ends with a trust anchor
abbrev pub IsWhole : Pool → List ℕ → Type 0
IsWhole p chain = IsSome (inputs_of p chain)

-- a candidate may follow a chain: nothing follows a trust anchor; it issues the last certificate;
-- "a certificate MUST NOT appear more than once in a prospective certification path" (6.1); and its
-- signature has not failed
pub record Follows (p : Pool) (chain : List ℕ) (c : ℕ) : Type 0 where
  pub goes_on : IsWhole p chain → ⊥
  pub issues : Issues p (part (subject_at p (last_of chain))) c
  pub new : IsUsed p chain c → ⊥
  pub held : HasFailed p.failed.now c (last_of chain) → ⊥

-- the path of a chain that ends with a trust anchor: first the certificate that the anchor issued,
-- last the one to be validated
abbrev pub path_of : Pool → List ℕ → List PathCertificate
path_of p chain =
    reverse (p.target.now ∷ map (certificate_at p) (take (length chain - 1) chain))

-- Links of chains (`IsLinkOf`), and those that have failed (`HasFailed`).
use Rattle.std.specs.Prelude.{◌≡◌, ◌-◌, ℕ, List, Any, Option, Some, length, slice_get, take}
use Rattle.x509_build.specs.declared.link.Link.{Link}

-- the last candidate of a chain, if it has one
abbrev pub last_of : List ℕ → Option ℕ
last_of chain = slice_get chain (length chain - 1)

-- the link of the certificate at a place of the path of a chain. The first certificate of the path is
-- issued by the last candidate of the chain
pub record IsLinkOf (chain : List ℕ) (at : ℕ) (l : Link) : Type 0 where
  pub issuer : slice_get chain (length chain - 1 - at) ≡ Some l.issuer
  pub subject : l.subject ≡ last_of (take (length chain - 1 - at) chain)

-- the signature of a candidate on a certificate has failed
abbrev pub HasFailed : List Link → ℕ → Option ℕ → Type 0
HasFailed failed c subject = Any (λ l. (l.issuer ≡ c) × (l.subject ≡ subject)) failed

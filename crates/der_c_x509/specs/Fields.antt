-- Values as structs of C: elements (`IsAnyOf`), bits (`IsBitsOf`), algorithms (`IsAlgorithmOf`),
-- public keys (`IsPublicKeyOf`) and octets that may be absent (`IsOptionalSpanOf`).
use Rattle.std.specs.Prelude.{◌≡◌, ℕ, List, [], ◌∷◌, Option, MatchOption}
use Rattle.der_asn1.specs.declared.elements.any.AnyRef.{AnyRef}
use Rattle.der_c_core.specs.TagWord.{tag_word}
use Rattle.der_c_core.specs.declared.bits.DerBits.{DerBits}
use Rattle.der_c_core.specs.declared.span.DerSpan.{DerSpan}
use Rattle.der_c_x509.specs.declared.algorithm.DerAlgorithm.{DerAlgorithm}
use Rattle.der_c_x509.specs.declared.any.DerAny.{DerAny}
use Rattle.der_c_x509.specs.declared.public_key.DerPublicKey.{DerPublicKey}
use Rattle.spki.specs.declared.asn1.algorithm_identifier_ref.AlgorithmIdentifierRef.{AlgorithmIdentifierRef}
use Rattle.spki.specs.declared.asn1.subject_public_key_info_ref.SubjectPublicKeyInfoRef.{SubjectPublicKeyInfoRef}

-- an element: its contents, and its tag as a word
pub record IsAnyOf (v : AnyRef) (a : DerAny) : Type 0 where
  pub contents : a.contents.octets.now ≡ v.contents.now
  pub tag : a.tag ≡ tag_word v.tag

-- no element: no contents, and the tag 0
pub record IsNoAny (a : DerAny) : Type 0 where
  pub contents : a.contents.octets.now ≡ []
  pub tag : a.tag ≡ 0

-- an element that may be absent
abbrev pub IsOptionalAnyOf : Option AnyRef → DerAny → Type 0
IsOptionalAnyOf o a = MatchOption o (IsNoAny a) (λ v. IsAnyOf v a)

-- the contents octets of a BIT STRING: the number of unused bits, then the octets with the bits
-- (X.690 8.6.2.2)
abbrev pub IsBitsOf : List ℕ → DerBits → Type 0
IsBitsOf octets b = octets ≡ b.unused ∷ b.octets.now

-- no bits, for a BIT STRING that is absent
pub record IsNoBits (b : DerBits) : Type 0 where
  pub octets : b.octets.now ≡ []
  pub unused : b.unused ≡ 0

-- an algorithm with its parameters (RFC 5280, 4.1.1.2)
pub record IsAlgorithmOf (v : AlgorithmIdentifierRef) (a : DerAlgorithm) : Type 0 where
  pub identifier : a.identifier.octets.now ≡ v.oid.octets.now
  pub parameters : IsOptionalAnyOf v.parameters.0 a.parameters

-- a public key with its algorithm (RFC 5280, 4.1.2.7); `encoding` is the octets of one
pub record IsPublicKeyOf (encoding : SubjectPublicKeyInfoRef → List ℕ)
    (v : SubjectPublicKeyInfoRef) (k : DerPublicKey) : Type 0 where
  pub whole : k.whole.octets.now ≡ encoding v
  pub algorithm : IsAlgorithmOf v.algorithm k.algorithm
  pub key : IsBitsOf v.subject_public_key.octets.now k.key

-- the contents octets of a value that may be absent; none if it is
abbrev pub IsOptionalSpanOf : {A : Type 0} → (A → List ℕ) → Option A → DerSpan → Type 0
IsOptionalSpanOf octets_of o s =
    MatchOption o (s.octets.now ≡ []) (λ v. s.octets.now ≡ octets_of v)

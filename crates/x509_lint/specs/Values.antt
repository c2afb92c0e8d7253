-- What the values of extensions are (RFC 5280, 4.2.1).
use Rattle.std.specs.Prelude.{◌≡◌, ◌⊎◌, ◌<◌, ◌≤◌, ℕ, false, true, List, [], ◌∷◌, ◌++◌, length, slice_index}
use Rattle.der.specs.Prelude.{BitString, Boolean, Integer, Sequence, Tag, element_octets}
use Rattle.der_asn1.specs.ContextSpecific.{context_tag}
use Rattle.der_asn1.specs.Integer.{is_negative}
use Rattle.der_asn1.specs.NamedBits.{has_bit}
use Rattle.x509_lint.specs.Elements.{EachOfSequence, IsElement}
use Rattle.x509_lint.specs.Parts.{PartKeeps}
use Rattle.x509_lint.specs.declared.part_test.PartTest.TheVariants as part

-- one of the elements of a SEQUENCE has this tag
abbrev pub HasPart : Tag → List ℕ → Type 0
HasPart tag octets = EachOfSequence (PartKeeps (part.NotTagged tag)) octets → ⊥

-- the first element is the BOOLEAN true
abbrev pub BeginsWithTrue : List ℕ → Type 0
BeginsWithTrue contents = (rest : List ℕ) × (contents ≡ element_octets Boolean (255 ∷ []) ++ rest)

-- a basicConstraints says that the subject is an authority: its cA is true (4.2.1.9)
abbrev pub HasAuthority : List ℕ → Type 0
HasAuthority octets = (c : List ℕ) × IsElement octets Sequence c × BeginsWithTrue c

-- a keyUsage has the bit keyCertSign, which has the number 5 (4.2.1.3)
abbrev pub HasCertSign : List ℕ → Type 0
HasCertSign octets = (c : List ℕ) × IsElement octets BitString c × (has_bit 5 c ≡ true)

-- all octets behind the first are zero: no bit is one
abbrev pub AreZero : List ℕ → Type 0
AreZero contents = (k : ℕ) → 1 ≤ k → k < length contents → slice_index contents k ≡ 0

-- a keyUsage has a bit that is one, if it is a BIT STRING (4.2.1.3)
abbrev pub HasUsage : List ℕ → Type 0
HasUsage octets = (c : List ℕ) → IsElement octets BitString c → AreZero c → ⊥

-- a number is not negative, if it is an INTEGER
abbrev pub IsNotNegative : List ℕ → Type 0
IsNotNegative octets = (c : List ℕ) → IsElement octets Integer c → is_negative c ≡ false

-- a cRLNumber has more than 20 octets (5.2.3)
abbrev pub IsLongNumber : List ℕ → Type 0
IsLongNumber octets = (c : List ℕ) × IsElement octets Integer c × (20 < length c)

-- elements with both of these tags are present
unfoldable pub HasBoth : ℕ → ℕ → List ℕ → Type 0
HasBoth m n octets = HasPart (context_tag false m) octets × HasPart (context_tag false n) octets

-- two of onlyContainsUserCerts, onlyContainsCACerts and onlyContainsAttributeCerts, with the tags [1],
-- [2] and [5], are present, since they are true (5.2.5)
unfoldable pub HasMixedKinds : List ℕ → Type 0
HasMixedKinds octets = HasBoth 1 2 octets ⊎ (HasBoth 1 5 octets ⊎ HasBoth 2 5 octets)

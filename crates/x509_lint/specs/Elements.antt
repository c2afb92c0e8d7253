-- Elements of any tag in octets (X.690 8.1.1): one element (`IsElement`), and what each of several
-- has (`EachElement`).
use Rattle.std.specs.Prelude.{◌≡◌, ℕ, ◌^◌, ◌<◌, List, All, length}
use Rattle.der.specs.Prelude.{Sequence, Tag, element_octets}
use Rattle.der.specs.Tag.{label}
use Rattle.der_asn1.specs.AnyRef.{IsAny, any_contents}
use Rattle.der_asn1.specs.SequenceOf.{IsListOf}
use Rattle.der_asn1.specs.declared.elements.any.AnyRef.{AnyRef}

-- the encoding of an element
abbrev pub any_encoding : AnyRef → List ℕ
any_encoding v = element_octets v.tag (any_contents v)

-- octets are elements, one after the other
abbrev pub AreElements : List ℕ → Type 0
AreElements octets = IsListOf IsAny any_encoding octets

-- fewer than 2^32 octets are one element, with this tag and these contents
abbrev pub IsElement : List ℕ → Tag → List ℕ → Type 0
IsElement octets tag contents =
    (length octets < 2 ^ 32) × ((label tag).number < 2 ^ 32) × (octets ≡ element_octets tag contents)

-- if fewer than 2^32 octets are elements, each of them has the property
abbrev pub EachElement : (Tag → List ℕ → Type 0) → List ℕ → Type 0
EachElement P octets =
    length octets < 2 ^ 32 → (l : AreElements octets) → All (λ v. P v.tag (any_contents v)) l.items

-- if the octets are a SEQUENCE, each of its elements has the property
abbrev pub EachOfSequence : (Tag → List ℕ → Type 0) → List ℕ → Type 0
EachOfSequence P octets = (c : List ℕ) → IsElement octets Sequence c → EachElement P c

-- Laws of the octets of tags, lengths, headers and bodies, each proved by this crate. `IsGrammar`
-- and `IsBodyFault` each bundle several laws of one grammar.
use Rattle.std.specs.Prelude.{◌≡◌, ℕ, zero, suc, ◌*◌, ◌≤◌, ◌⊎◌, Bool, List, [], ◌∷◌, ◌++◌, length, replicate}
use Rattle.der_base.specs.FixedOctets.{indefinite_octet, end_of_contents}
use Rattle.der_base.specs.Length.{length_octets}
use Rattle.der_base.specs.Tag.{label, tag_octets, IsIdentifier}
use Rattle.der_base.specs.HeaderGrammar.{header_octets}
use Rattle.der_base.specs.Body.{Item, Body, Items, Open}
use Rattle.der_base.specs.ScanGrammar.{TokensNext, BodyFault}
use Rattle.der_base.specs.Error.{Refusal, refusal}
use Rattle.der_base.specs.declared.tag.Tag.{Tag}
use Rattle.der_base.specs.declared.error.ErrorKind.TheVariants.{NestingDepth}
use Rattle.der_base.specs.declared.encoding_rules.EncodingRules.{EncodingRules}

-- class, constructed bit and number determine the tag (X.690 8.1.2.2)
abbrev pub OneTagOfALabel : Type 0
OneTagOfALabel = (t u : Tag) → label t ≡ label u → t ≡ u

-- no encoded tag is a proper prefix of another (X.690 8.1.2)
abbrev pub NoTagBeginsAnother : Type 0
NoTagBeginsAnother =
    (t u : Tag) (x y : List ℕ) → tag_octets t ++ x ≡ tag_octets u ++ y → (t ≡ u) × (x ≡ y)

-- no identifier is a proper prefix of another, and each has one tag and one constructed bit; under
-- BER this includes octet `0x24` (X.690 8.1.2, 8.7.1)
abbrev pub NoIdentifierBeginsAnother : Type 0
NoIdentifierBeginsAnother =
    (rules : EncodingRules) (a b : List ℕ) (t u : Tag) (p q : Bool) (x y : List ℕ)
    → IsIdentifier rules a t p → IsIdentifier rules b u q → a ++ x ≡ b ++ y
    → (a ≡ b) × (t ≡ u) × (p ≡ q) × (x ≡ y)

-- no encoded definite length is a proper prefix of another (X.690 8.1.3)
abbrev pub NoLengthBeginsAnother : Type 0
NoLengthBeginsAnother =
    (m n : ℕ) (x y : List ℕ) → length_octets m ++ x ≡ length_octets n ++ y → (m ≡ n) × (x ≡ y)

-- no header with a definite length is a proper prefix of another (X.690 8.1.2, 8.1.3)
abbrev pub NoHeaderBeginsAnother : Type 0
NoHeaderBeginsAnother =
    (t u : Tag) (m n : ℕ) (x y : List ℕ) → header_octets t m ++ x ≡ header_octets u n ++ y
    → (t ≡ u) × (m ≡ n) × (x ≡ y)

-- no indefinite-length body is a proper prefix of another, and its octets determine how many
-- identifiers and end-of-contents it contains (X.690 8.1.3.6, 8.1.5)
abbrev pub NoBodyBeginsAnother : Type 0
NoBodyBeginsAnother =
    (a b x y : List ℕ) (m n : ℕ) → Body 1 m a → Body 1 n b → a ++ x ≡ b ++ y
    → (a ≡ b) × (m ≡ n) × (x ≡ y)

-- octets begin with at most one value of a grammar, and with none if they have a fault; and they
-- have at most one fault
pub record IsGrammar {A : Type 0} (Next : A → EncodingRules → List ℕ → ℕ → Type 0)
    (Fault : EncodingRules → ℕ → List ℕ → Refusal → Type 0) : Type 0 where
  pub one : (rules : EncodingRules) (octets : List ℕ) (v w : A) (m n : ℕ)
      → Next v rules octets m → Next w rules octets n → (v ≡ w) × (m ≡ n)
  pub one_fault : (rules : EncodingRules) (at : ℕ) (octets : List ℕ) (r q : Refusal)
      → Fault rules at octets r → Fault rules at octets q → r ≡ q
  pub never_both : (rules : EncodingRules) (at : ℕ) (octets : List ℕ) (v : A) (m : ℕ) (r : Refusal)
      → Next v rules octets m → Fault rules at octets r → ⊥

-- what the laws of lengths and headers require of the fault of a body: octets have at most one, and
-- none if they begin with a body
pub record IsBodyFault (BodyFault : ℕ → List ℕ → Refusal → Type 0) : Type 0 where
  pub one_fault : (at : ℕ) (octets : List ℕ) (r q : Refusal)
      → BodyFault at octets r → BodyFault at octets q → r ≡ q
  pub never_both : (at parts : ℕ) (body rest : List ℕ) (r : Refusal)
      → Body 1 parts body → BodyFault at (body ++ rest) r → ⊥

-- every list of numbers, octets or not, begins with a body or has a fault, the reason why it does
-- not (X.690 8.1.3.6, 8.1.5)
abbrev pub BodiesOrFaults : Type 0
BodiesOrFaults =
    (at : ℕ) (octets : List ℕ)
    → ((parts : ℕ) × TokensNext parts octets) ⊎ ((r : Refusal) × BodyFault at octets r)

-- bodies, their items and their beginnings exist only at levels 1 to 64
abbrev pub NoBodyOutsideLevels : Type 0
NoBodyOutsideLevels =
    (level parts : ℕ) (body : List ℕ) → Body level parts body
    → (1 ≤ level) × (level ≤ 64)

abbrev pub NoItemOutsideLevels : Type 0
NoItemOutsideLevels =
    (level parts : ℕ) (item : List ℕ) → Item level parts item
    → (1 ≤ level) × (level ≤ 64)

abbrev pub NoItemsOutsideLevels : Type 0
NoItemsOutsideLevels =
    (level parts : ℕ) (items : List ℕ) → Items level parts items
    → (1 ≤ level) × (level ≤ 64)

abbrev pub NothingOpenOutsideLevels : Type 0
NothingOpenOutsideLevels =
    (level parts : ℕ) (octets : List ℕ) → Open level parts octets
    → (1 ≤ level) × (level ≤ 64)

-- there are bodies at each level from 1 to 64
abbrev pub BodiesAtEachLevel : Type 0
BodiesAtEachLevel = (level : ℕ) → 1 ≤ level → level ≤ 64 → Body level 1 end_of_contents

-- a body has at least its end-of-contents, and each identifier or end-of-contents counted in
-- `parts` accounts for at least two octets
abbrev pub PartsHaveTwoOctets : Type 0
PartsHaveTwoOctets =
    (level parts : ℕ) (body : List ℕ) → Body level parts body
    → (1 ≤ parts) × (2 * parts ≤ length body)

-- n nested openings of a SEQUENCE in the indefinite form, followed by `following`
abbrev pub nested_openings : ℕ → List ℕ → List ℕ
nested_openings zero following = following
nested_openings (suc n) following = 48 ∷ indefinite_octet ∷ nested_openings n following

-- examples whose identifiers and end-of-contents are counted by hand: an OCTET STRING with one
-- segment has 4, since its two zero contents octets are no end-of-contents; NULL within 63
-- openings, the deepest nesting allowed, has 128; with one opening more there is no body, and the
-- error is after the last octet `0x80`
abbrev pub ExamplesOfParts : Type 0
ExamplesOfParts =
    Body 1 4 (36 ∷ 128 ∷ 4 ∷ 2 ∷ 0 ∷ 0 ∷ 0 ∷ 0 ∷ 0 ∷ 0 ∷ [])
    × Body 1 128 (nested_openings 63 (5 ∷ 0 ∷ replicate 128 0))
    × BodyFault 2 (nested_openings 64 (5 ∷ 0 ∷ replicate 130 0)) (refusal NestingDepth 130)

-- Constructed strings (X.690 8.6.4, 8.7.3, 8.23, 8.25): `AreSegments`. Their contents are encodings
-- of segments, of type BIT STRING in a BIT STRING, and of type OCTET STRING in any other string and
-- in a time. The text of a string is the contents of the primitive encoding of its value.
use Rattle.std.specs.Prelude.{◌≡◌, ℕ, zero, suc, Bool, true, false, List, [], ◌∷◌, ◌++◌}
use Rattle.std.specs.List.{concat}
use Rattle.der_base.specs.declared.encoding_rules.EncodingRules.TheVariants.{Ber}
use Rattle.der_base.specs.declared.tag.class.Class.TheVariants as class
use Rattle.ber.specs.Universal.{number_of}
use Rattle.ber.specs.declared.header.Header.{Header}
use Rattle.ber.specs.declared.universal.Universal.{Universal}
use Rattle.ber.specs.declared.universal.Universal.TheVariants.{BitString, OctetString}
use Rattle.schema_rules.specs.Contents.{IsContents}
use Rattle.schema_read.specs.Enclosed.{IsEnclosed}

abbrev pub is_bits : Universal → Bool
is_bits BitString = true
is_bits _ = false

-- the type of segments
abbrev pub segment_type : Bool → Universal
segment_type true = BitString
segment_type false = OctetString

-- segments of bits are these octets, of which the last has so many unused bits: each segment but
-- the last has a multiple of eight bits (8.6.4.1)
abbrev pub AreBits : List (List ℕ) → ℕ → List ℕ → Type 0
AreBits [] unused octets = (unused ≡ 0) × (octets ≡ [])
AreBits (last ∷ []) unused octets = last ≡ unused ∷ octets
AreBits (first ∷ second ∷ ts) unused octets =
    (whole : List ℕ) × (others : List ℕ) × (first ≡ 0 ∷ whole)
    × AreBits (second ∷ ts) unused others × (octets ≡ whole ++ others)

-- the texts of segments are joined to a text (8.6.4.2, 8.7.3.2)
abbrev pub IsJoined : Bool → List (List ℕ) → List ℕ → Type 0
IsJoined true ts text =
    (unused : ℕ) × (octets : List ℕ) × (text ≡ unused ∷ octets) × AreBits ts unused octets
IsJoined false ts text = text ≡ concat ts

-- which octets have which text
abbrev pub Texts : Type 1
Texts = List ℕ → List ℕ → Type 0

-- octets are encodings of these texts, one after the other
abbrev pub AreTexts : Texts → List (List ℕ) → List ℕ → Type 0
AreTexts Is [] octets = octets ≡ []
AreTexts Is (text ∷ ts) octets =
    (x : List ℕ) × (rest : List ℕ) × (octets ≡ x ++ rest) × Is x text × AreTexts Is ts rest

-- contents are segments that are joined to a text
abbrev pub AreJoined : Bool → Texts → Texts
AreJoined bits Is inner text =
    (ts : List (List ℕ)) × AreTexts Is ts inner × IsJoined bits ts text

-- contents of a segment, primitive or constructed, have a text
abbrev pub HasText : Bool → Texts → Bool → Texts
HasText bits Is false inner text = (text ≡ inner) × IsContents Ber (segment_type bits) inner
HasText bits Is true inner text = AreJoined bits Is inner text

abbrev pub HasSegmentTag : Bool → Header → Type 0
HasSegmentTag bits h = (h.class ≡ class.Universal) × (h.number ≡ number_of (segment_type bits))

-- the encoding of a segment, where those inside it are these
abbrev pub IsSegmentOf : Bool → Texts → Texts
IsSegmentOf bits Is x text =
    (h : Header) × (inner : List ℕ) × IsEnclosed Ber h inner x × HasSegmentTag bits h
    × HasText bits Is h.constructed inner text

unfoldable pub IsSegment : ℕ → Bool → Texts
IsSegment zero bits x text = ⊥
IsSegment (suc d) bits x text = IsSegmentOf bits (IsSegment d bits) x text

-- contents of a constructed string of a universal type are segments, nested at most so deep, that
-- are joined to this text
abbrev pub AreSegments : ℕ → Universal → Texts
AreSegments depth universal inner text =
    AreJoined (is_bits universal) (IsSegment depth (is_bits universal)) inner text

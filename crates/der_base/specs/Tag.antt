-- Tags and their identifier octets (X.690 8.1.2): `label` is the content of a tag, `tag_octets` are
-- its octets. `IsIdentifier` states that octets are an identifier, and `IdentifierFault` why octets
-- do not begin with one.
use Rattle.std.specs.Prelude.{ℕ, ◌+◌, ◌*◌, ◌/◌, ◌%◌, ◌^◌, ◌<◌, ◌==◌, Bool, true, false, nat_lt, nat_eq, Option, Some, None, List, [], ◌∷◌, ◌++◌, length, if◌then◌else◌}
use Rattle.der_base.specs.FixedOctets.{high_number, segments_octet}
use Rattle.der_base.specs.Length.{digits}
use Rattle.der_base.specs.Error.{Refusal, refusal, end_refusal}
use Rattle.der_base.specs.declared.tag.number.TagNumber.{TagNumber}
use Rattle.der_base.specs.declared.tag.Tag.{Tag}
use Rattle.der_base.specs.declared.tag.Tag.TheVariants.{Boolean, Integer, BitString, OctetString, Null, ObjectIdentifier, Real, Enumerated, Utf8String, RelativeOid, Sequence, Set, NumericString, PrintableString, TeletexString, VideotexString, Ia5String, UtcTime, GeneralizedTime, VisibleString, GeneralString, BmpString, Application, ContextSpecific, Private}
use Rattle.der_base.specs.declared.error.ErrorKind.{ErrorKind}
use Rattle.der_base.specs.declared.error.ErrorKind.TheVariants.{TagNumberInvalid, TagUnknown}
use Rattle.der_base.specs.declared.encoding_rules.EncodingRules.{EncodingRules}
use Rattle.der_base.specs.declared.encoding_rules.EncodingRules.TheVariants.{Ber}

-- the content of identifier octets: a class, the constructed bit and a number (8.1.2.2)
pub record Label : Type 0 where
  pub class : ℕ
  pub constructed : Bool
  pub number : ℕ

abbrev pub label_of : ℕ → Bool → ℕ → Label
label_of c b n = record { class = c; constructed = b; number = n }

-- the content of a tag: the 22 supported universal tags (X.680 8.6, table 1), and the three other
-- classes
abbrev pub label : Tag → Label
label Boolean = label_of 0 false 1
label Integer = label_of 0 false 2
label BitString = label_of 0 false 3
label OctetString = label_of 0 false 4
label Null = label_of 0 false 5
label ObjectIdentifier = label_of 0 false 6
label Real = label_of 0 false 9
label Enumerated = label_of 0 false 10
label Utf8String = label_of 0 false 12
label RelativeOid = label_of 0 false 13
label Sequence = label_of 0 true 16
label Set = label_of 0 true 17
label NumericString = label_of 0 false 18
label PrintableString = label_of 0 false 19
label TeletexString = label_of 0 false 20
label VideotexString = label_of 0 false 21
label Ia5String = label_of 0 false 22
label UtcTime = label_of 0 false 23
label GeneralizedTime = label_of 0 false 24
label VisibleString = label_of 0 false 26
label GeneralString = label_of 0 false 27
label BmpString = label_of 0 false 30
label (Application b n) = label_of 1 b n.0
label (ContextSpecific b n) = label_of 2 b n.0
label (Private b n) = label_of 3 b n.0

-- the first identifier octet with these five low bits
abbrev pub leading_octet : Label → ℕ → ℕ
leading_octet l low = 64 * l.class + (if l.constructed then 32 else 0) + low

-- sets bit 8 of all octets but the last (8.1.2.4.2)
abbrev pub continuation_octets : List ℕ → List ℕ
continuation_octets [] = []
continuation_octets (d ∷ []) = d ∷ []
continuation_octets (d ∷ e ∷ ds) = (128 + d) ∷ continuation_octets (e ∷ ds)

-- the identifier octets of a tag: one for numbers up to 30 (8.1.2.2), otherwise a first octet and
-- the number in base 128 (8.1.2.4)
abbrev pub tag_octets : Tag → List ℕ
tag_octets t =
    if nat_lt (label t).number high_number then leading_octet (label t) (label t).number ∷ []
    else leading_octet (label t) high_number ∷ continuation_octets (digits 128 (label t).number)

-- the universal tags, each with its only identifier octet
abbrev pub universal_rows : List (ℕ × Tag)
universal_rows =
    (1, Boolean) ∷ (2, Integer) ∷ (3, BitString) ∷ (4, OctetString) ∷ (5, Null)
    ∷ (6, ObjectIdentifier) ∷ (9, Real) ∷ (10, Enumerated)
    ∷ (12, Utf8String) ∷ (13, RelativeOid) ∷ (18, NumericString) ∷ (19, PrintableString)
    ∷ (20, TeletexString) ∷ (21, VideotexString)
    ∷ (22, Ia5String) ∷ (23, UtcTime) ∷ (24, GeneralizedTime) ∷ (26, VisibleString)
    ∷ (27, GeneralString) ∷ (30, BmpString)
    ∷ (48, Sequence) ∷ (49, Set) ∷ []

abbrev pub tag_among : List (ℕ × Tag) → ℕ → Option Tag
tag_among [] o = None
tag_among (row ∷ rows) o = if nat_eq o row.0 then Some row.1 else tag_among rows o

-- the universal tag with this identifier octet, if there is one
abbrev pub universal_tag : ℕ → Option Tag
universal_tag o = tag_among universal_rows o

-- bit 6 of an octet
abbrev pub is_constructed : ℕ → Bool
is_constructed o = nat_eq (o / 32 % 2) 1

abbrev pub tag_number : ℕ → TagNumber
tag_number n = record { 0 = n }

-- the tag of another class with this first octet, from `0x40` on, and this number
abbrev pub other_tag : ℕ → ℕ → Tag
other_tag o n =
    if nat_lt o 128 then Application (is_constructed o) (tag_number n)
    else if nat_lt o 192 then ContextSpecific (is_constructed o) (tag_number n)
    else Private (is_constructed o) (tag_number n)

-- the identifier octets of a tag, with its constructed bit; under BER also octet `0x24`, a
-- constructed OCTET STRING (8.7.1)
pub data IsIdentifier : EncodingRules → List ℕ → Tag → Bool → Type 0 where
  of_tag : {rules : EncodingRules} {t : Tag} → (label t).number < 2 ^ 32
      → IsIdentifier rules (tag_octets t) t (label t).constructed
  of_segments : IsIdentifier Ber (segments_octet ∷ []) OctetString true

-- a proper prefix of some identifier
abbrev pub IsCutIdentifier : EncodingRules → List ℕ → Type 0
IsCutIdentifier rules s =
    (o : ℕ) × (more : List ℕ) × (t : Tag) × (b : Bool) × IsIdentifier rules (s ++ o ∷ more) t b

-- the kind of error for an octet with which no identifier continues: as a first octet, or within a
-- long number; `0x1F` begins a long number, which no universal tag has
abbrev pub identifier_kind : List ℕ → ℕ → ErrorKind
identifier_kind [] o = if o == high_number then TagNumberInvalid else TagUnknown o
identifier_kind (first ∷ s) o = TagNumberInvalid

-- why octets at a position do not begin with an identifier: they are truncated, or after an octet
-- no identifier can continue
pub data IdentifierFault (rules : EncodingRules) (at : ℕ) : List ℕ → Refusal → Type 0 where
  cut : (s : List ℕ) → IsCutIdentifier rules s
      → IdentifierFault rules at s (end_refusal (at + length s))
  refused : (s : List ℕ) (o : ℕ) (rest : List ℕ) → IsCutIdentifier rules s
      → ((more : List ℕ) (t : Tag) (b : Bool)
      → IsIdentifier rules ((s ++ o ∷ []) ++ more) t b → ⊥)
      → IdentifierFault rules at (s ++ o ∷ rest) (refusal (identifier_kind s o) (at + length s + 1))

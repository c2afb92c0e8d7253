-- Departures of a header from the Distinguished Encoding Rules, and headers with none (`IsDer`).
-- `has_tag` is the test whether `der_base` has a tag with a label; the universal types without one
-- are those for which `tag_of_type` is `None`.
use Rattle.std.specs.Prelude.{◌≡◌, ◌≢◌, Bool, true, false, nat_eq, Option, Some, None, is_some, option_and_then, if◌then◌else◌}
use Rattle.der_base.specs.Tag.{Label}
use Rattle.der_base.specs.declared.tag.Tag.{Tag}
use Rattle.der_base.specs.declared.tag.Tag.TheVariants as tags
use Rattle.ber.specs.Form.{allows}
use Rattle.ber.specs.Universal.{form_of, universal_at}
use Rattle.ber.specs.Header.{label_of_header}
use Rattle.ber.specs.declared.header.Header.{Header}
use Rattle.ber.specs.declared.form.Form.TheVariants.{Either}
use Rattle.ber.specs.declared.length.Length.TheVariants.{Indefinite}
use Rattle.ber.specs.declared.universal.Universal.{Universal}
use Rattle.ber.specs.declared.universal.Universal.TheVariants.{Boolean, Integer, BitString, OctetString, Null, ObjectIdentifier, ObjectDescriptor, External, Real, Enumerated, EmbeddedPdv, Utf8String, RelativeOid, Time, Sequence, Set, NumericString, PrintableString, TeletexString, VideotexString, Ia5String, UtcTime, GeneralizedTime, GraphicString, VisibleString, GeneralString, UniversalString, CharacterString, BmpString, Date, TimeOfDay, DateTime, Duration, OidIri, RelativeOidIri}

-- the universal type of a label, if it has one
abbrev pub type_of : Label → Option Universal
type_of l = if nat_eq l.class 0 then universal_at l.number else None

-- a number of class UNIVERSAL that no type has (X.680 8.6, table 1)
abbrev pub HasReservedTag : Label → Type 0
HasReservedTag l = (l.class ≡ 0) × (universal_at l.number ≡ None)

-- the form is not one of the type (X.690 8.2 to 8.26): the Basic Encoding Rules forbid it too
abbrev pub HasWrongForm : Label → Type 0
HasWrongForm l =
    (u : Universal) × (type_of l ≡ Some u) × (allows (form_of u) l.constructed ≡ false)

-- a string type in the constructed form (10.2)
abbrev pub IsConstructedString : Label → Type 0
IsConstructedString l =
    (u : Universal) × (type_of l ≡ Some u) × (form_of u ≡ Either) × (l.constructed ≡ true)

-- no departure: a definite length (10.1) in the fewest octets (10.1), the form of the type, and no
-- constructed string (10.2)
pub record IsDer (h : Header) : Type 0 where
  pub definite : h.length ≢ Indefinite
  pub minimal : h.minimal ≡ true
  pub form : HasWrongForm (label_of_header h) → ⊥
  pub whole : IsConstructedString (label_of_header h) → ⊥

-- the tag of a universal type in `der_base`
abbrev pub tag_of_type : Universal → Option Tag
tag_of_type Boolean = Some tags.Boolean
tag_of_type Integer = Some tags.Integer
tag_of_type BitString = Some tags.BitString
tag_of_type OctetString = Some tags.OctetString
tag_of_type Null = Some tags.Null
tag_of_type ObjectIdentifier = Some tags.ObjectIdentifier
tag_of_type ObjectDescriptor = None
tag_of_type External = None
tag_of_type Real = Some tags.Real
tag_of_type Enumerated = Some tags.Enumerated
tag_of_type EmbeddedPdv = None
tag_of_type Utf8String = Some tags.Utf8String
tag_of_type RelativeOid = Some tags.RelativeOid
tag_of_type Time = None
tag_of_type Sequence = Some tags.Sequence
tag_of_type Set = Some tags.Set
tag_of_type NumericString = Some tags.NumericString
tag_of_type PrintableString = Some tags.PrintableString
tag_of_type TeletexString = Some tags.TeletexString
tag_of_type VideotexString = Some tags.VideotexString
tag_of_type Ia5String = Some tags.Ia5String
tag_of_type UtcTime = Some tags.UtcTime
tag_of_type GeneralizedTime = Some tags.GeneralizedTime
tag_of_type GraphicString = None
tag_of_type VisibleString = Some tags.VisibleString
tag_of_type GeneralString = Some tags.GeneralString
tag_of_type UniversalString = None
tag_of_type CharacterString = None
tag_of_type BmpString = Some tags.BmpString
tag_of_type Date = None
tag_of_type TimeOfDay = None
tag_of_type DateTime = None
tag_of_type Duration = None
tag_of_type OidIri = None
tag_of_type RelativeOidIri = None

-- whether `der_base` has a tag with this label, in the form of the Distinguished Encoding Rules: each
-- of another class than UNIVERSAL, and 22 universal types
abbrev pub has_tag : Label → Bool
has_tag l = if nat_eq l.class 0 then is_some (option_and_then tag_of_type (universal_at l.number)) else true

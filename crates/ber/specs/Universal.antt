-- The universal types (X.680 8.6, table 1): `number_of`, `form_of` and `name_of` are the number, the
-- form and the name of one, and `universal_at` is the one with a number.
use Rattle.std.specs.Prelude.{ℕ, nat_eq, Option, Some, None, List, [], ◌∷◌, codes, if◌then◌else◌}
use Rattle.ber.specs.declared.form.Form.{Form}
use Rattle.ber.specs.declared.form.Form.TheVariants.{Primitive, Constructed, Either}
use Rattle.ber.specs.declared.universal.Universal.{Universal}
use Rattle.ber.specs.declared.universal.Universal.TheVariants.{Boolean, Integer, BitString, OctetString, Null, ObjectIdentifier, ObjectDescriptor, External, Real, Enumerated, EmbeddedPdv, Utf8String, RelativeOid, Time, Sequence, Set, NumericString, PrintableString, TeletexString, VideotexString, Ia5String, UtcTime, GeneralizedTime, GraphicString, VisibleString, GeneralString, UniversalString, CharacterString, BmpString, Date, TimeOfDay, DateTime, Duration, OidIri, RelativeOidIri}

-- the tag number
abbrev pub number_of : Universal → ℕ
number_of Boolean = 1
number_of Integer = 2
number_of BitString = 3
number_of OctetString = 4
number_of Null = 5
number_of ObjectIdentifier = 6
number_of ObjectDescriptor = 7
number_of External = 8
number_of Real = 9
number_of Enumerated = 10
number_of EmbeddedPdv = 11
number_of Utf8String = 12
number_of RelativeOid = 13
number_of Time = 14
number_of Sequence = 16
number_of Set = 17
number_of NumericString = 18
number_of PrintableString = 19
number_of TeletexString = 20
number_of VideotexString = 21
number_of Ia5String = 22
number_of UtcTime = 23
number_of GeneralizedTime = 24
number_of GraphicString = 25
number_of VisibleString = 26
number_of GeneralString = 27
number_of UniversalString = 28
number_of CharacterString = 29
number_of BmpString = 30
number_of Date = 31
number_of TimeOfDay = 32
number_of DateTime = 33
number_of Duration = 34
number_of OidIri = 35
number_of RelativeOidIri = 36

-- the form of an encoding (X.690 8.2 to 8.26): in the order of the numbers
abbrev pub form_of : Universal → Form
form_of Boolean = Primitive
form_of Integer = Primitive
form_of BitString = Either
form_of OctetString = Either
form_of Null = Primitive
form_of ObjectIdentifier = Primitive
form_of ObjectDescriptor = Either
form_of External = Constructed
form_of Real = Primitive
form_of Enumerated = Primitive
form_of EmbeddedPdv = Constructed
form_of Utf8String = Either
form_of RelativeOid = Primitive
form_of Time = Primitive
form_of Sequence = Constructed
form_of Set = Constructed
form_of NumericString = Either
form_of PrintableString = Either
form_of TeletexString = Either
form_of VideotexString = Either
form_of Ia5String = Either
form_of UtcTime = Either
form_of GeneralizedTime = Either
form_of GraphicString = Either
form_of VisibleString = Either
form_of GeneralString = Either
form_of UniversalString = Either
form_of CharacterString = Constructed
form_of BmpString = Either
form_of Date = Primitive
form_of TimeOfDay = Primitive
form_of DateTime = Primitive
form_of Duration = Primitive
form_of OidIri = Primitive
form_of RelativeOidIri = Primitive

-- the name in X.680
abbrev pub name_of : Universal → List ℕ
name_of Boolean = codes "BOOLEAN"
name_of Integer = codes "INTEGER"
name_of BitString = codes "BIT STRING"
name_of OctetString = codes "OCTET STRING"
name_of Null = codes "NULL"
name_of ObjectIdentifier = codes "OBJECT IDENTIFIER"
name_of ObjectDescriptor = codes "ObjectDescriptor"
name_of External = codes "EXTERNAL"
name_of Real = codes "REAL"
name_of Enumerated = codes "ENUMERATED"
name_of EmbeddedPdv = codes "EMBEDDED PDV"
name_of Utf8String = codes "UTF8String"
name_of RelativeOid = codes "RELATIVE-OID"
name_of Time = codes "TIME"
name_of Sequence = codes "SEQUENCE"
name_of Set = codes "SET"
name_of NumericString = codes "NumericString"
name_of PrintableString = codes "PrintableString"
name_of TeletexString = codes "TeletexString"
name_of VideotexString = codes "VideotexString"
name_of Ia5String = codes "IA5String"
name_of UtcTime = codes "UTCTime"
name_of GeneralizedTime = codes "GeneralizedTime"
name_of GraphicString = codes "GraphicString"
name_of VisibleString = codes "VisibleString"
name_of GeneralString = codes "GeneralString"
name_of UniversalString = codes "UniversalString"
name_of CharacterString = codes "CHARACTER STRING"
name_of BmpString = codes "BMPString"
name_of Date = codes "DATE"
name_of TimeOfDay = codes "TIME-OF-DAY"
name_of DateTime = codes "DATE-TIME"
name_of Duration = codes "DURATION"
name_of OidIri = codes "OID-IRI"
name_of RelativeOidIri = codes "RELATIVE-OID-IRI"

-- all types
abbrev pub universal_types : List Universal
universal_types =
    Boolean ∷ Integer ∷ BitString ∷ OctetString ∷ Null ∷ ObjectIdentifier ∷ ObjectDescriptor
    ∷ External ∷ Real ∷ Enumerated ∷ EmbeddedPdv ∷ Utf8String ∷ RelativeOid ∷ Time ∷ Sequence
    ∷ Set ∷ NumericString ∷ PrintableString ∷ TeletexString ∷ VideotexString ∷ Ia5String ∷ UtcTime
    ∷ GeneralizedTime ∷ GraphicString ∷ VisibleString ∷ GeneralString ∷ UniversalString
    ∷ CharacterString ∷ BmpString ∷ Date ∷ TimeOfDay ∷ DateTime ∷ Duration ∷ OidIri
    ∷ RelativeOidIri ∷ []

-- the first type of a list with this number
abbrev pub universal_among : List Universal → ℕ → Option Universal
universal_among [] n = None
universal_among (u ∷ us) n = if nat_eq n (number_of u) then Some u else universal_among us n

-- the type with this number, if there is one
abbrev pub universal_at : ℕ → Option Universal
universal_at n = universal_among universal_types n

-- The rules of contents octets: `is_of_der` and `section_of` are the class and the section of one,
-- and `rules_of` are those of a type.
use Rattle.std.specs.Prelude.{ℕ, Bool, true, false, not, List, [], ◌∷◌, codes, Option, Some, None}
use Rattle.ber.specs.declared.universal.Universal.{Universal}
use Rattle.ber.specs.declared.universal.Universal.TheVariants as type
use Rattle.der_base.specs.declared.encoding_rules.EncodingRules.{EncodingRules}
use Rattle.der_base.specs.declared.encoding_rules.EncodingRules.TheVariants.{Ber, Der}
use Rattle.schema_rules.specs.declared.contents_rule.ContentsRule.{ContentsRule}
use Rattle.schema_rules.specs.declared.contents_rule.ContentsRule.TheVariants.{BooleanLength, BooleanValue, IntegerEmpty, IntegerLong, BitStringEmpty, UnusedBits, UnusedBitsOfNone, UnusedBitsNotZero, TrailingZeroBits, NullLength, IdentifierEmpty, IdentifierCut, IdentifierLong, RealSpecial, RealBase, RealExponent, RealDecimal, RealZero, RealBaseTwo, RealExponentLong, RealMantissa, RealForm, RealDigits, Utf8Characters, NumericCharacters, PrintableCharacters, Ia5Characters, VisibleCharacters, UniversalCharacters, BmpCharacters, UtcTimeForm, UtcTimeExists, UtcTimeZone, UtcTimeSeconds, GeneralizedTimeForm, GeneralizedTimeExists, GeneralizedTimeZone, GeneralizedTimeSeconds, GeneralizedTimeFraction, GeneralizedTimePoint, TimeCharacters, DateForm, DateExists, TimeOfDayForm, TimeOfDayExists, DateTimeForm, DateTimeExists, DurationCharacters, IriUtf8, IriSolidus, RelativeIriSolidus, Constructed}

-- whether only the Distinguished Encoding Rules have the rule (X.690 11)
abbrev pub is_of_der : ContentsRule → Bool
is_of_der BooleanLength = false
is_of_der BooleanValue = true
is_of_der IntegerEmpty = false
is_of_der IntegerLong = false
is_of_der BitStringEmpty = false
is_of_der UnusedBits = false
is_of_der UnusedBitsOfNone = false
is_of_der UnusedBitsNotZero = true
is_of_der TrailingZeroBits = true
is_of_der NullLength = false
is_of_der IdentifierEmpty = false
is_of_der IdentifierCut = false
is_of_der IdentifierLong = false
is_of_der RealSpecial = false
is_of_der RealBase = false
is_of_der RealExponent = false
is_of_der RealDecimal = false
is_of_der RealZero = false
is_of_der RealBaseTwo = true
is_of_der RealExponentLong = true
is_of_der RealMantissa = true
is_of_der RealForm = true
is_of_der RealDigits = true
is_of_der Utf8Characters = false
is_of_der NumericCharacters = false
is_of_der PrintableCharacters = false
is_of_der Ia5Characters = false
is_of_der VisibleCharacters = false
is_of_der UniversalCharacters = false
is_of_der BmpCharacters = false
is_of_der UtcTimeForm = false
is_of_der UtcTimeExists = false
is_of_der UtcTimeZone = true
is_of_der UtcTimeSeconds = true
is_of_der GeneralizedTimeForm = false
is_of_der GeneralizedTimeExists = false
is_of_der GeneralizedTimeZone = true
is_of_der GeneralizedTimeSeconds = true
is_of_der GeneralizedTimeFraction = true
is_of_der GeneralizedTimePoint = true
is_of_der TimeCharacters = false
is_of_der DateForm = false
is_of_der DateExists = false
is_of_der TimeOfDayForm = false
is_of_der TimeOfDayExists = false
is_of_der DateTimeForm = false
is_of_der DateTimeExists = false
is_of_der DurationCharacters = false
is_of_der IriUtf8 = false
is_of_der IriSolidus = false
is_of_der RelativeIriSolidus = false
is_of_der Constructed = false

-- whether these encoding rules have the rule
abbrev pub has : EncodingRules → ContentsRule → Bool
has Der rule = true
has Ber rule = not (is_of_der rule)

-- whether these encoding rules allow contents of which this is the first broken rule
abbrev pub allows : EncodingRules → Option ContentsRule → Bool
allows rules None = true
allows rules (Some rule) = not (has rules rule)

-- the section of a rule
abbrev pub section_of : ContentsRule → List ℕ
section_of BooleanLength = codes "X.690 8.2.1"
section_of BooleanValue = codes "X.690 11.1"
section_of IntegerEmpty = codes "X.690 8.3.1"
section_of IntegerLong = codes "X.690 8.3.2"
section_of BitStringEmpty = codes "X.690 8.6.2.1"
section_of UnusedBits = codes "X.690 8.6.2.2"
section_of UnusedBitsOfNone = codes "X.690 8.6.2.3"
section_of UnusedBitsNotZero = codes "X.690 11.2.1"
section_of TrailingZeroBits = codes "X.690 11.2.2"
section_of NullLength = codes "X.690 8.8.2"
section_of IdentifierEmpty = codes "X.690 8.19.2"
section_of IdentifierCut = codes "X.690 8.19.2"
section_of IdentifierLong = codes "X.690 8.19.2"
section_of RealSpecial = codes "X.690 8.5.9"
section_of RealBase = codes "X.690 8.5.7.2"
section_of RealExponent = codes "X.690 8.5.7.4"
section_of RealDecimal = codes "X.690 8.5.8"
section_of RealZero = codes "X.690 8.5.2"
section_of RealBaseTwo = codes "X.690 11.3.1"
section_of RealExponentLong = codes "X.690 11.3.1"
section_of RealMantissa = codes "X.690 11.3.1"
section_of RealForm = codes "X.690 11.3.2.1"
section_of RealDigits = codes "X.690 11.3.2.2 to 11.3.2.6"
section_of Utf8Characters = codes "X.690 8.23.10"
section_of NumericCharacters = codes "X.680 41.2"
section_of PrintableCharacters = codes "X.680 41.4"
section_of Ia5Characters = codes "X.680 41.1"
section_of VisibleCharacters = codes "X.680 41.1"
section_of UniversalCharacters = codes "X.690 8.23.7"
section_of BmpCharacters = codes "X.690 8.23.8"
section_of UtcTimeForm = codes "X.680 47"
section_of UtcTimeExists = codes "X.680 47"
section_of UtcTimeZone = codes "X.690 11.8.1"
section_of UtcTimeSeconds = codes "X.690 11.8.2"
section_of GeneralizedTimeForm = codes "X.680 46"
section_of GeneralizedTimeExists = codes "X.680 46"
section_of GeneralizedTimeZone = codes "X.690 11.7.1"
section_of GeneralizedTimeSeconds = codes "X.690 11.7.2"
section_of GeneralizedTimeFraction = codes "X.690 11.7.3"
section_of GeneralizedTimePoint = codes "X.690 11.7.4"
section_of TimeCharacters = codes "X.690 8.26.1"
section_of DateForm = codes "X.690 8.26"
section_of DateExists = codes "X.690 8.26"
section_of TimeOfDayForm = codes "X.690 8.26"
section_of TimeOfDayExists = codes "X.690 8.26"
section_of DateTimeForm = codes "X.690 8.26"
section_of DateTimeExists = codes "X.690 8.26"
section_of DurationCharacters = codes "X.690 8.26"
section_of IriUtf8 = codes "X.690 8.21"
section_of IriSolidus = codes "X.690 8.21"
section_of RelativeIriSolidus = codes "X.690 8.22"
section_of Constructed = codes "X.690 8.9 to 8.11, 8.17, 8.18, 8.24"

-- the rules of a type, those of the Basic Encoding Rules first
abbrev pub rules_of : Universal → List ContentsRule
rules_of type.Boolean = BooleanLength ∷ BooleanValue ∷ []
rules_of type.Integer = IntegerEmpty ∷ IntegerLong ∷ []
rules_of type.BitString = BitStringEmpty ∷ UnusedBits ∷ UnusedBitsOfNone ∷ UnusedBitsNotZero ∷ []
rules_of type.OctetString = []
rules_of type.Null = NullLength ∷ []
rules_of type.ObjectIdentifier = IdentifierEmpty ∷ IdentifierCut ∷ IdentifierLong ∷ []
rules_of type.ObjectDescriptor = []
rules_of type.External = Constructed ∷ []
rules_of type.Real =
    RealSpecial ∷ RealBase ∷ RealExponent ∷ RealDecimal ∷ RealZero ∷ RealBaseTwo
    ∷ RealExponentLong ∷ RealMantissa ∷ RealForm ∷ RealDigits ∷ []
rules_of type.Enumerated = IntegerEmpty ∷ IntegerLong ∷ []
rules_of type.EmbeddedPdv = Constructed ∷ []
rules_of type.Utf8String = Utf8Characters ∷ []
rules_of type.RelativeOid = IdentifierEmpty ∷ IdentifierCut ∷ IdentifierLong ∷ []
rules_of type.Time = TimeCharacters ∷ []
rules_of type.Sequence = Constructed ∷ []
rules_of type.Set = Constructed ∷ []
rules_of type.NumericString = NumericCharacters ∷ []
rules_of type.PrintableString = PrintableCharacters ∷ []
rules_of type.TeletexString = []
rules_of type.VideotexString = []
rules_of type.Ia5String = Ia5Characters ∷ []
rules_of type.UtcTime = UtcTimeForm ∷ UtcTimeExists ∷ UtcTimeZone ∷ UtcTimeSeconds ∷ []
rules_of type.GeneralizedTime =
    GeneralizedTimeForm ∷ GeneralizedTimeExists ∷ GeneralizedTimeZone ∷ GeneralizedTimeSeconds
    ∷ GeneralizedTimeFraction ∷ GeneralizedTimePoint ∷ []
rules_of type.GraphicString = []
rules_of type.VisibleString = VisibleCharacters ∷ []
rules_of type.GeneralString = []
rules_of type.UniversalString = UniversalCharacters ∷ []
rules_of type.CharacterString = Constructed ∷ []
rules_of type.BmpString = BmpCharacters ∷ []
rules_of type.Date = DateForm ∷ DateExists ∷ []
rules_of type.TimeOfDay = TimeOfDayForm ∷ TimeOfDayExists ∷ []
rules_of type.DateTime = DateTimeForm ∷ DateTimeExists ∷ []
rules_of type.Duration = DurationCharacters ∷ []
rules_of type.OidIri = IriUtf8 ∷ IriSolidus ∷ []
rules_of type.RelativeOidIri = IriUtf8 ∷ RelativeIriSolidus ∷ []

-- the rules of a BIT STRING with named bits
abbrev pub named_bits_rules : List ContentsRule
named_bits_rules =
    BitStringEmpty ∷ UnusedBits ∷ UnusedBitsOfNone ∷ UnusedBitsNotZero ∷ TrailingZeroBits ∷ []

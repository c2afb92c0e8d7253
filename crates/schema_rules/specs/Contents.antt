-- Contents octets of a primitive encoding: `keeps` says of each rule whether they keep it.
-- `IsContents` are those of a type, and `Breaks` says which rule they break.
use Rattle.std.specs.Prelude.{◌≡◌, ℕ, ⊤, Bool, true, false, List, [], ◌∷◌, ◌++◌}
use Rattle.std.specs.Str.{is_utf8}
use Rattle.ber.specs.declared.universal.Universal.{Universal}
use Rattle.der_base.specs.declared.encoding_rules.EncodingRules.{EncodingRules}
use Rattle.der_asn1.specs.Alphabets.{numeric_form, visible_form, bmp_form}
use Rattle.schema_rules.specs.Codes.{universal_form}
use Rattle.schema_rules.specs.Digits.{are_digits}
use Rattle.der_asn1.specs.Forms.{boolean_form, integer_form, bits_form, null_form, oid_form, printable_form, ia5_form}
use Rattle.schema_rules.specs.GeneralizedTime.{generalized_time_form, generalized_time_exists, generalized_time_ends_in_z, generalized_time_has_seconds, has_short_fraction, has_full_stop}
use Rattle.der_asn1.specs.NamedBits.{named_bits_form}
use Rattle.schema_rules.specs.Real.{special_form, base_form, exponent_form, decimal_field_form, nonzero_form, base_two_form, short_exponent_form, odd_form, nr3_form, short_decimal_form}
use Rattle.schema_rules.specs.Small.{has_one_octet, has_octets, has_unused_bits, has_none_unused, ends_whole, begins_with_solidus, begins_without_solidus, is_printing}
use Rattle.schema_rules.specs.UsefulTimes.{date_exists, time_exists_at, date_time_exists}
use Rattle.schema_rules.specs.UtcTime.{utc_time_form, utc_time_exists, utc_time_ends_in_z, utc_time_has_seconds}
use Rattle.schema_rules.specs.Rules.{has, rules_of, named_bits_rules}
use Rattle.schema_rules.specs.declared.contents_rule.ContentsRule.{ContentsRule}
use Rattle.schema_rules.specs.declared.contents_rule.ContentsRule.TheVariants.{BooleanLength, BooleanValue, IntegerEmpty, IntegerLong, BitStringEmpty, UnusedBits, UnusedBitsOfNone, UnusedBitsNotZero, TrailingZeroBits, NullLength, IdentifierEmpty, IdentifierCut, IdentifierLong, RealSpecial, RealBase, RealExponent, RealDecimal, RealZero, RealBaseTwo, RealExponentLong, RealMantissa, RealForm, RealDigits, Utf8Characters, NumericCharacters, PrintableCharacters, Ia5Characters, VisibleCharacters, UniversalCharacters, BmpCharacters, UtcTimeForm, UtcTimeExists, UtcTimeZone, UtcTimeSeconds, GeneralizedTimeForm, GeneralizedTimeExists, GeneralizedTimeZone, GeneralizedTimeSeconds, GeneralizedTimeFraction, GeneralizedTimePoint, TimeCharacters, DateForm, DateExists, TimeOfDayForm, TimeOfDayExists, DateTimeForm, DateTimeExists, DurationCharacters, IriUtf8, IriSolidus, RelativeIriSolidus, Constructed}

-- whether contents keep a rule; `rules_of` has the rules of a type in the order in which each may
-- rely on those before it
abbrev pub keeps : ContentsRule → List ℕ → Bool
keeps BooleanLength octets = has_one_octet octets
keeps BooleanValue octets = boolean_form octets
keeps IntegerEmpty octets = has_octets octets
keeps IntegerLong octets = integer_form octets
keeps BitStringEmpty octets = has_octets octets
keeps UnusedBits octets = has_unused_bits octets
keeps UnusedBitsOfNone octets = has_none_unused octets
keeps UnusedBitsNotZero octets = bits_form octets
keeps TrailingZeroBits octets = named_bits_form octets
keeps NullLength octets = null_form octets
keeps IdentifierEmpty octets = has_octets octets
keeps IdentifierCut octets = ends_whole octets
keeps IdentifierLong octets = oid_form octets
keeps RealSpecial octets = special_form octets
keeps RealBase octets = base_form octets
keeps RealExponent octets = exponent_form octets
keeps RealDecimal octets = decimal_field_form octets
keeps RealZero octets = nonzero_form octets
keeps RealBaseTwo octets = base_two_form octets
keeps RealExponentLong octets = short_exponent_form octets
keeps RealMantissa octets = odd_form octets
keeps RealForm octets = nr3_form octets
keeps RealDigits octets = short_decimal_form octets
keeps Utf8Characters octets = is_utf8 octets
keeps NumericCharacters octets = numeric_form octets
keeps PrintableCharacters octets = printable_form octets
keeps Ia5Characters octets = ia5_form octets
keeps VisibleCharacters octets = visible_form octets
keeps UniversalCharacters octets = universal_form octets
keeps BmpCharacters octets = bmp_form octets
keeps UtcTimeForm octets = utc_time_form octets
keeps UtcTimeExists octets = utc_time_exists octets
keeps UtcTimeZone octets = utc_time_ends_in_z octets
keeps UtcTimeSeconds octets = utc_time_has_seconds octets
keeps GeneralizedTimeForm octets = generalized_time_form octets
keeps GeneralizedTimeExists octets = generalized_time_exists octets
keeps GeneralizedTimeZone octets = generalized_time_ends_in_z octets
keeps GeneralizedTimeSeconds octets = generalized_time_has_seconds octets
keeps GeneralizedTimeFraction octets = has_short_fraction octets
keeps GeneralizedTimePoint octets = has_full_stop octets
keeps TimeCharacters octets = is_printing octets
keeps DateForm octets = are_digits 8 octets
keeps DateExists octets = date_exists octets
keeps TimeOfDayForm octets = are_digits 6 octets
keeps TimeOfDayExists octets = time_exists_at 0 octets
keeps DateTimeForm octets = are_digits 14 octets
keeps DateTimeExists octets = date_time_exists octets
keeps DurationCharacters octets = is_printing octets
keeps IriUtf8 octets = is_utf8 octets
keeps IriSolidus octets = begins_with_solidus octets
keeps RelativeIriSolidus octets = begins_without_solidus octets
keeps Constructed octets = false

-- contents keep each rule of a list that these encoding rules have
abbrev pub KeepsEach : EncodingRules → List ContentsRule → List ℕ → Type 0
KeepsEach rules [] octets = ⊤
KeepsEach rules (r ∷ rs) octets =
    (has rules r ≡ true → keeps r octets ≡ true) × KeepsEach rules rs octets

-- contents keep each rule of a list
abbrev pub KeepsAll : List ContentsRule → List ℕ → Type 0
KeepsAll [] octets = ⊤
KeepsAll (r ∷ rs) octets = (keeps r octets ≡ true) × KeepsAll rs octets

-- contents octets of a type under encoding rules
abbrev pub IsContents : EncodingRules → Universal → List ℕ → Type 0
IsContents rules universal octets = KeepsEach rules (rules_of universal) octets

-- the same of a BIT STRING with named bits (X.680 22.7)
abbrev pub IsNamedBits : EncodingRules → List ℕ → Type 0
IsNamedBits rules octets = KeepsEach rules named_bits_rules octets

-- contents keep the rules of a list before this one, and break this one
pub record BreaksFirst (rs : List ContentsRule) (rule : ContentsRule) (octets : List ℕ) : Type 0 where
  pub before : List ContentsRule
  pub after : List ContentsRule
  pub split : rs ≡ before ++ rule ∷ after
  pub kept : KeepsAll before octets
  pub broken : keeps rule octets ≡ false

-- this is the first rule of a type that contents break
abbrev pub Breaks : ContentsRule → Universal → List ℕ → Type 0
Breaks rule universal octets = BreaksFirst (rules_of universal) rule octets

abbrev pub BreaksNamedBits : ContentsRule → List ℕ → Type 0
BreaksNamedBits rule octets = BreaksFirst named_bits_rules rule octets

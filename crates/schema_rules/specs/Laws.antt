-- Laws of contents octets.
use Rattle.std.specs.Prelude.{◌≡◌, ◌↔◌, Bool, true, false, ℕ, ℤ, List, Option}
use Rattle.std.specs.Str.{is_utf8}
use Rattle.ber.specs.declared.universal.Universal.{Universal}
use Rattle.ber.specs.declared.universal.Universal.TheVariants as type
use Rattle.der_base.specs.declared.encoding_rules.EncodingRules.TheVariants.{Ber, Der}
use Rattle.der_asn1.specs.Alphabets.{visible_form, numeric_form, bmp_form}
use Rattle.der_asn1.specs.Forms.{boolean_form, integer_form, bits_form, octets_form, null_form, oid_form, ia5_form, printable_form}
use Rattle.der_asn1.specs.NamedBits.{named_bits_form}
use Rattle.der_asn1.specs.Times.{utc_form, generalized_form}
use Rattle.der_asn1.specs.declared.times.date_time.DateTime.{DateTime}
use Rattle.schema_rules.specs.GeneralizedTime.{has_fraction}
use Rattle.schema_rules.specs.WrittenTime.{IsUtcTime, IsGeneralizedTime}
use Rattle.schema_rules.specs.Contents.{IsContents, IsNamedBits, Breaks}
use Rattle.schema_rules.specs.Rules.{is_of_der}
use Rattle.schema_rules.specs.declared.contents_rule.ContentsRule.{ContentsRule}

-- what the Distinguished Encoding Rules allow the Basic Encoding Rules allow
abbrev pub WhatDerAllowsBerAllows : Type 0
WhatDerAllowsBerAllows =
    (u : Universal) (octets : List ℕ) → IsContents Der u octets → IsContents Ber u octets

-- contents that break a rule are not DER
abbrev pub BrokenIsNotDer : Type 0
BrokenIsNotDer =
    (rule : ContentsRule) (u : Universal) (octets : List ℕ) → Breaks rule u octets
    → IsContents Der u octets → ⊥

-- contents whose first broken rule is one of the Distinguished Encoding Rules alone are BER
abbrev pub FirstBrokenOfDerIsBer : Type 0
FirstBrokenOfDerIsBer =
    (rule : ContentsRule) (u : Universal) (octets : List ℕ) → Breaks rule u octets
    → is_of_der rule ≡ true → IsContents Ber u octets

-- the contents of a type under the Distinguished Encoding Rules, in the words of `der_asn1`
pub data IsForm : Universal → (List ℕ → Bool) → Type 0 where
  boolean : IsForm type.Boolean boolean_form
  integer : IsForm type.Integer integer_form
  enumerated : IsForm type.Enumerated integer_form
  bit_string : IsForm type.BitString bits_form
  octet_string : IsForm type.OctetString octets_form
  null : IsForm type.Null null_form
  object_identifier : IsForm type.ObjectIdentifier oid_form
  utf8_string : IsForm type.Utf8String is_utf8
  numeric_string : IsForm type.NumericString numeric_form
  printable_string : IsForm type.PrintableString printable_form
  teletex_string : IsForm type.TeletexString octets_form
  ia5_string : IsForm type.Ia5String ia5_form
  visible_string : IsForm type.VisibleString visible_form
  bmp_string : IsForm type.BmpString bmp_form
  utc_time : IsForm type.UtcTime utc_form

abbrev pub ContentsHaveForms : Type 0
ContentsHaveForms =
    (u : Universal) (form : List ℕ → Bool) (octets : List ℕ) → IsForm u form
    → IsContents Der u octets ↔ (form octets ≡ true)

abbrev pub NamedBitsHaveForm : Type 0
NamedBitsHaveForm =
    (octets : List ℕ) → IsNamedBits Der octets ↔ (named_bits_form octets ≡ true)

-- `der_asn1` has the GeneralizedTimes without a fraction of a second
abbrev pub TimesWithoutFractionHaveForm : Type 0
TimesWithoutFractionHaveForm =
    (octets : List ℕ) → (IsContents Der type.GeneralizedTime octets × (has_fraction octets ≡ false))
    ↔ (generalized_form octets ≡ true)

-- the UTCTimes under the Basic Encoding Rules are those that are written as X.680 says
abbrev pub UtcTimesAreWritten : Type 0
UtcTimesAreWritten =
    (octets : List ℕ) → IsContents Ber type.UtcTime octets
    ↔ ((t : DateTime) × (difference : ℤ) × IsUtcTime octets t difference)

abbrev pub GeneralizedTimesAreWritten : Type 0
GeneralizedTimesAreWritten =
    (octets : List ℕ) → IsContents Ber type.GeneralizedTime octets
    ↔ ((t : DateTime) × (unit : ℕ) × (fraction : List ℕ) × (difference : Option ℤ)
    × IsGeneralizedTime octets t unit fraction difference)

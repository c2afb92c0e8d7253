-- Printed texts: `length_text`, `class_text`, `mode_text`, `rules_text`, `tag_text`, `kind_text`
-- and `error_text`; `length_debug` and `tag_debug` are those of `Debug`.
use Rattle.std.specs.Prelude.{ℕ, ◌-◌, Bool, true, false, List, [], ◌++◌, length, replicate, codes, Option, Some, None, if◌then◌else◌}
use Rattle.std.specs.Fmt.{decimal, digits, option_append}
use Rattle.der_base.specs.Length.{number, is_indefinite}
use Rattle.der_base.specs.Tag.{label}
use Rattle.der_base.specs.Error.{kind_of, position_of}
use Rattle.der_base.specs.declared.length.Length.{Length}
use Rattle.der_base.specs.declared.tag.Tag.{Tag}
use Rattle.der_base.specs.declared.tag.Tag.TheVariants as tag
use Rattle.der_base.specs.declared.tag.class.Class.{Class}
use Rattle.der_base.specs.declared.tag.class.Class.TheVariants as class
use Rattle.der_base.specs.declared.tag.mode.TagMode.{TagMode}
use Rattle.der_base.specs.declared.tag.mode.TagMode.TheVariants as mode
use Rattle.der_base.specs.declared.encoding_rules.EncodingRules.{EncodingRules}
use Rattle.der_base.specs.declared.encoding_rules.EncodingRules.TheVariants as rules
use Rattle.der_base.specs.declared.error.Error.{Error}
use Rattle.der_base.specs.declared.error.ErrorKind.{ErrorKind}
use Rattle.der_base.specs.declared.error.ErrorKind.TheVariants as kind

-- the number in decimal
abbrev pub length_text : Length → List ℕ
length_text l = decimal (number l)

abbrev pub length_debug : Length → List ℕ
length_debug l =
    if is_indefinite l then codes "Length([indefinite])"
    else codes "Length(" ++ decimal (number l) ++ codes ")"

abbrev pub class_text : Class → List ℕ
class_text class.Universal = codes "UNIVERSAL"
class_text class.Application = codes "APPLICATION"
class_text class.ContextSpecific = codes "CONTEXT-SPECIFIC"
class_text class.Private = codes "PRIVATE"

abbrev pub mode_text : TagMode → List ℕ
mode_text mode.Explicit = codes "EXPLICIT"
mode_text mode.Implicit = codes "IMPLICIT"

abbrev pub rules_text : EncodingRules → List ℕ
rules_text rules.Ber = codes "BER"
rules_text rules.Der = codes "DER"

-- the form of the contents, for a tag that is not universal
abbrev pub form_text : Bool → List ℕ
form_text true = codes "constructed"
form_text false = codes "primitive"

abbrev pub tag_text : Tag → List ℕ
tag_text tag.Boolean = codes "BOOLEAN"
tag_text tag.Integer = codes "INTEGER"
tag_text tag.BitString = codes "BIT STRING"
tag_text tag.OctetString = codes "OCTET STRING"
tag_text tag.Null = codes "NULL"
tag_text tag.ObjectIdentifier = codes "OBJECT IDENTIFIER"
tag_text tag.Real = codes "REAL"
tag_text tag.Enumerated = codes "ENUMERATED"
tag_text tag.Utf8String = codes "UTF8String"
tag_text tag.RelativeOid = codes "RELATIVE OID"
tag_text tag.Sequence = codes "SEQUENCE"
tag_text tag.Set = codes "SET"
tag_text tag.NumericString = codes "NumericString"
tag_text tag.PrintableString = codes "PrintableString"
tag_text tag.TeletexString = codes "TeletexString"
tag_text tag.VideotexString = codes "VideotexString"
tag_text tag.Ia5String = codes "IA5String"
tag_text tag.UtcTime = codes "UTCTime"
tag_text tag.GeneralizedTime = codes "GeneralizedTime"
tag_text tag.VisibleString = codes "VisibleString"
tag_text tag.GeneralString = codes "GeneralString"
tag_text tag.BmpString = codes "BMPString"
tag_text (tag.Application b n) =
    codes "APPLICATION [" ++ decimal n.0 ++ codes "] (" ++ form_text b ++ codes ")"
tag_text (tag.ContextSpecific b n) =
    codes "CONTEXT-SPECIFIC [" ++ decimal n.0 ++ codes "] (" ++ form_text b ++ codes ")"
tag_text (tag.Private b n) =
    codes "PRIVATE [" ++ decimal n.0 ++ codes "] (" ++ form_text b ++ codes ")"

-- in lower-case hexadecimal, with at least two digits
abbrev pub hexadecimal : ℕ → List ℕ
hexadecimal n = replicate (2 - length (digits 16 false n)) 48 ++ digits 16 false n

abbrev pub tag_debug : Tag → List ℕ
tag_debug t =
    codes "Tag(0x" ++ (hexadecimal (label t).number ++ (codes ": " ++ (tag_text t ++ codes ")")))

-- the text of kind `Utf8` is not specified
abbrev pub kind_text : ErrorKind → Option (List ℕ)
kind_text kind.DateTime = Some (codes "date/time error")
kind_text kind.EncodingRules = Some (codes "invalid encoding rules")
kind_text kind.Failed = Some (codes "operation failed")
kind_text (kind.Incomplete expected actual) =
    Some (codes "ASN.1 DER message is incomplete: expected " ++ length_text expected
    ++ codes ", actual " ++ length_text actual)
kind_text kind.IndefiniteLength = Some (codes "indefinite length disallowed/malformed")
kind_text (kind.Length t) = Some (codes "incorrect length for " ++ tag_text t)
kind_text kind.NestingDepth = Some (codes "too many nested productions encountered")
kind_text (kind.Noncanonical t) =
    Some (codes "ASN.1 " ++ tag_text t ++ codes " not canonically encoded as DER")
kind_text kind.OidMalformed = Some (codes "malformed OID")
kind_text kind.SetDuplicate = Some (codes "SET OF contains duplicate")
kind_text kind.SetOrdering = Some (codes "SET OF ordering error")
kind_text kind.Overflow = Some (codes "integer overflow")
kind_text kind.Overlength = Some (codes "ASN.1 DER message is too long")
kind_text kind.Reader = Some (codes "reader does not support the requested operation")
kind_text kind.TagModeUnknown = Some (codes "unknown tag mode")
kind_text kind.TagNumberInvalid = Some (codes "invalid tag number")
kind_text (kind.TagUnexpected (Some expected) actual) =
    Some (codes "unexpected ASN.1 DER tag: expected " ++ tag_text expected ++ codes ", got "
    ++ tag_text actual)
kind_text (kind.TagUnexpected None actual) =
    Some (codes "unexpected ASN.1 DER tag: got " ++ tag_text actual)
kind_text (kind.TagUnknown byte) =
    Some (codes "unknown/unsupported ASN.1 DER tag: 0x" ++ hexadecimal byte)
kind_text (kind.TrailingData decoded remaining) =
    Some (codes "trailing data at end of DER message: decoded " ++ length_text decoded
    ++ codes " bytes, " ++ length_text remaining ++ codes " bytes remaining")
kind_text (kind.Utf8 error) = None
kind_text (kind.Value t) = Some (codes "malformed ASN.1 DER value for " ++ tag_text t)
kind_text kind.OutOfMemory = Some (codes "out of memory")

abbrev pub position_text : Option Length → List ℕ
position_text None = []
position_text (Some p) = codes " at DER byte " ++ length_text p

abbrev pub error_text : Error → Option (List ℕ)
error_text e = option_append (kind_text (kind_of e)) (Some (position_text (position_of e)))

-- Derived comparisons: `length_order` and `tag_order`, which differs from the order of the encoded
-- tags, and `tag_writes`, the hasher input for a tag.
use Rattle.std.specs.Prelude.{ℕ, pos, [], ◌++◌}
use Rattle.std.specs.Hash as fed
use Rattle.std.specs.Hash.{HashWrites}
use Rattle.std.specs.Ordering.{ordering_then, nat_cmp, bool_cmp}
use Rattle.std.specs.declared.cmp.Ordering.{Ordering}
use Rattle.der_base.specs.Length.{number, is_indefinite}
use Rattle.der_base.specs.Tag.{label}
use Rattle.der_base.specs.declared.length.Length.{Length}
use Rattle.der_base.specs.declared.tag.Tag.{Tag}
use Rattle.der_base.specs.declared.tag.Tag.TheVariants as tag
use Rattle.der_base.specs.declared.tag.mode.TagMode.{TagMode}
use Rattle.der_base.specs.declared.tag.mode.TagMode.TheVariants.{Explicit, Implicit}
use Rattle.der_base.specs.declared.encoding_rules.EncodingRules.{EncodingRules}
use Rattle.der_base.specs.declared.encoding_rules.EncodingRules.TheVariants.{Ber, Der}

-- compares the numbers, then the flags, the definite length first
abbrev pub length_order : Length → Length → Ordering
length_order a b = ordering_then (nat_cmp (number a) (number b))
    (bool_cmp (is_indefinite a) (is_indefinite b))

-- the index of a variant in the declaration
abbrev pub variant_index : Tag → ℕ
variant_index tag.Boolean = 0
variant_index tag.Integer = 1
variant_index tag.BitString = 2
variant_index tag.OctetString = 3
variant_index tag.Null = 4
variant_index tag.ObjectIdentifier = 5
variant_index tag.Real = 6
variant_index tag.Enumerated = 7
variant_index tag.Utf8String = 8
variant_index tag.RelativeOid = 9
variant_index tag.Sequence = 10
variant_index tag.Set = 11
variant_index tag.NumericString = 12
variant_index tag.PrintableString = 13
variant_index tag.TeletexString = 14
variant_index tag.VideotexString = 15
variant_index tag.Ia5String = 16
variant_index tag.UtcTime = 17
variant_index tag.GeneralizedTime = 18
variant_index tag.VisibleString = 19
variant_index tag.GeneralString = 20
variant_index tag.BmpString = 21
variant_index (tag.Application b n) = 22
variant_index (tag.ContextSpecific b n) = 23
variant_index (tag.Private b n) = 24

-- compares the variants, then the constructed bits, primitive first, then the numbers
abbrev pub tag_order : Tag → Tag → Ordering
tag_order a b =
    ordering_then (nat_cmp (variant_index a) (variant_index b))
    (ordering_then (bool_cmp (label a).constructed (label b).constructed)
    (nat_cmp (label a).number (label b).number))

-- the hasher input for the fields of a variant
abbrev pub field_writes : Tag → HashWrites
field_writes (tag.Application b n) = fed.bool b ++ fed.u32 n.0
field_writes (tag.ContextSpecific b n) = fed.bool b ++ fed.u32 n.0
field_writes (tag.Private b n) = fed.bool b ++ fed.u32 n.0
field_writes other = []

-- the hasher input for a tag: the index of the variant as 64 bits, then its fields
abbrev pub tag_writes : Tag → HashWrites
tag_writes t = fed.isize (pos (variant_index t)) ++ field_writes t

-- the indices of the modes and of the rules
abbrev pub mode_index : TagMode → ℕ
mode_index Explicit = 0
mode_index Implicit = 1

abbrev pub rules_index : EncodingRules → ℕ
rules_index Ber = 0
rules_index Der = 1

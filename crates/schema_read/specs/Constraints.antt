-- Constraints on values (X.680 51): value ranges, sizes, permitted alphabets, named bits, and the numbers
-- of an ENUMERATED.
use Rattle.std.specs.Prelude.{◌≡◌, ◌-◌, ◌^◌, min, ℕ, zero, suc, ℤ, pos, true, List, slice_get, Some, ◌⊎◌}
use Rattle.std.specs.List.{AllByRecursion}
use Rattle.der_base.specs.declared.encoding_rules.EncodingRules.{EncodingRules}
use Rattle.ber.specs.declared.universal.Universal.{Universal}
use Rattle.ber.specs.declared.universal.Universal.TheVariants.{Integer, Enumerated, BitString, Utf8String, NumericString, PrintableString, TeletexString, VideotexString, Ia5String, GraphicString, VisibleString, GeneralString, UniversalString, BmpString}
use Rattle.schema_rules.specs.Characters.{size_of, characters_of, AreZeroFrom}
use Rattle.schema_rules.specs.Contents.{IsNamedBits}
use Rattle.schema_rules.specs.Values.{integer_value, IsInRange}
use Rattle.schema_types.specs.Allowed.{IsLimitOf, IsAllowed}
use Rattle.schema_types.specs.Table.{Table}
use Rattle.schema_types.specs.Tags.{IsPart}
use Rattle.schema_types.specs.declared.limit.Limit.{Limit}
use Rattle.schema_types.specs.declared.limit_kind.LimitKind.TheVariants.{Value, Size, Alphabet}
use Rattle.schema_types.specs.declared.name.Name.{Name}
use Rattle.schema_types.specs.declared.node.Node.{Node}
use Rattle.schema_types.specs.declared.span.Span.{Span}
use Rattle.schema_read.specs.declared.bound.Bound.{Bound}
use Rattle.schema_read.specs.declared.bound.Bound.TheVariants.{Numbers, Items, Bits, Characters, Sizes}

-- a number is in one of the value ranges, or there is none (51.4)
pub data IsAllowedValue (t : Table) (limits : Span) (number : ℤ) : Type 0 where
  limited : (k : ℕ) (l : Limit) → IsLimitOf t limits Value k l → IsInRange l.low l.high number
      → IsAllowedValue t limits number
  unlimited : ((k : ℕ) (l : Limit) → IsLimitOf t limits Value k l → ⊥) → IsAllowedValue t limits number

-- the greatest size that is counted
abbrev pub counted : ℕ → ℕ
counted size = min size (2 ^ 63 - 1)

-- a size is one of the sizes, or there is none (51.5)
abbrev pub IsAllowedSize : Table → Span → ℕ → Type 0
IsAllowedSize t limits size = IsAllowed t limits Size (pos (counted size))

-- the size of some string of bits is one of the sizes, or there is none: it differs from the string of
-- these contents only in the number of zero bits at its end (22.7; X.690 11.2.2, note 1)
abbrev pub HasAllowedSize : Table → Span → List ℕ → Type 0
HasAllowedSize t limits inner = (size : ℕ) × AreZeroFrom size inner × IsAllowedSize t limits size

-- the code of a character is in the permitted alphabet, or there is none (51.7)
abbrev pub IsAllowedCode : Table → Span → ℕ → Type 0
IsAllowedCode t limits code = IsAllowed t limits Alphabet (pos code)

-- those of all characters are
abbrev pub AreAllowedCodes : Table → Span → List ℕ → Type 0
AreAllowedCodes t limits codes = AllByRecursion (IsAllowedCode t limits) codes

-- a number is that of one of the names (20)
pub record IsListed (t : Table) (names : Span) (number : ℤ) : Type 0 where
  pub index : ℕ
  pub part : IsPart names index
  pub name : Name
  pub row : slice_get t.names index ≡ Some name
  pub same : IsInRange name.number name.number number

-- a number of an ENUMERATED: one of the names, or any, if there is an extension marker or no name
abbrev pub IsItem : Table → Node → ℤ → Type 0
IsItem t n number = (n.extensible ≡ true) ⊎ ((n.parts.count ≡ 0) ⊎ IsListed t n.parts number)

-- what the constraints of a universal type are about
abbrev pub bound_of : Universal → Bound
bound_of Integer = Numbers
bound_of Enumerated = Items
bound_of BitString = Bits
bound_of Utf8String = Characters
bound_of NumericString = Characters
bound_of PrintableString = Characters
bound_of TeletexString = Characters
bound_of VideotexString = Characters
bound_of Ia5String = Characters
bound_of GraphicString = Characters
bound_of VisibleString = Characters
bound_of GeneralString = Characters
bound_of UniversalString = Characters
bound_of BmpString = Characters
bound_of u = Sizes

-- the contents of a BIT STRING keep constraints, without named bits, and with so many (22.7)
abbrev pub AreBitsKept : ℕ → EncodingRules → Table → Span → Universal → List ℕ → Type 0
AreBitsKept zero rules t limits u inner = IsAllowedSize t limits (size_of u inner)
AreBitsKept (suc names) rules t limits u inner =
    HasAllowedSize t limits inner × IsNamedBits rules inner

-- contents of a primitive encoding of a node keep constraints
abbrev pub AreKept : Bound → EncodingRules → Table → Node → Universal → List ℕ → Type 0
AreKept Numbers rules t n u inner = IsAllowedValue t n.limits (integer_value inner)
AreKept Items rules t n u inner =
    IsAllowedValue t n.limits (integer_value inner) × IsItem t n (integer_value inner)
AreKept Bits rules t n u inner = AreBitsKept n.parts.count rules t n.limits u inner
AreKept Characters rules t n u inner =
    IsAllowedSize t n.limits (size_of u inner) × AreAllowedCodes t n.limits (characters_of u inner)
AreKept Sizes rules t n u inner = IsAllowedSize t n.limits (size_of u inner)

-- they keep those of the node
abbrev pub IsConstrained : EncodingRules → Table → Node → Universal → List ℕ → Type 0
IsConstrained rules t n u inner = AreKept (bound_of u) rules t n u inner

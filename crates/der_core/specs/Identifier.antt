-- Identifiers (X.690 8.1.2), by their first octet and number.
use Rattle.std.specs.Prelude.{ℕ, Bool, Option, Some, None, nat_lt, if◌then◌else◌}
use Rattle.der_base.specs.Tag.{universal_tag, other_tag, is_constructed}
use Rattle.der_base.specs.declared.tag.Tag.{Tag}
use Rattle.der_base.specs.declared.tag.Tag.TheVariants.{OctetString}
use Rattle.der_core.specs.declared.identifier.Identifier.{Identifier}

-- the tag, or OCTET STRING (octet `0x24`) if there is none
abbrev pub tag_or_segments : Option Tag → Tag
tag_or_segments (Some t) = t
tag_or_segments None = OctetString

-- the tag with this first identifier octet under BER, and with this number if that octet is `0x40`
-- or more
abbrev pub identifier_tag : ℕ → ℕ → Tag
identifier_tag o n = if nat_lt o 64 then tag_or_segments (universal_tag o) else other_tag o n

-- the tag of an identifier under BER
abbrev pub tag_of : Identifier → Tag
tag_of i = identifier_tag i.first i.number

-- bit 6 of its first octet (8.1.2.3)
abbrev pub is_constructed_identifier : Identifier → Bool
is_constructed_identifier i = is_constructed i.first

-- the tag of an identifier, if it is given
abbrev pub tag_if_known : Option Identifier → Option Tag
tag_if_known None = None
tag_if_known (Some i) = Some (tag_of i)

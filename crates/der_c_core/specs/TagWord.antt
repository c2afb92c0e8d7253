-- Tags as words of C (`tag_word`): the first octet of the identifier, plus 256 times a number in
-- the long form. A word is that of a tag (`IsTagWord`) or of none (`NoTagWord`).
use Rattle.std.specs.Prelude.{◌≡◌, ℕ, ◌+◌, ◌*◌, ◌%◌, ◌^◌, ◌<◌, Option, Some, nat_lt, if◌then◌else◌}
use Rattle.der_base.specs.FixedOctets.{high_number}
use Rattle.der_base.specs.Tag.{label, leading_octet, universal_tag, other_tag}
use Rattle.der_base.specs.declared.tag.Tag.{Tag}

-- the first octet of the identifier of a tag
abbrev pub tag_octet : Tag → ℕ
tag_octet t =
    leading_octet (label t)
    (if nat_lt (label t).number high_number then (label t).number else high_number)

-- the number of a tag if it needs the long form, else 0
abbrev pub long_number : Tag → ℕ
long_number t = if nat_lt (label t).number high_number then 0 else (label t).number

-- the first octet and the number in one word; for a tag in the short form it is just the octet
abbrev pub tag_word : Tag → ℕ
tag_word t = tag_octet t + 256 * long_number t

-- the word is that of this tag; the word is that of no tag
abbrev pub IsTagWord : ℕ → Tag → Type 0
IsTagWord word t = ((label t).number < 2 ^ 32) × (tag_word t ≡ word)

abbrev pub NoTagWord : ℕ → Type 0
NoTagWord word = (t : Tag) → IsTagWord word t → ⊥

-- the tag with this first octet, and with the number `long` if its five low bits are all set
abbrev pub said_tag : ℕ → ℕ → Option Tag
said_tag octet long =
    if nat_lt octet 64 then universal_tag octet
    else Some (other_tag octet (if nat_lt (octet % 32) high_number then octet % 32 else long))

-- Sets of tags that have nothing in common (X.680, 25.6 and 29.3).
use Rattle.std.specs.Prelude.{Contains}
use Rattle.asn1_syntax.specs.declared.tag.Tag.{Tag}
use Rattle.asn1_check.specs.declared.tag_set.TagSet.{TagSet}

-- no tag is in both
abbrev pub AreDistinct : TagSet → TagSet → Type 0
AreDistinct one two = (tag : Tag) → Contains one.tags.items tag → Contains two.tags.items tag → ⊥

-- Tags that are sought.
use Rattle.std.specs.Prelude.{◌≡◌, ℕ, ◌⊎◌, true, false, Option, Some, unwrap_or}
use Rattle.der_base.specs.declared.tag.class.Class.{Class}
use Rattle.schema_types.specs.Table.{Table}
use Rattle.schema_types.specs.Tags.{is_untagged, HasTag, SelectsOne}
use Rattle.schema_types.specs.declared.node.Node.{Node}
use Rattle.schema_types.specs.declared.selected.Selected.{Selected}
use Rattle.schema_types.specs.declared.sought.Sought.{Sought}

-- one tag
abbrev pub one_tag : Class → ℕ → Sought
one_tag class number = record { any = false; class = class; number = number }

-- the tags that a node, which is no CHOICE, may have
abbrev pub tags_of : Node → Sought
tags_of n = record { any = is_untagged n.kind; class = n.class; number = n.number }

-- a node may have a tag that is sought
abbrev pub IsMet : Sought → Node → Type 0
IsMet sought n = (sought.any ≡ true) ⊎ HasTag n sought.class sought.number

-- a node selects this one, which may
abbrev pub IsFound : Table → ℕ → Sought → Selected → Type 0
IsFound t i sought s = SelectsOne t (IsMet sought) i s.field s.node

-- it selects none
abbrev pub FindsNone : Table → ℕ → Sought → Type 0
FindsNone t i sought = (via : Option ℕ) (m : ℕ) → SelectsOne t (IsMet sought) i via m → ⊥

-- what a CHOICE selects through a field that is its alternative
abbrev pub through_field : Selected → ℕ → Selected
through_field s k = record { node = s.node; field = Some (unwrap_or s.field k) }

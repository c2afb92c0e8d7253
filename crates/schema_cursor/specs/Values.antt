-- The octets that values are read from: contents of an element inside EXPLICIT tags.
use Rattle.std.specs.Prelude.{◌≡◌, ◌+◌, ℕ, List, Some, IfSome, slice_get}
use Rattle.schema_types.specs.declared.node.Node.{Node}
use Rattle.schema_types.specs.declared.node_kind.NodeKind.TheVariants.{Explicit}
use Rattle.schema_read.specs.Types.{types_in}
use Rattle.schema_read.specs.declared.entry.Entry.{Entry}
use Rattle.schema_cursor.specs.Children.{IsFirstChild}
use Rattle.schema_cursor.specs.Cursor.{IsAt, part_of}
use Rattle.schema_cursor.specs.declared.cursor.Cursor.{Cursor}

-- the type of an element is inside an EXPLICIT tag
abbrev pub IsTagged : Cursor → Type 0
IsTagged c =
    (e : Entry) × (n : Node) × (slice_get c.entries.now c.index ≡ Some e)
    × (slice_get (types_in c.schema.now.octets.now).nodes e.kind ≡ Some n) × (n.kind ≡ Explicit)

-- an element is another one, or the first child of one inside whose type is inside an EXPLICIT tag
pub data IsInside (c : Cursor) : Cursor → Type 0 where
  same : IsInside c c
  inner : {d : Cursor} (e : Cursor) → IsInside c d → IsTagged d → IsAt d e.index e
      → IsFirstChild d.entries.now d.index (d.index + 1) e.index → IsInside c e

-- octets are the contents of an element
abbrev pub AreContents : Cursor → List ℕ → Type 0
AreContents c octets =
    IfSome (slice_get c.entries.now c.index)
    (λ e. octets ≡ part_of c.octets.now (e.offset + e.header_len) e.contents_len)

-- octets are the contents of an element inside EXPLICIT tags
abbrev pub AreInside : Cursor → List ℕ → Type 0
AreInside c octets = (d : Cursor) × IsInside c d × AreContents d octets

-- Elements of a tree, and their octets.
use Rattle.std.specs.Prelude.{◌≡◌, ℕ, ◌+◌, nat_le, List, [], length, take, drop, if◌then◌else◌}
use Rattle.schema_types.specs.declared.schema.Schema.{Schema}
use Rattle.schema_read.specs.declared.entry.Entry.{Entry}
use Rattle.schema_cursor.specs.declared.cursor.Cursor.{Cursor}

-- so many octets from a place on; none if they are not there
abbrev pub part_of : List ℕ → ℕ → ℕ → List ℕ
part_of octets start len =
    if nat_le (start + len) (length octets) then take len (drop start octets) else []

-- an element of a tree of these octets by this table
pub record IsOf (octets : List ℕ) (schema : Schema) (entries : List Entry) (c : Cursor) : Type 0 where
  pub octets_are : c.octets.now ≡ octets
  pub schema_is : c.schema.now ≡ schema
  pub entries_are : c.entries.now ≡ entries

-- the element with an index in the tree of another one
pub record IsAt (c : Cursor) (index : ℕ) (d : Cursor) : Type 0 where
  pub of : IsOf c.octets.now c.schema.now c.entries.now d
  pub index_is : d.index ≡ index

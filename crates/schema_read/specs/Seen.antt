-- The fields of a SET that were there, in memory of the caller (`fields_of`).
use Rattle.std.specs.Prelude.{ℕ, List, take}
use Rattle.schema_read.specs.declared.seen.Seen.{Seen}

abbrev pub fields_of : Seen → List ℕ
fields_of s = take s.count s.places.now

-- The table of types that octets are, by one word.
use Rattle.std.specs.Prelude.{ℕ, List}
use Rattle.schema_types.specs.Table.{Table, table_in}

unfoldable pub types_in : List ℕ → Table
types_in octets = table_in octets

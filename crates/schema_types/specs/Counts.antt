-- The header of a table, 32 octets: a magic, a version and the counts. After it are the sections, in
-- the order of the counts, each with rows of one size, and the pool.
use Rattle.std.specs.Prelude.{ℕ, ◌+◌, ◌*◌, List}
use Rattle.schema_types.specs.Numbers.{number_at}
use Rattle.schema_types.specs.declared.counts.Counts.{Counts}

-- the counts in a header
abbrev pub counts_in : List ℕ → Counts
counts_in octets = record {
  nodes = number_at octets 8;
  fields = number_at octets 12;
  limits = number_at octets 16;
  names = number_at octets 20;
  opens = number_at octets 24;
  pool = number_at octets 28;
}

-- the offset of the nodes
abbrev pub nodes_at : ℕ
nodes_at = 32

-- the offset of the fields; a node has 40 octets
abbrev pub fields_at : Counts → ℕ
fields_at c = nodes_at + 40 * c.nodes

-- the offset of the limits; a field has 28 octets
abbrev pub limits_at : Counts → ℕ
limits_at c = fields_at c + 28 * c.fields

-- the offset of the names; a limit has 20 octets
abbrev pub names_at : Counts → ℕ
names_at c = limits_at c + 20 * c.limits

-- the offset of the types that open types may be; a name has 16 octets
abbrev pub opens_at : Counts → ℕ
opens_at c = names_at c + 16 * c.names

-- the offset of the pool; such a type has 12 octets
abbrev pub pool_at : Counts → ℕ
pool_at c = opens_at c + 12 * c.opens

-- the number of octets of a table
abbrev pub size_of : Counts → ℕ
size_of c = pool_at c + c.pool

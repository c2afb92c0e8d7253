-- Which node has a name.
use Rattle.std.specs.Prelude.{◌≡◌, ◌≢◌, ℕ, ◌+◌, ◌*◌, ◌<◌, List}
use Rattle.schema_types.specs.Counts.{nodes_at}
use Rattle.schema_types.specs.Pool.{pool_in, octets_of}
use Rattle.schema_types.specs.Node.{node_at}
use Rattle.schema_types.specs.declared.counts.Counts.{Counts}

-- the octets of the name of the node with an index
abbrev pub name_in : Counts → List ℕ → ℕ → List ℕ
name_in c octets i = octets_of (pool_in c octets) (node_at octets (nodes_at + 40 * i)).name

-- none of the first nodes has the name
abbrev pub NoneIsNamed : Counts → List ℕ → List ℕ → ℕ → Type 0
NoneIsNamed c octets name count = (k : ℕ) → k < count → name_in c octets k ≢ name

-- a node is the first with the name
pub record IsNamed (c : Counts) (octets name : List ℕ) (i : ℕ) : Type 0 where
  pub there : i < c.nodes
  pub same : name_in c octets i ≡ name
  pub first : NoneIsNamed c octets name i

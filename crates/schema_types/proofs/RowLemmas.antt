-- Rows by their index.
use Rattle.std.proofs.Common.{◌≡◌, ℕ, zero, suc, ◌+◌, ◌*◌, ◌<◌, List, length, length-drop, slice_get, Some, refl, sym, ap, ◌∙◌, subst, arith}
use Rattle.schema_types.specs.Counts.{counts_in, nodes_at, fields_at, limits_at, names_at, opens_at, pool_at, size_of}
use Rattle.schema_types.specs.Node.{node_at}
use Rattle.schema_types.specs.Field.{field_at}
use Rattle.schema_types.specs.Limit.{limit_at}
use Rattle.schema_types.specs.Name.{name_at}
use Rattle.schema_types.specs.OpenType.{open_type_at}
use Rattle.schema_types.specs.Table.{rows, table_with, table_in, counts_of}
use Rattle.schema_types.specs.declared.counts.Counts.{Counts}
use Rattle.schema_types.specs.declared.field.Field.{Field}
use Rattle.schema_types.specs.declared.node.Node.{Node}

-- there are as many as were asked for
pub rows_length : {A : Type 0} (row : List ℕ → ℕ → A) (size at count : ℕ) (octets : List ℕ) → length (rows row size at count octets) ≡ count
rows_length row size at zero octets = refl
rows_length row size at (suc count) octets = ap suc (rows_length row size (at + size) count octets)

-- each is at its offset
pub rows_get : {A : Type 0} (row : List ℕ → ℕ → A) (size at count i : ℕ) (octets : List ℕ) → i < count → slice_get (rows row size at count octets) i ≡ Some (row octets (at + size * i))
rows_get row size at zero i octets h = absurd (omega arith)
rows_get row size at (suc count) zero octets h = let e : at ≡ at + size * 0 = omega arith in ap (λ k. Some (row octets k)) e
rows_get row size at (suc count) (suc i) octets h =
    let e : (at + size) + size * i ≡ at + size * suc i = grind arith in
    rows_get row size (at + size) count i octets (omega arith) ∙ ap (λ k. Some (row octets k)) e

-- a row that is there has an index below their number
pub rows_there : {A : Type 0} (row : List ℕ → ℕ → A) (size at count i : ℕ) (octets : List ℕ) {x : A} → slice_get (rows row size at count octets) i ≡ Some x → i < count
rows_there row size at zero i octets e = cc
rows_there row size at (suc count) zero octets e = omega arith
rows_there row size at (suc count) (suc i) octets e = let h = rows_there row size (at + size) count i octets e in omega arith

pub node_there : {c : Counts} (octets : List ℕ) (i : ℕ) {n : Node} → c ≡ counts_in octets → slice_get (table_in octets).nodes i ≡ Some n → i < c.nodes
node_there octets i e row = subst (λ (x : Counts). i < x.nodes) (sym e) (rows_there node_at 40 nodes_at (counts_in octets).nodes i octets row)

pub field_there : {c : Counts} (octets : List ℕ) (k : ℕ) {f : Field} → c ≡ counts_in octets → slice_get (table_in octets).fields k ≡ Some f → k < c.fields
field_there octets k e row = subst (λ (x : Counts). k < x.fields) (sym e) (rows_there field_at 28 (fields_at (counts_in octets)) (counts_in octets).fields k octets row)

same_counts : (a b : Counts) → a.nodes ≡ b.nodes → a.fields ≡ b.fields → a.limits ≡ b.limits → a.names ≡ b.names → a.opens ≡ b.opens → a.pool ≡ b.pool → a ≡ b
same_counts a b n f l m o p =
    ap (λ x. record a { nodes = x }) n
    ∙ ap (λ x. record a { nodes = b.nodes; fields = x }) f
    ∙ ap (λ x. record a { nodes = b.nodes; fields = b.fields; limits = x }) l
    ∙ ap (λ x. record a { nodes = b.nodes; fields = b.fields; limits = b.limits; names = x }) m
    ∙ ap (λ x. record b { opens = x; pool = a.pool }) o
    ∙ ap (λ x. record b { pool = x }) p

-- the counts are those of the table
pub counts_same : (c : Counts) (octets : List ℕ) → size_of c ≡ length octets → counts_of (table_with c octets) ≡ c
counts_same c octets e =
    same_counts (counts_of (table_with c octets)) c
    (rows_length node_at 40 nodes_at c.nodes octets)
    (rows_length field_at 28 (fields_at c) c.fields octets)
    (rows_length limit_at 20 (limits_at c) c.limits octets)
    (rows_length name_at 16 (names_at c) c.names octets)
    (rows_length open_type_at 12 (opens_at c) c.opens octets)
    (omega (arith, length-drop (pool_at c) octets))

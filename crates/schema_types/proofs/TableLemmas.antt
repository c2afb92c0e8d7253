-- Rows of the table that octets are, by their index: which row it is, that there is one below the
-- count, and that what it names is there.
use Rattle.std.proofs.Common.{◌≡◌, ℕ, ◌+◌, ◌*◌, ◌<◌, List, slice_get, Option, Some, None, IfSome, IfNone, sym, ap, ◌∙◌, subst, arith}
use Rattle.schema_types.specs.Counts.{counts_in, nodes_at, fields_at, limits_at, names_at, opens_at}
use Rattle.schema_types.specs.Span.{IsWithin}
use Rattle.schema_types.specs.Pool.{pool_in, octets_of}
use Rattle.schema_types.specs.Node.{node_at, IsNode}
use Rattle.schema_types.specs.Field.{field_at, IsField}
use Rattle.schema_types.specs.Limit.{limit_at}
use Rattle.schema_types.specs.Name.{name_at, IsName}
use Rattle.schema_types.specs.OpenType.{open_type_at, IsOpenType}
use Rattle.schema_types.specs.Chosen.{IsChosen, ChoosesNone, ChoosesRow, ChoosesNoRow}
use Rattle.schema_types.specs.Table.{rows, table_with, table_in, AreRows}
use Rattle.schema_types.specs.declared.counts.Counts.{Counts}
use Rattle.schema_types.specs.declared.field.Field.{Field}
use Rattle.schema_types.specs.declared.limit.Limit.{Limit}
use Rattle.schema_types.specs.declared.name.Name.{Name}
use Rattle.schema_types.specs.declared.node.Node.{Node}
use Rattle.schema_types.specs.declared.open_type.OpenType.{OpenType}
use Rattle.schema_types.specs.declared.span.Span.{Span}
use Rattle.schema_types.proofs.RowLemmas.{rows_get, rows_there}
use Rattle.schema_types.proofs.TagLemmas.{same_row}

module _ (octets : List ℕ) (c : Counts) (counted : c ≡ counts_in octets) (k : ℕ) where
  -- the nodes
  pub node_get : k < c.nodes → slice_get (table_in octets).nodes k ≡ Some (node_at octets (nodes_at + 40 * k))
  node_get h = subst (λ (x : Counts). slice_get (table_with x octets).nodes k ≡ Some (node_at octets (nodes_at + 40 * k))) counted (rows_get node_at 40 nodes_at c.nodes k octets h)

  pub node_below : {x : Node} → slice_get (table_in octets).nodes k ≡ Some x → k < c.nodes
  node_below row = subst (λ (x : Counts). k < x.nodes) (sym counted) (rows_there node_at 40 nodes_at (counts_in octets).nodes k octets row)

  pub node_is : {x : Node} → slice_get (table_in octets).nodes k ≡ Some x → x ≡ node_at octets (nodes_at + 40 * k)
  node_is row = same_row (table_in octets).nodes k row (node_get (node_below row))

  pub node_fits : AreRows c octets → {x : Node} → slice_get (table_in octets).nodes k ≡ Some x → IsNode c (pool_in c octets) x
  node_fits are row = subst (λ (x : Node). IsNode c (pool_in c octets) x) (sym (node_is row)) (are.nodes k (node_below row)).fits

  -- the fields
  pub field_get : k < c.fields → slice_get (table_in octets).fields k ≡ Some (field_at octets (fields_at c + 28 * k))
  field_get h = subst (λ (x : Counts). slice_get (table_with x octets).fields k ≡ Some (field_at octets (fields_at c + 28 * k))) counted (rows_get field_at 28 (fields_at c) c.fields k octets h)

  pub field_below : {x : Field} → slice_get (table_in octets).fields k ≡ Some x → k < c.fields
  field_below row = subst (λ (x : Counts). k < x.fields) (sym counted) (rows_there field_at 28 (fields_at (counts_in octets)) (counts_in octets).fields k octets row)

  pub field_is : {x : Field} → slice_get (table_in octets).fields k ≡ Some x → x ≡ field_at octets (fields_at c + 28 * k)
  field_is row = same_row (table_in octets).fields k row (field_get (field_below row))

  pub field_fits : AreRows c octets → {x : Field} → slice_get (table_in octets).fields k ≡ Some x → IsField c (pool_in c octets) x
  field_fits are row = subst (λ (x : Field). IsField c (pool_in c octets) x) (sym (field_is row)) (are.fields k (field_below row)).fits

  -- the limits
  pub limit_get : k < c.limits → slice_get (table_in octets).limits k ≡ Some (limit_at octets (limits_at c + 20 * k))
  limit_get h = subst (λ (x : Counts). slice_get (table_with x octets).limits k ≡ Some (limit_at octets (limits_at c + 20 * k))) counted (rows_get limit_at 20 (limits_at c) c.limits k octets h)

  pub limit_below : {x : Limit} → slice_get (table_in octets).limits k ≡ Some x → k < c.limits
  limit_below row = subst (λ (x : Counts). k < x.limits) (sym counted) (rows_there limit_at 20 (limits_at (counts_in octets)) (counts_in octets).limits k octets row)

  pub limit_is : {x : Limit} → slice_get (table_in octets).limits k ≡ Some x → x ≡ limit_at octets (limits_at c + 20 * k)
  limit_is row = same_row (table_in octets).limits k row (limit_get (limit_below row))

  -- the names
  pub name_get : k < c.names → slice_get (table_in octets).names k ≡ Some (name_at octets (names_at c + 16 * k))
  name_get h = subst (λ (x : Counts). slice_get (table_with x octets).names k ≡ Some (name_at octets (names_at c + 16 * k))) counted (rows_get name_at 16 (names_at c) c.names k octets h)

  pub name_below : {x : Name} → slice_get (table_in octets).names k ≡ Some x → k < c.names
  name_below row = subst (λ (x : Counts). k < x.names) (sym counted) (rows_there name_at 16 (names_at (counts_in octets)) (counts_in octets).names k octets row)

  pub name_is : {x : Name} → slice_get (table_in octets).names k ≡ Some x → x ≡ name_at octets (names_at c + 16 * k)
  name_is row = same_row (table_in octets).names k row (name_get (name_below row))

  pub name_fits : AreRows c octets → {x : Name} → slice_get (table_in octets).names k ≡ Some x → IsName (pool_in c octets) x
  name_fits are row = subst (λ (x : Name). IsName (pool_in c octets) x) (sym (name_is row)) (are.names k (name_below row))

  -- the opens
  pub open_type_get : k < c.opens → slice_get (table_in octets).opens k ≡ Some (open_type_at octets (opens_at c + 12 * k))
  open_type_get h = subst (λ (x : Counts). slice_get (table_with x octets).opens k ≡ Some (open_type_at octets (opens_at c + 12 * k))) counted (rows_get open_type_at 12 (opens_at c) c.opens k octets h)

  pub open_type_below : {x : OpenType} → slice_get (table_in octets).opens k ≡ Some x → k < c.opens
  open_type_below row = subst (λ (x : Counts). k < x.opens) (sym counted) (rows_there open_type_at 12 (opens_at (counts_in octets)) (counts_in octets).opens k octets row)

  pub open_type_is : {x : OpenType} → slice_get (table_in octets).opens k ≡ Some x → x ≡ open_type_at octets (opens_at c + 12 * k)
  open_type_is row = same_row (table_in octets).opens k row (open_type_get (open_type_below row))

  pub open_type_fits : AreRows c octets → {x : OpenType} → slice_get (table_in octets).opens k ≡ Some x → IsOpenType c (pool_in c octets) x
  open_type_fits are row = subst (λ (x : OpenType). IsOpenType c (pool_in c octets) x) (sym (open_type_is row)) (are.opens k (open_type_below row))

-- the row of a type that an identifier chooses
pub chosen_row : (octets : List ℕ) (c : Counts) (types : Span) (identifier : List ℕ) (o : Option OpenType) → c ≡ counts_in octets → IsWithin types c.opens → IfSome o (IsChosen c octets types identifier) → IfSome o (ChoosesRow (table_in octets) types identifier)
chosen_row octets c types identifier None counted within chosen = tt
chosen_row octets c types identifier (Some o) counted within chosen =
    subst (λ (x : Counts). ChoosesRow (table_with x octets) types identifier o) counted
    (record {
      index = chosen.index;
      part = (chosen.first, chosen.last);
      row = rows_get open_type_at 12 (opens_at c) c.opens chosen.index octets (omega (arith, chosen.last)) ∙ ap (λ (x : OpenType). Some x) (sym chosen.row);
      same = ap (λ (x : OpenType). octets_of (pool_in c octets) x.identifier) chosen.row ∙ chosen.same;
    })

-- no row has an identifier that chooses none
pub chosen_none : (octets : List ℕ) (c : Counts) (types : Span) (identifier : List ℕ) (o : Option OpenType) → c ≡ counts_in octets → IsWithin types c.opens → IfNone o (ChoosesNone c octets types identifier) → IfNone o (ChoosesNoRow (table_in octets) types identifier)
chosen_none octets c types identifier (Some o) counted within none = tt
chosen_none octets c types identifier None counted within none =
    subst (λ (x : Counts). ChoosesNoRow (table_with x octets) types identifier) counted
    (λ k o part row same.
    let e = same_row (rows open_type_at 12 (opens_at c) c.opens octets) k row (rows_get open_type_at 12 (opens_at c) c.opens k octets (omega (arith, part.1))) in
    none k part.0 part.1 (sym (ap (λ (x : OpenType). octets_of (pool_in c octets) x.identifier) e) ∙ same))

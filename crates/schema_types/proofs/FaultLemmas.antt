-- A row with a fault is not well-formed, and octets with a fault are no table.
use Rattle.std.proofs.Common.{◌≡◌, ℕ, true, false, List, Option, None, is_some, sym, ap, subst, ◌∙◌, arith}
use Rattle.schema_types.specs.Node.{IsNodeRow, IsNodeFault, unknown_kind, no_class, no_flag, no_inner_flag, no_node_name, no_inner, no_parts, no_alternative, no_limits, no_chooser}
use Rattle.schema_types.specs.Field.{IsFieldRow, IsFieldFault, unknown_presence, no_field_name, no_field_node, no_default}
use Rattle.schema_types.specs.Limit.{IsLimitRow, IsLimitFault, unknown_limit}
use Rattle.schema_types.specs.Name.{IsNameRow, IsNameFault, no_name as no_row_name}
use Rattle.schema_types.specs.OpenType.{IsOpenTypeRow, IsOpenTypeFault, no_identifier, no_type, Ascends, IsOrderFault, not_before}
use Rattle.schema_types.specs.Table.{Table, AreRows, AreAscending}
use Rattle.schema_types.specs.Schema.{IsHeader, IsHeaderFault, too_short, other_magic, other_version, other_size, IsRowFault, no_node, no_field, no_limit, no_name, no_open_type, no_order, IsSchema, IsFault, no_header, no_row, not_nested, not_distinct}
use Rattle.schema_types.specs.Distinct.{AreNested, IsNestingFault, not_before as not_before_outer, AreDistinct, IsTagFault, same_tag}
use Rattle.schema_types.specs.declared.counts.Counts.{Counts}
use Rattle.schema_types.specs.declared.fault.Fault.{Fault}
use Rattle.schema_types.specs.declared.span.Span.{Span}

-- something is there and nothing is
never : {A : Type 0} {o : Option A} → o ≡ None → is_some o ≡ true → ⊥
never e f = let g : false ≡ true = sym (ap is_some e) ∙ f in cc

node_never : {c : Counts} {pool octets : List ℕ} {at : ℕ} {f : Fault} → IsNodeFault c pool octets at f → IsNodeRow c pool octets at → ⊥
node_never (unknown_kind e) row = never e row.kind
node_never (no_class n) row = n row.class
node_never (no_flag h) row = omega (arith, row.extensible)
node_never (no_inner_flag h) row = omega (arith, row.inner)
node_never (no_node_name n) row = n row.fits.name
node_never (no_inner n) row = n row.fits.inner
node_never (no_parts n) row = n row.fits.parts
node_never (no_alternative e h) row = omega (arith, h, row.fits.alternative e)
node_never (no_limits n) row = n row.fits.limits
node_never (no_chooser h) row = omega (arith, h, row.fits.chooser)

field_never : {c : Counts} {pool octets : List ℕ} {at : ℕ} {f : Fault} → IsFieldFault c pool octets at f → IsFieldRow c pool octets at → ⊥
field_never (unknown_presence e) row = never e row.presence
field_never (no_field_name n) row = n row.fits.name
field_never (no_field_node h) row = omega (arith, h, row.fits.node)
field_never (no_default n) row = n row.fits.default

limit_never : {octets : List ℕ} {at : ℕ} {f : Fault} → IsLimitFault octets at f → IsLimitRow octets at → ⊥
limit_never (unknown_limit e) row = never e row

name_never : {pool octets : List ℕ} {at : ℕ} {f : Fault} → IsNameFault pool octets at f → IsNameRow pool octets at → ⊥
name_never (no_row_name n) row = n row

open_type_never : {c : Counts} {pool octets : List ℕ} {at : ℕ} {f : Fault} → IsOpenTypeFault c pool octets at f → IsOpenTypeRow c pool octets at → ⊥
open_type_never (no_identifier n) row = n row.identifier
open_type_never (no_type h) row = omega (arith, h, row.node)

order_never : {c : Counts} {octets : List ℕ} {types : Span} {f : Fault} → IsOrderFault c octets types f → Ascends c octets types → ⊥
order_never (not_before k h more n) ascends = n (ascends k h more)

-- rows of which one has a fault are not all well-formed
pub rows_never : {c : Counts} {octets : List ℕ} {f : Fault} → IsRowFault c octets f → AreRows c octets → AreAscending c octets → ⊥
rows_never (no_node i h fault) rows order = node_never fault (rows.nodes i h)
rows_never (no_field i h fault) rows order = field_never fault (rows.fields i h)
rows_never (no_limit i h fault) rows order = limit_never fault (rows.limits i h)
rows_never (no_name i h fault) rows order = name_never fault (rows.names i h)
rows_never (no_open_type i h fault) rows order = open_type_never fault (rows.opens i h)
rows_never (no_order i h open_kind fault) rows order = order_never fault (order i h open_kind)

header_never : {octets : List ℕ} {f : Fault} → IsHeaderFault octets f → IsHeader octets → ⊥
header_never (too_short h) is = omega (arith, h, is.long)
header_never (other_magic long n) is = n is.magic
header_never (other_version long n) is = n is.version
header_never (other_size long n) is = n is.size

pub nesting_never : {c : Counts} {t : Table} {f : Fault} → IsNestingFault c t f → AreNested t → ⊥
nesting_never (not_before_outer i k f nested h) are = omega (arith, h, are i k f nested)

pub tag_never : {c : Counts} {t : Table} {f : Fault} → IsTagFault c t f → AreDistinct t → ⊥
tag_never (same_tag i j k n f g row follow share) are = are i n row k j f g follow share

-- octets with a fault are no table
pub schema_never : {octets : List ℕ} {t : Table} {f : Fault} → IsFault octets f → IsSchema octets t → ⊥
schema_never (no_header fault) is = header_never fault is.header
schema_never (no_row header fault) is = rows_never fault is.rows is.ascending
schema_never {f = f} (not_nested header rows fault) is = nesting_never fault (subst AreNested is.table is.nested)
schema_never {f = f} (not_distinct header rows fault) is = tag_never fault (subst AreDistinct is.table is.distinct)

use Rattle.std.proofs.Common.{◌≡◌, ℕ, ◌<◌, ◌≤◌, true}
use Rattle.schema_types.specs.Table.{table_in}
use Rattle.schema_types.specs.Tags.{IsFieldOf, AreApart}
use Rattle.schema_types.specs.Distinct.{may_be_missing}
use Rattle.schema_types.specs.declared.field.Field.{Field}
use Rattle.schema_types.proofs.distinct.check_field.Given as goal

abbrev pub invariant-earlier : goal.invariant-earlier
invariant-earlier l = record {
  first : l.node.parts.start ≤ l.j;
  last : l.j ≤ l.k;
  missing : (i : ℕ) (f : Field) → l.j ≤ i → i < l.k → IsFieldOf (table_in l.rows.octets.now) l.node i f → may_be_missing l.node.kind f ≡ true;
  apart : (i : ℕ) (f : Field) → l.j ≤ i → i < l.k → IsFieldOf (table_in l.rows.octets.now) l.node i f → AreApart (table_in l.rows.octets.now) f.node l.later.node;
}

abbrev pub decreases-earlier : goal.decreases-earlier
decreases-earlier l = l.j

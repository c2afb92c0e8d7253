use Rattle.std.proofs.Common.{◌≡◌, refl, sym, subst}
use Rattle.schema_types.specs.Table.{table_with, counts_of, AreRows, AreAscending}
use Rattle.schema_types.specs.declared.counts.Counts.{Counts}
use Rattle.schema_types.proofs.RowLemmas.{counts_same}
use Rattle.schema_types.proofs.schema.Schema.counts.Goals as goal

pub returns-clause-table : goal.returns-clause-table
returns-clause-table c =
    let s = c.args.self.now in
    record {
      header = s.header;
      rows = subst (λ (n : Counts). AreRows n s.octets.now) s.counted s.rows;
      ascending = subst (λ (n : Counts). AreAscending n s.octets.now) s.counted s.ascending;
      nested = s.nested;
      distinct = s.distinct;
      table = refl;
    }

pub returns-clause-value : goal.returns-clause-value
returns-clause-value c =
    let s = c.args.self.now in
    subst (λ (n : Counts). s.counts ≡ counts_of (table_with n s.octets.now)) s.counted (sym (counts_same s.counts s.octets.now s.sized))

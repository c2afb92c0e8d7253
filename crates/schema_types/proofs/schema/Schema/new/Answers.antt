use Rattle.std.proofs.Common.{subst}
use Rattle.std.proofs.lemmas.Result.{err_from_is_err_and}
use Rattle.schema_types.specs.Schema.{IsRowFault, no_header, no_row, not_nested, not_distinct}
use Rattle.schema_types.specs.Table.{table_in, AreRows}
use Rattle.schema_types.specs.Distinct.{AreNested, IsNestingFault, AreDistinct, IsTagFault}
use Rattle.schema_types.specs.declared.counts.Counts.{Counts}
use Rattle.schema_types.proofs.FaultLemmas.{rows_never, nesting_never, tag_never, schema_never}
use Rattle.schema_types.proofs.schema.Schema.new.Goals as goal

pub returns-in_err-counts-clause-fault : goal.returns-in_err-counts-clause-fault
returns-in_err-counts-clause-fault c =
    let p = err_from_is_err_and c.from_residual.result c.from_residual.ensures.1 in
    rw (p.1, p.2) (no_header c.in_err-counts.ensures.fault)

pub returns-in_err-counts-clause-complete : goal.returns-in_err-counts-clause-complete
returns-in_err-counts-clause-complete c t is = absurd (schema_never (no_header c.in_err-counts.ensures.fault) is)

pub returns-in_err-check_rows-clause-complete : goal.returns-in_err-check_rows-clause-complete
returns-in_err-check_rows-clause-complete c t is =
    let fault = subst (λ (n : Counts). IsRowFault n c.args.octets.now c.in_err-check_rows.field-0.0) c.in_ok-counts.ensures.ok.1 c.in_err-check_rows.ensures.fault in
    absurd (rows_never fault is.rows is.ascending)

pub returns-in_err-check_rows-clause-fault : goal.returns-in_err-check_rows-clause-fault
returns-in_err-check_rows-clause-fault c =
    let p = err_from_is_err_and c.from_residual-in_err-check_rows.result c.from_residual-in_err-check_rows.ensures.1 in
    let fault = subst (λ (n : Counts). IsRowFault n c.args.octets.now c.in_err-check_rows.field-0.0) c.in_ok-counts.ensures.ok.1 c.in_err-check_rows.ensures.fault in
    rw (p.1, p.2) (no_row c.in_ok-counts.ensures.ok.0 fault)

pub returns-in_err-check_nesting-clause-complete : goal.returns-in_err-check_nesting-clause-complete
returns-in_err-check_nesting-clause-complete c t is =
    absurd (nesting_never c.in_err-check_nesting.ensures.fault (subst AreNested is.table is.nested))

pub returns-in_err-check_nesting-clause-fault : goal.returns-in_err-check_nesting-clause-fault
returns-in_err-check_nesting-clause-fault c =
    let p = err_from_is_err_and c.from_residual-in_err-check_nesting.result c.from_residual-in_err-check_nesting.ensures.1 in
    let rows = subst (λ (n : Counts). AreRows n c.args.octets.now) c.in_ok-counts.ensures.ok.1 c.in_ok-check_rows.ensures.ok in
    let fault = subst (λ (n : Counts). IsNestingFault n (table_in c.args.octets.now) c.in_err-check_nesting.field-0.0) c.in_ok-counts.ensures.ok.1 c.in_err-check_nesting.ensures.fault in
    rw (p.1, p.2) (not_nested c.in_ok-counts.ensures.ok.0 rows fault)

pub returns-in_err-check_distinct-clause-complete : goal.returns-in_err-check_distinct-clause-complete
returns-in_err-check_distinct-clause-complete c t is =
    absurd (tag_never c.in_err-check_distinct.ensures.fault (subst AreDistinct is.table is.distinct))

pub returns-in_err-check_distinct-clause-fault : goal.returns-in_err-check_distinct-clause-fault
returns-in_err-check_distinct-clause-fault c =
    let p = err_from_is_err_and c.from_residual-in_err-check_distinct.result c.from_residual-in_err-check_distinct.ensures.1 in
    let rows = subst (λ (n : Counts). AreRows n c.args.octets.now) c.in_ok-counts.ensures.ok.1 c.in_ok-check_rows.ensures.ok in
    let fault = subst (λ (n : Counts). IsTagFault n (table_in c.args.octets.now) c.in_err-check_distinct.field-0.0) c.in_ok-counts.ensures.ok.1 c.in_err-check_distinct.ensures.fault in
    rw (p.1, p.2) (not_distinct c.in_ok-counts.ensures.ok.0 rows fault)

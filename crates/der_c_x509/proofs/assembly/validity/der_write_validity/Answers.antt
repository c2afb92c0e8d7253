use Rattle.std.proofs.Common.{rules, w64}
use Rattle.std.proofs.lemmas.Int.{to_z-of_z}
use Rattle.der_c_values.specs.WriteCalls.{refused, passed}
use Rattle.der_c_values.proofs.ValueLemmas.{kind_some}
use Rattle.der_c_values.proofs.WriteLemmas.{header_kind_zero, seconds_kind_zero}
use Rattle.der_c_x509.proofs.assembly.validity.der_write_validity.Goals as goal

pub returns-then-header-ne0-clause-writes : goal.returns-then-header-ne0-clause-writes
returns-then-header-ne0-clause-writes c =
    refused (rw (c.time_size.ensures, c.time_size-2.ensures, to_z-of_z w64 c.args.not_before (search rules), to_z-of_z w64 c.args.not_after (search rules)) at c.der_write_header-header.ensures.writes) (kind_some c.if-header-ne0.true)

pub returns-then-error-ne0-clause-writes : goal.returns-then-error-ne0-clause-writes
returns-then-error-ne0-clause-writes c =
    let header = rw (c.time_size.ensures, c.time_size-2.ensures, to_z-of_z w64 c.args.not_before (search rules), to_z-of_z w64 c.args.not_after (search rules)) at c.der_write_header-header.ensures.writes in
    let first = rw (c.time_type-first.ensures, to_z-of_z w64 c.args.not_before (search rules)) at c.der_write_time_seconds-error.ensures.writes in
    passed _ (rw (header_kind_zero header c.if-header-ne0.false) at header) (refused first (kind_some c.if-error-ne0.true))

pub returns-clause-writes : goal.returns-clause-writes
returns-clause-writes c =
    let header = rw (c.time_size.ensures, c.time_size-2.ensures, to_z-of_z w64 c.args.not_before (search rules), to_z-of_z w64 c.args.not_after (search rules)) at c.der_write_header-header.ensures.writes in
    let first = rw (c.time_type-first.ensures, to_z-of_z w64 c.args.not_before (search rules)) at c.der_write_time_seconds-error.ensures.writes in
    let last = rw (c.time_type-last.ensures, to_z-of_z w64 c.args.not_after (search rules)) at c.der_write_time_seconds.ensures.writes in
    passed _ (rw (header_kind_zero header c.if-header-ne0.false) at header) (passed _ (rw (seconds_kind_zero first c.if-error-ne0.false) at first) last)

use Rattle.der_c_values.specs.WriteCalls.{refused, passed}
use Rattle.der_c_values.proofs.ValueLemmas.{kind_some}
use Rattle.der_c_values.proofs.WriteLemmas.{header_kind_zero, octets_kind_zero}
use Rattle.der_c_values.proofs.write_bits.write_bits.Goals as goal

pub returns-then-header-ne0-clause-writes : goal.returns-then-header-ne0-clause-writes
returns-then-header-ne0-clause-writes c = refused c.der_write_header-header.ensures.writes (kind_some c.if-header-ne0.true)

pub returns-then-first-ne0-clause-writes : goal.returns-then-first-ne0-clause-writes
returns-then-first-ne0-clause-writes c =
    passed _ (rw (header_kind_zero c.der_write_header-header.ensures.writes c.if-header-ne0.false) at c.der_write_header-header.ensures.writes) (refused c.der_write-first.ensures.writes (kind_some c.if-first-ne0.true))

pub returns-clause-writes : goal.returns-clause-writes
returns-clause-writes c =
    passed _ (rw (header_kind_zero c.der_write_header-header.ensures.writes c.if-header-ne0.false) at c.der_write_header-header.ensures.writes) (passed _ (rw (octets_kind_zero c.der_write-first.ensures.writes c.if-first-ne0.false) at c.der_write-first.ensures.writes) c.der_write.ensures.writes)

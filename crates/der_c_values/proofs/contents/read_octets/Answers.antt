use Rattle.std.proofs.Common.{refl}
use Rattle.der_c_values.proofs.ValueLemmas.{expect_kind_zero, expect_same, kind_some}
use Rattle.der_c_values.proofs.contents.read_octets.Goals as goal

pub returns-then-error-eq0-clause-ok : goal.returns-then-error-eq0-clause-ok
returns-then-error-eq0-clause-ok c =
    record {
      before = _;
      element = c.der_expect-error.new.element;
      reads = rw (expect_kind_zero c.der_expect-error.ensures.reads c.if-error-eq0.true) at c.der_expect-error.ensures.reads;
      contents = refl;
    }

pub returns-else-error-eq0-clause-refused : goal.returns-else-error-eq0-clause-refused
returns-else-error-eq0-clause-refused c =
    let some = kind_some c.if-error-eq0.false in
    record {
      before = _;
      reads = rw (expect_same c.der_expect-error.ensures.reads some) at c.der_expect-error.ensures.reads;
      refused = some;
    }

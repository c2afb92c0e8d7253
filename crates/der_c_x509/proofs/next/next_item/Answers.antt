use Rattle.std.proofs.Common.{◌∙◌}
use Rattle.der_c_x509.proofs.next.next_item.Goals as goal

pub returns-in-Ok-clause-reads : goal.returns-in-Ok-clause-reads
returns-in-Ok-clause-reads g c = (c.in-Ok.ensures.exact, c.in-Ok.ensures.ok)

pub returns-in-Err-clause-reads : goal.returns-in-Err-clause-reads
returns-in-Err-clause-reads g c =
    record {
      error = c.in-Err.error;
      left = _;
      refused = c.in-Err.ensures.exact;
      reported = rw (c.fork.ensures ∙ c.fork-before.ensures) at c.located_error-code.ensures;
      leaves = rw c.fork-before.ensures at c.leave.ensures;
    }

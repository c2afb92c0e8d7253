use Rattle.std.proofs.Common.{sym, subst}
use Rattle.der_c_core.specs.CounterCalls.{Counts, header_count, of_tag}
use Rattle.der_c_core.proofs.counter.der_count_header.Goals as goal

pub returns-in-Some : goal.returns-in-Some
returns-in-Some c =
    of_tag c.in-Some.tag c.in-Some.ensures.is
    (subst (λ r. Counts (header_count c.in-Some.tag c.args.length) c.args.counter.now r c.add.new.self) (sym c.code.ensures) (rw c.octets_of_header.ensures.value at c.add.ensures.counts))

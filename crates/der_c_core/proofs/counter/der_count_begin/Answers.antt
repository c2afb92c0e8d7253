use Rattle.std.proofs.Common.{refl, sym, ap}
use Rattle.der_c_core.specs.CounterCalls.{refused, begun}
use Rattle.der_c_core.proofs.counter.der_count_begin.Goals as goal

pub returns-in-Ok : goal.returns-in-Ok
returns-in-Ok c =
    begun c.in-Some.tag c.add.new.self c.in-Some.ensures.is
    (rw c.octets_of_header.ensures.value at c.in-Ok.ensures.counts) refl
    (ap (λ i. record { start = c.add.new.self.count; outer = i }) c.in-Ok.ensures.keeps) refl

pub returns-in-Err : goal.returns-in-Err
returns-in-Err c =
    refused c.in-Some.tag c.in-Some.ensures.is (sym c.in-Err.ensures.keeps) c.in-Err.ensures.fails
    (rw c.octets_of_header.ensures.value at c.in-Err.ensures.counts) refl

use Rattle.std.proofs.Common.{refl, ap, arith, ◌∙◌, length}
use Rattle.der_base.specs.Length.{length_octets, number}
use Rattle.der_c_core.specs.CounterCalls.{refused, ended}
use Rattle.der_c_core.proofs.counter.der_count_end.Goals as goal

pub returns-in-Ok : goal.returns-in-Ok
returns-in-Ok c =
    ended c.add.new.self c.if-counter.false (omega arith)
    (rw (c.octet_count.ensures.octets ∙ ap (λ l. length (length_octets (number l))) c.new-length.ensures) at c.in-Ok.ensures.counts) refl refl

pub returns-in-Err : goal.returns-in-Err
returns-in-Err c =
    refused c.if-counter.false (omega arith) c.in-Err.ensures.fails
    (rw (c.octet_count.ensures.octets ∙ ap (λ l. length (length_octets (number l))) c.new-length.ensures) at c.in-Err.ensures.counts)

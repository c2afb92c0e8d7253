use Rattle.std.proofs.Common.{refl, rules}
use Rattle.der_c_values.specs.ValueCalls.{no_value, value}
use Rattle.der_c_values.proofs.ValueLemmas.{not_true}
use Rattle.der_c_values.proofs.integer.der_read_uint64.Goals as goal

pub returns-in_default-clause-reads : goal.returns-in_default-clause-reads
returns-in_default-clause-reads c =
    no_value c.in-Ok.octets.now _ c.in-Ok.ensures.ok (not_true c.in_default.ensures.some.1) c.refuse_value.ensures.reported c.refuse_value.ensures.stopped refl

pub returns-clause-reads : goal.returns-clause-reads
returns-clause-reads c =
    value c.in-Ok.octets.now c.in-Ok.ensures.ok (search rules) refl c.in-Some.ensures.same

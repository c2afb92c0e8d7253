use Rattle.std.proofs.Common.{refl}
use Rattle.der_c_core.specs.ElementCalls.{skipped}
use Rattle.der_c_core.proofs.ReadLemmas.{element_skips}
use Rattle.der_c_core.proofs.ShortLemmas.{short_octets, short_slice}
use Rattle.der_c_core.proofs.element.der_skip.Goals as goal

pub returns-in-Some-clause-skips : goal.returns-in-Some-clause-skips
returns-in-Some-clause-skips c =
    let p = c.in-Some.ensures in
    skipped p.header _ (short_octets p) p.passed (short_slice p) refl

pub returns-clause-skips : goal.returns-clause-skips
returns-clause-skips c = element_skips c.read_slowly.ensures.reads

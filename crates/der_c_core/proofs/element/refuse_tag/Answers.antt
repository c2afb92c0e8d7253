use Rattle.std.proofs.Common.{refl}
use Rattle.der_c_core.specs.ElementCalls.{unexpected}
use Rattle.der_c_core.proofs.element.refuse_tag.Goals as goal

pub returns-clause-refuses : goal.returns-clause-refuses
returns-clause-refuses c =
    let is = c.is_tag.ensures.some c.if-not-is_tag.false in
    unexpected is.0 is.1 c.unexpected.ensures refl

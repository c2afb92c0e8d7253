use Rattle.std.proofs.Common.{refl}
use Rattle.der_c_core.proofs.ShortLemmas.{short_is_element}
use Rattle.der_c_core.proofs.short.short_element.Goals as goal

pub returns : goal.returns
returns c = short_is_element c.in_ok-header.ensures refl refl c.if-to-reader.false

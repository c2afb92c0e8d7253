use Rattle.der_base.proofs.BodyLemmas.{item_level}
use Rattle.der_base.proofs.laws.no_item_outside_levels.Goals as goal

pub returns : goal.returns
returns c = λ level parts octets h. item_level h

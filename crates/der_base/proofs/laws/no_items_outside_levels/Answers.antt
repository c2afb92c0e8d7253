use Rattle.der_base.proofs.BodyLemmas.{items_level}
use Rattle.der_base.proofs.laws.no_items_outside_levels.Goals as goal

pub returns : goal.returns
returns c = λ level parts octets h. items_level h

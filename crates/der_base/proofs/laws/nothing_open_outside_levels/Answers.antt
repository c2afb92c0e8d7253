use Rattle.der_base.proofs.BodyLemmas.{open_level}
use Rattle.der_base.proofs.laws.nothing_open_outside_levels.Goals as goal

pub returns : goal.returns
returns c = λ level parts octets h. open_level h

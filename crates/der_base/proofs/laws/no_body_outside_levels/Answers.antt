use Rattle.der_base.proofs.BodyLemmas.{body_level}
use Rattle.der_base.proofs.laws.no_body_outside_levels.Goals as goal

pub returns : goal.returns
returns c = λ level parts octets h. body_level h

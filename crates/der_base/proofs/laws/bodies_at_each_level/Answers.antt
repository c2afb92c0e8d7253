use Rattle.der_base.specs.Body.{ends}
use Rattle.der_base.proofs.laws.bodies_at_each_level.Goals as goal

pub returns : goal.returns
returns c level least most = ends (least, most)

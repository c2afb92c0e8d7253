use Rattle.der_core.proofs.LawfulLemmas.{written_is_read}
use Rattle.der_core.proofs.laws.lawful_values_are_read_back.Goals as goal

pub returns-clause-read : goal.returns-clause-read
returns-clause-read g c = λ more short. (written_is_read g.met.T.Lawful.lawful).next c.args.value.now more c.is_value.ensures short

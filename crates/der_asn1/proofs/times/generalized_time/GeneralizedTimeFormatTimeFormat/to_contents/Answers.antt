use Rattle.der_asn1.proofs.TimeLemmas.{generalized_formed}
use Rattle.der_asn1.proofs.times.generalized_time.GeneralizedTimeFormatTimeFormat.to_contents.Goals as goal

pub returns-clause-formed : goal.returns-clause-formed
returns-clause-formed c = generalized_formed c.args.time.now c.requires

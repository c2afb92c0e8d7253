use Rattle.der_asn1.proofs.TimeLemmas.{utc_formed}
use Rattle.der_asn1.proofs.times.utc_time.UtcTimeFormatTimeFormat.to_contents.Goals as goal

pub returns-clause-formed : goal.returns-clause-formed
returns-clause-formed c = utc_formed c.args.time.now c.requires

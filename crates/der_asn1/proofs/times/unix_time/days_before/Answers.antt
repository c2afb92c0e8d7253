use Rattle.std.proofs.Common.{arith}
use Rattle.der_asn1.proofs.UnixTimeLemmas.{days_closed}
use Rattle.der_asn1.proofs.times.unix_time.days_before.Goals as goal

pub returns-clause-value : goal.returns-clause-value
returns-clause-value c = omega (arith, days_closed c.args.year)

use Rattle.std.proofs.Common.{arith, refl}
use Rattle.der_core.proofs.BeforeLemmas.{octets_certain}
use Rattle.der_core.proofs.encode.before.octets_len.Goals as goal

pub returns : goal.returns
returns c = octets_certain c.args.octets.now _ refl (omega (arith, c.if-octets.false))

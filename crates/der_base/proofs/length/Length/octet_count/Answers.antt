use Rattle.std.proofs.Common.{sym, arith}
use Rattle.der_base.proofs.CountLemmas.{length-length_octets}
use Rattle.der_base.proofs.length.Length.octet_count.Goals as goal

pub returns-then-number-clause-octets : goal.returns-then-number-clause-octets
returns-then-number-clause-octets c = sym (length-length_octets 0 c.args.self.inner (omega arith) (omega arith) (omega arith))

pub returns-then-number-2-clause-octets : goal.returns-then-number-2-clause-octets
returns-then-number-2-clause-octets c = sym (length-length_octets 1 c.args.self.inner (omega arith) (omega arith) (omega arith))

pub returns-then-number-3-clause-octets : goal.returns-then-number-3-clause-octets
returns-then-number-3-clause-octets c = sym (length-length_octets 2 c.args.self.inner (omega arith) (omega arith) (omega arith))

pub returns-else-number-3-clause-octets : goal.returns-else-number-3-clause-octets
returns-else-number-3-clause-octets c = sym (length-length_octets 3 c.args.self.inner (omega arith) (omega arith) (omega arith))

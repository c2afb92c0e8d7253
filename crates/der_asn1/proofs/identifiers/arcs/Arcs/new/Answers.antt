use Rattle.std.proofs.Common.{arith}
use Rattle.der_asn1.proofs.ArcLemmas.{below_base, arcs_again}
use Rattle.der_asn1.proofs.identifiers.arcs.Arcs.new.Goals as goal

pub returns-clause-octets : goal.returns-clause-octets
returns-clause-octets c = arcs_again c.args.octets.now (below_base c.args.octets.now (λ i. omega (arith, c.type_inv.octets i))) c.requires

use Rattle.std.proofs.Common.{arith}
use Rattle.der_c_x509.proofs.AssemblyLemmas.{extensions_after, none_after}
use Rattle.der_c_x509.proofs.assembly.certificate.extensions_header.Goals as goal

pub returns-then-count-eq0-clause-some : goal.returns-then-count-eq0-clause-some
returns-then-count-eq0-clause-some c = rw c.if-count-eq0.true none_after

pub returns-clause-some : goal.returns-clause-some
returns-clause-some c =
    rw c.span.ensures (extensions_after c.args.count c.in_ok-length.length.octets.now (omega (arith, c.if-count-eq0.false)) c.in_ok-length.ensures.some)

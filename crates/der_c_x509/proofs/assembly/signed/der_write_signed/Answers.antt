use Rattle.der_c_x509.proofs.AssemblyLemmas.{signed_joined, written_as}
use Rattle.der_c_x509.proofs.assembly.signed.der_write_signed.Goals as goal

pub returns-clause-writes : goal.returns-clause-writes
returns-clause-writes c =
    written_as c.der_write_parts.ensures.writes
    (rw (c.span.ensures, c.span-2.ensures, c.span-3.ensures, c.span-4.ensures, c.span-5.ensures)
    (signed_joined c.args.part.now c.args.algorithm.now c.args.signature.now c.in-Some.length.octets.now c.in-Some.ensures.some))

use Rattle.std.proofs.Common.{◌≡◌, [], refl}
use Rattle.der_c_x509.proofs.AssemblyLemmas.{no_octets, request_joined, some_octets, written_as}
use Rattle.der_c_x509.proofs.assembly.request.der_write_request_part.Goals as goal

pub returns-then-is_empty-clause-writes : goal.returns-then-is_empty-clause-writes
returns-then-is_empty-clause-writes c =
    let none : c.args.extensions.now ≡ [] = no_octets c.args.extensions.now c.is_empty.ensures c.if-is_empty.true in
    written_as c.der_write_parts.ensures.writes
    (rw (c.span.ensures, c.span-then-is_empty.ensures, c.span-then-is_empty-2.ensures, c.span-then-is_empty-3.ensures, none) refl)

pub returns-clause-writes : goal.returns-clause-writes
returns-clause-writes c =
    written_as c.der_write_parts-2.ensures.writes
    (rw (c.span-2.ensures, c.span-3.ensures, c.span-4.ensures, c.span-5.ensures, c.span-6.ensures, c.span-7.ensures, c.span-8.ensures, c.span-9.ensures)
    (request_joined c.args.subject.now c.args.public_key.now c.args.extensions.now c.in-Some.values.octets.now c.in-Some-length_span.attribute.octets.now c.in-Some-length_span-2.attributes.octets.now
    (some_octets c.args.extensions.now c.is_empty.ensures c.if-is_empty.false)
    c.in-Some.ensures.some c.in-Some-length_span.ensures.some c.in-Some-length_span-2.ensures.some))

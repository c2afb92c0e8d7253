use Rattle.std.proofs.Common.{◌≡◌, ap, rules, arith}
use Rattle.der_base.specs.Length.{number}
use Rattle.der_base.proofs.LengthLemmas.{length_octets_few}
use Rattle.der_c_x509.proofs.assembly.length.length_span.Goals as goal

pub returns-in-Err-clause-none : goal.returns-in-Err-clause-none
returns-in-Err-clause-none c =
    let count : number c.new.result ≡ c.args.count = ap number c.new.ensures in
    let few = length_octets_few (number c.new.result) (omega (arith, count)) in
    let fits = c.encode_to_slice.ensures.succeeds tt (omega (arith, few)) (omega (arith, few, c.fits-space)) in
    absurd (search (rules, fits))

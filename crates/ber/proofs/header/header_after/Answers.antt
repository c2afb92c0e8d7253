use Rattle.std.proofs.Common.{arith}
use Rattle.std.proofs.lemmas.Result.{err_from_is_err_and}
use Rattle.ber.proofs.HeaderLemmas.{header_next, header_fault}
use Rattle.ber.proofs.header.header_after.Goals as goal

pub returns-in_err-size-clause-fault : goal.returns-in_err-size-clause-fault
returns-in_err-size-clause-fault c =
    let p = err_from_is_err_and c.from_residual.result c.from_residual.ensures.1 in
    rw (p.1, p.2) (header_fault c.has_constructed_bit-constructed.result c.args.first c.args.number c.args.at c.args.after.now c.in_err-size.field-0.0 c.has_constructed_bit-constructed.ensures (omega arith) c.requires.known c.in_err-size.ensures.fault)

pub returns-clause-found : goal.returns-clause-found
returns-clause-found c =
    header_next c.from_bits.result c.has_constructed_bit-constructed.result c.args.first c.args.number c.args.at c.in_ok-size.size c.args.after.now c.from_bits.ensures c.has_constructed_bit-constructed.ensures (omega arith) c.requires.known c.in_ok-size.ensures.found

use Rattle.std.proofs.Common.{◌≡◌, ◌%◌, get_or, arith}
use Rattle.std.proofs.lemmas.Result.{err_from_is_err_and}
use Rattle.ber.specs.Fault.{no_octets, no_number}
use Rattle.ber.proofs.ListLemmas.{first_of, none_of}
use Rattle.ber.proofs.HeaderLemmas.{fault_on, tag_number_few}
use Rattle.ber.proofs.header.any_header.Goals as goal

pub returns-in_err-number-in-len1-up-2-clause-fault : goal.returns-in_err-number-in-len1-up-2-clause-fault
returns-in_err-number-in-len1-up-2-clause-fault c =
    let octets = c.args.octets.now in
    let p = err_from_is_err_and c.from_residual.result c.from_residual.ensures.1 in
    let set : get_or octets 0 0 % 32 ≡ 31 = omega (arith, c.if-first-lt31.false) in
    rw (p.1, p.2) (fault_on (first_of octets c.in-len1-up.len_at_least) (no_number (get_or octets 0 0) (omega (arith, c.type_inv.octets 0)) set c.in_err-number-in-len1-up-2.ensures.fault))

pub header_after-requires-in-len1-up-2-clause-near : goal.header_after-requires-in-len1-up-2-clause-near
header_after-requires-in-len1-up-2-clause-near c = omega (arith, tag_number_few c.in_ok-number-in-len1-up-2.ensures.found)

pub returns-in-empty-clause-fault : goal.returns-in-empty-clause-fault
returns-in-empty-clause-fault c = rw c.truncated.ensures (fault_on (none_of c.args.octets.now c.in-empty.len_below) no_octets)

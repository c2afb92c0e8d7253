use Rattle.std.proofs.Common.{Ok, drop, get_or}
use Rattle.ber.proofs.ListLemmas.{two_of}
use Rattle.ber.proofs.HeaderLemmas.{header_short}
use Rattle.ber.proofs.FaultLemmas.{result_within, result_none, result_complete, result_refused}
use Rattle.ber.proofs.header.read_header.Goals as goal

pub returns-in-len2-up-clause-found : goal.returns-in-len2-up-clause-found
returns-in-len2-up-clause-found c =
    let octets = c.args.octets.now in
    header_short c.from_bits.result c.has_constructed_bit.result (get_or octets 0 0) (get_or octets 1 0) (drop 2 octets) octets (two_of octets c.in-len2-up.len_at_least) c.from_bits.ensures c.has_constructed_bit.ensures c.if-first-lt31.true c.if-size-lt128.true

pub returns-in-len2-up-clause-complete : goal.returns-in-len2-up-clause-complete
returns-in-len2-up-clause-complete c = result_complete c.args.octets.now (Ok _) (returns-in-len2-up-clause-found c) tt

pub returns-in-len2-up-clause-refused : goal.returns-in-len2-up-clause-refused
returns-in-len2-up-clause-refused c = result_refused c.args.octets.now (Ok _) (returns-in-len2-up-clause-found c) tt

pub returns-in_default-clause-none : goal.returns-in_default-clause-none
returns-in_default-clause-none c = result_none c.args.octets.now c.any_header.result c.any_header.ensures.fault

pub returns-in_default-clause-complete : goal.returns-in_default-clause-complete
returns-in_default-clause-complete c = result_complete c.args.octets.now c.any_header.result c.any_header.ensures.found c.any_header.ensures.fault

pub returns-in_default-clause-refused : goal.returns-in_default-clause-refused
returns-in_default-clause-refused c = result_refused c.args.octets.now c.any_header.result c.any_header.ensures.found c.any_header.ensures.fault

pub returns-in_default-clause-within : goal.returns-in_default-clause-within
returns-in_default-clause-within c = result_within c.args.octets.now c.any_header.result c.any_header.ensures.found

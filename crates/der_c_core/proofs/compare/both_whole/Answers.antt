use Rattle.std.proofs.Common.{inl}
use Rattle.der_c_core.proofs.CompareLemmas.{second_refused}
use Rattle.der_c_core.proofs.compare.both_whole.Goals as goal

pub returns-in-Ok-clause-refused : goal.returns-in-Ok-clause-refused
returns-in-Ok-clause-refused c = second_refused c.args.second.now c.whole-in-Ok.result c.in-Ok.ensures.ok c.whole-in-Ok.ensures.refused

pub returns-in-Err-clause-refused : goal.returns-in-Err-clause-refused
returns-in-Err-clause-refused c = inl c.in-Err.ensures.refused

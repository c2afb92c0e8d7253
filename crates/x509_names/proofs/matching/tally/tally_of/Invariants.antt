use Rattle.x509_names.specs.Constraints.{Answers}
use Rattle.x509_names.proofs.matching.tally.tally_of.Given as goal

abbrev pub invariant-subtrees : goal.invariant-subtrees
invariant-subtrees l = Answers l.name l.yielded (record { concerned = l.concerned; within = l.within; partly = l.partly; unclear = l.unclear })

use Rattle.std.proofs.Common.{take}
use Rattle.x509_path.proofs.PolicyNoteLemmas.{AreFromNotes}
use Rattle.x509_path.proofs.judged_policies.fill_facts.Given as goal

abbrev pub invariant-loop-at : goal.invariant-loop-at
invariant-loop-at l = AreFromNotes l.policies l.mappings (take l.at l.notes) (take l.at l.facts)

use Rattle.path_rules.proofs.RefusalLemmas.{empty_has_none, policy_fault_refutes}
use Rattle.path_rules.proofs.laws.refuses_policies_rightly.Goals as goal

pub returns : goal.returns
returns c = record { fault = policy_fault_refutes; empty = empty_has_none }

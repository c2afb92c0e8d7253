use Rattle.std.proofs.Common.{◌≤◌, [], length, take}
use Rattle.path_rules.specs.Counters.{first_counters}
use Rattle.path_rules.specs.PolicyRules.{KeepIssuers, entries, onto}
use Rattle.path_rules.specs.States.{IsState}
use Rattle.path_rules.proofs.policy_path.walk.Given as goal

abbrev pub invariant-loop-at : goal.invariant-loop-at
invariant-loop-at l =
    record {
      fits : l.state.count ≤ length l.expected;
      few : l.state.count ≤ entries (take l.at l.path);
      kept : KeepIssuers (first_counters l.inputs (length l.path)) l.inputs.allowed.now [] (take l.at l.path);
      is : IsState (first_counters l.inputs (length l.path)) l.inputs.allowed.now (onto [] (take l.at l.path)) l.state (take l.state.count l.expected);
    }

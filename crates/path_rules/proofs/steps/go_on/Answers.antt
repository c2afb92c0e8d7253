use Rattle.std.proofs.Common.{IsTrue, refl}
use Rattle.path_rules.proofs.StateLemmas.{state_is}
use Rattle.path_rules.proofs.steps.go_on.Goals as goal

pub returns-clause-passed : goal.returns-clause-passed
returns-clause-passed c =
    λ start before expected is depth.
    state_is start c.args.inputs.now.allowed.now c.args.facts.now before c.args.state c.args.depth _ expected c.args.nodes.now c.args.room.now c.put_expected.new.room _
    (IsTrue c.is_above_zero-may_map.result) c.is_above_zero-may_map.ensures c.next_counters-counters.ensures refl c.in-Some.ensures.some is depth

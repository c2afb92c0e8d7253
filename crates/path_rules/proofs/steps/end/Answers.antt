use Rattle.std.proofs.Common.{take, true}
use Rattle.path_rules.proofs.GrowthLemmas.{via}
use Rattle.path_rules.proofs.StateLemmas.{exists_same, first_same, keeps_same}
use Rattle.path_rules.proofs.steps.end.Goals as goal

pub returns-in-Some-broken-clause-ended : goal.returns-in-Some-broken-clause-ended
returns-in-Some-broken-clause-ended c =
    λ start before is.
    (let depth = c.in-Some.ensures.some start before is in
    first_same _ _ c.in-Some-broken.rule
    (keeps_same start c.args.inputs.now.allowed.now true c.args.facts.now before c.args.state c.in-Some.depth c.args.expected.now (take c.in-Some.depth.count c.depth_of.new.room) is depth)
    c.in-Some-broken.ensures)

pub returns-clause-ended : goal.returns-clause-ended
returns-clause-ended c =
    λ start before is.
    (let depth = c.in-Some.ensures.some start before is in (
      λ r. (keeps_same start c.args.inputs.now.allowed.now true c.args.facts.now before c.args.state c.in-Some.depth c.args.expected.now (take c.in-Some.depth.count c.depth_of.new.room) is depth r).0
          (c.in_default-broken.ensures r),
      record { any = depth.any; allowed_node = via c.has_allowed_nodes-has_allowed.ensures (exists_same _ _ depth.mine) },
    ))

use Rattle.std.proofs.Common.{false, take}
use Rattle.path_rules.proofs.StateLemmas.{first_same, keeps_same, passed_is}
use Rattle.path_rules.proofs.steps.pass.Goals as goal

pub returns-in-Some-broken-clause-passed : goal.returns-in-Some-broken-clause-passed
returns-in-Some-broken-clause-passed c =
    λ start before is.
    (let depth = c.in-Some.ensures.some start before is in
    first_same _ _ c.in-Some-broken.rule
    (keeps_same start c.args.inputs.now.allowed.now false c.args.facts.now before c.args.state c.in-Some.depth (take c.args.state.count c.args.expected.now) (take c.in-Some.depth.count c.depth_of.new.room) is depth)
    c.in-Some-broken.ensures)

pub returns-clause-passed : goal.returns-clause-passed
returns-clause-passed c =
    λ start before is.
    (let depth = c.in-Some.ensures.some start before is in
    let same = keeps_same start c.args.inputs.now.allowed.now false c.args.facts.now before c.args.state c.in-Some.depth (take c.args.state.count c.args.expected.now) (take c.in-Some.depth.count c.depth_of.new.room) is depth in
    passed_is start c.args.inputs.now.allowed.now c.args.facts.now before c.go_on.new.room c.go_on.result
    (c.go_on.ensures.passed start before _ is depth)
    (λ r. (same r).0 (c.in_default-broken.ensures r)))

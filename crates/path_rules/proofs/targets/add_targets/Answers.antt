use Rattle.std.proofs.Common.{IsTrue, arith, length}
use Rattle.path_rules.proofs.GrowthLemmas.{fills_as, fills_then, target_more, target_taken}
use Rattle.path_rules.specs.Nodes.{HasAllowed, HasNode}
use Rattle.path_rules.specs.Policies.{Allows}
use Rattle.path_rules.specs.PolicyGraph.{Everyone, IsSource}
use Rattle.path_rules.proofs.targets.add_targets.Goals as goal

pub loop-mapping-preserved : goal.loop-mapping-preserved
loop-mapping-preserved c =
    let ms = c.args.mappings.now in
    let i = c.loop-mapping.mapping-index in
    let nodes = c.args.nodes.now in
    fills_then c.args.room.now c.loop-mapping.room c.add_one_target.new.room c.args.start c.loop-mapping.count c.in_ok-count.count i 1 _ _ _ _ _ _ (omega arith) c.loop-mapping.invariant c.in_ok-count.ensures.some
    (λ p. target_more (IsSource (IsTrue c.args.has_any) Everyone (HasNode nodes) (HasNode nodes)) ms i _ p c.loop-mapping-test.true)
    (λ p. target_more (IsSource (IsTrue c.args.has_any) (Allows c.args.allowed.now) (HasAllowed nodes) (HasNode nodes)) ms i _ p c.loop-mapping-test.true)

pub returns-clause-some : goal.returns-clause-some
returns-clause-some c =
    let ms = c.args.mappings.now in
    let i = c.loop-mapping.mapping-index in
    let nodes = c.args.nodes.now in
    fills_as c.args.room.now c.loop-mapping.room c.args.start c.loop-mapping.count i (length ms) _ _ _ _ c.loop-mapping.invariant (omega arith)
    (λ p. target_taken (IsSource (IsTrue c.args.has_any) Everyone (HasNode nodes) (HasNode nodes)) ms i p c.loop-mapping-test.false)
    (λ p. target_taken (IsSource (IsTrue c.args.has_any) (Allows c.args.allowed.now) (HasAllowed nodes) (HasNode nodes)) ms i p c.loop-mapping-test.false)

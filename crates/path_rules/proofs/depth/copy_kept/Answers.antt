use Rattle.std.proofs.Common.{arith, length}
use Rattle.path_rules.proofs.GrowthLemmas.{Is, IsAllowed, fills_as, fills_then, pair_more, pair_taken}
use Rattle.path_rules.specs.Growth.{IsKept}
use Rattle.path_rules.proofs.depth.copy_kept.Goals as goal

pub loop-node-preserved : goal.loop-node-preserved
loop-node-preserved c =
    let nodes = c.args.nodes.now in
    let i = c.loop-node.node-index in
    fills_then c.args.room.now c.loop-node.room c.copy_one.new.room 0 c.loop-node.count c.in_ok-count.count i 1 _ _ _ _ _ _ (omega arith) c.loop-node.invariant c.in_ok-count.ensures.some
    (λ p. pair_more (IsKept c.args.filter.now p) (λ n. Is n p) nodes i _ c.loop-node-test.true)
    (λ p. pair_more (IsKept c.args.filter.now p) (λ n. IsAllowed n p) nodes i _ c.loop-node-test.true)

pub returns-clause-some : goal.returns-clause-some
returns-clause-some c =
    let nodes = c.args.nodes.now in
    let i = c.loop-node.node-index in
    fills_as c.args.room.now c.loop-node.room 0 c.loop-node.count i (length nodes) _ _ _ _ c.loop-node.invariant (omega arith)
    (λ p. pair_taken (IsKept c.args.filter.now p) (λ n. Is n p) nodes i c.loop-node-test.false)
    (λ p. pair_taken (IsKept c.args.filter.now p) (λ n. IsAllowed n p) nodes i c.loop-node-test.false)

use Rattle.std.proofs.Common.{◌≡◌, IsTrue, arith, false, length, true}
use Rattle.path_rules.proofs.GraphLemmas.{fills_both, nodes_with, nodes_without}
use Rattle.path_rules.proofs.GrowthLemmas.{fills_as}
use Rattle.path_rules.proofs.nodes.put_nodes.Goals as goal

pub returns-then-any_before-clause-some : goal.returns-then-any_before-clause-some
returns-then-any_before-clause-some c =
    fills_both c.args.room.now c.copy_kept.new.room c.add_fresh.new.room c.in_ok-count.count _ _ c.add_fresh.result _ _ _ _ _ _ (omega arith) c.in_ok-count.ensures.some c.add_fresh.ensures.some
    (λ p. nodes_with (c.node_filter-filter.ensures p) c.if-any_before.true (λ f. (f, tt), λ h. h.0))
    (λ p. nodes_with (c.node_filter-filter.ensures p) c.if-any_before.true (λ f. f, λ f. f))

pub returns-clause-some : goal.returns-clause-some
returns-clause-some c =
    let never : IsTrue c.args.any_before → ⊥ = λ h. (let contrary : true ≡ false = cc in cc) in
    fills_as c.args.room.now c.copy_kept.new.room 0 c.in_ok-count.count (length c.args.expected.now) _ _ _ _ _ c.in_ok-count.ensures.some (omega arith)
    (λ p. nodes_without (c.node_filter-filter.ensures p) never)
    (λ p. nodes_without (c.node_filter-filter.ensures p) never)

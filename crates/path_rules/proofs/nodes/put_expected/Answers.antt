use Rattle.std.proofs.Common.{◌≡◌, IsTrue, arith, false, length, true}
use Rattle.path_rules.proofs.GraphLemmas.{expected_with, expected_without, fills_both}
use Rattle.path_rules.proofs.GrowthLemmas.{fills_as}
use Rattle.path_rules.proofs.nodes.put_expected.Goals as goal

pub returns-then-may_map-clause-some : goal.returns-then-may_map-clause-some
returns-then-may_map-clause-some c =
    fills_both c.args.room.now c.copy_kept.new.room c.add_targets.new.room c.in_ok-count.count _ _ c.add_targets.result _ _ _ _ _ _ (omega arith) c.in_ok-count.ensures.some c.add_targets.ensures.some
    (λ p. expected_with c.if-may_map.true)
    (λ p. expected_with c.if-may_map.true)

pub returns-clause-some : goal.returns-clause-some
returns-clause-some c =
    let never : IsTrue c.args.may_map → ⊥ = λ h. (let contrary : true ≡ false = cc in cc) in
    fills_as c.args.room.now c.copy_kept.new.room 0 c.in_ok-count.count (length c.args.nodes.now) _ _ _ _ _ c.in_ok-count.ensures.some (omega arith)
    (λ p. expected_without never)
    (λ p. expected_without never)

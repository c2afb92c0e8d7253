use Rattle.std.proofs.Common.{rules}
use Rattle.path_rules.proofs.GrowthLemmas.{Is, IsAllowed, fills_push, kept_is}
use Rattle.path_rules.specs.Growth.{IsKept}
use Rattle.path_rules.proofs.depth.copy_one.Goals as goal

pub returns-then-is_kept-clause-some : goal.returns-then-is_kept-clause-some
returns-then-is_kept-clause-some c =
    let f = c.args.filter.now in
    let n = c.args.node in
    let kept : IsKept f n.policy.now = c.is_kept.ensures.0 (search rules) in
    fills_push c.args.room.now c.push.new.room n c.args.count c.push.result (λ p. IsKept f p × Is n p) (λ p. IsKept f p × IsAllowed n p) c.push.ensures.some
    (kept_is f n.policy.now (Is n) kept (λ p e. e)) (kept_is f n.policy.now (IsAllowed n) kept (λ p h. h.0))

use Rattle.path_rules.proofs.GrowthLemmas.{fills_push}
use Rattle.path_rules.proofs.targets.add_one_target.Goals as goal

pub returns-in-Some-clause-some : goal.returns-in-Some-clause-some
returns-in-Some-clause-some c =
    let found = c.in-Some.ensures.some in
    fills_push c.args.room.now c.push.new.room _ c.args.count c.push.result _ _ c.push.ensures.some
    (λ p. (λ e. (e, found.0), λ h. h.0))
    (λ p. (λ h. (h.0, found.1.0 h.1), λ h. (h.0, found.1.1 h.1)))

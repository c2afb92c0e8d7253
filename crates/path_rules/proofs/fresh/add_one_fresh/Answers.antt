use Rattle.std.proofs.Common.{◌≢◌, rules}
use Rattle.path_rules.proofs.GrowthLemmas.{fills_push, only_at, only_if}
use Rattle.path_rules.specs.Nodes.{HasNode}
use Rattle.path_rules.specs.Policies.{Allows, Policy}
use Rattle.path_rules.specs.declared.policies.TheConstants.{ANY_POLICY}
use Rattle.path_rules.proofs.fresh.add_one_fresh.Goals as goal

pub returns-clause-some : goal.returns-clause-some
returns-clause-some c =
    let q = c.args.policy.now in
    let none : HasNode c.args.expected.now q → ⊥ = search rules in
    let other : q ≢ ANY_POLICY = search rules in
    let New : Policy → Type 0 = λ p. (p ≢ ANY_POLICY) × (HasNode c.args.expected.now p → ⊥) in
    fills_push c.args.room.now c.push.new.room _ c.args.count c.push.result _ _ c.push.ensures.some
    (only_at q New (other, none))
    (only_if q c.allows-is_allowed.result New (Allows c.args.allowed.now) (other, none) (search rules) (search rules))

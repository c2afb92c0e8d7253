use Rattle.std.proofs.Common.{◌≡◌, ◌≢◌, arith, length}
use Rattle.path_rules.proofs.GrowthLemmas.{also_more, also_taken, fills_as, fills_then, fresh_more, fresh_taken}
use Rattle.path_rules.specs.Nodes.{HasNode}
use Rattle.path_rules.specs.Policies.{Policy}
use Rattle.path_rules.specs.declared.policies.TheConstants.{ANY_POLICY}
use Rattle.path_rules.proofs.fresh.add_fresh.Goals as goal

pub loop-policy-preserved : goal.loop-policy-preserved
loop-policy-preserved c =
    let ps = c.args.policies.now in
    let i = c.loop-policy.policy-index in
    let more = λ (p : Policy). fresh_more (p ≢ ANY_POLICY) (HasNode c.args.expected.now p → ⊥) (λ q. q.now ≡ p) ps i _ c.loop-policy-test.true in
    fills_then c.args.room.now c.loop-policy.room c.add_one_fresh.new.room c.args.start c.loop-policy.count c.in_ok-count.count i 1 _ _ _ _ _ _ (omega arith) c.loop-policy.invariant c.in_ok-count.ensures.some
    (λ p. more p)
    (λ p. also_more (more p))

pub returns-clause-some : goal.returns-clause-some
returns-clause-some c =
    let ps = c.args.policies.now in
    let i = c.loop-policy.policy-index in
    fills_as c.args.room.now c.loop-policy.room c.args.start c.loop-policy.count i (length ps) _ _ _ _ c.loop-policy.invariant (omega arith)
    (λ p. fresh_taken _ _ (λ q. q.now ≡ p) ps i c.loop-policy-test.false)
    (λ p. also_taken (fresh_taken _ _ (λ q. q.now ≡ p) ps i c.loop-policy-test.false))

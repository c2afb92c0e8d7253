use Rattle.std.proofs.Common.{◌≡◌, ◌≢◌, [], ◌∷◌, false, length, true}
use Rattle.path_rules.proofs.RefusalLemmas.{empty_has_none}
use Rattle.path_rules.proofs.SetLemmas.{any_in, fault_lacks, other_in, same_path}
use Rattle.path_rules.specs.Counters.{first_counters}
use Rattle.path_rules.specs.PolicyRules.{onto}
use Rattle.path_rules.specs.declared.policies.TheConstants.{ANY_POLICY}
use Rattle.path_rules.proofs.policy_sets.is_authority_policy.Goals as goal

pub returns-then-is_any_policy : goal.returns-then-is_any_policy
returns-then-is_any_policy c =
    let p = c.args.path.now in
    let start = first_counters c.args.inputs.now (length p) in
    let found = c.in-Valid.ensures in
    λ holds.
    same_path start (c.args.policy ∷ []) c.args.inputs.now.allowed.now p c.in-Valid.valid.has_any_policy c.args.policy.now found.0 holds
    (any_in start c.args.policy c.in-Valid.valid found.0.target (onto [] found.0.issuers) (c.is_any_policy.ensures.0 c.if-is_any_policy.true) found.1)

pub returns-else-is_any_policy : goal.returns-else-is_any_policy
returns-else-is_any_policy c =
    let p = c.args.path.now in
    let start = first_counters c.args.inputs.now (length p) in
    let found = c.in-Valid.ensures in
    let other : c.args.policy.now ≢ ANY_POLICY =
    λ e. (let is : c.is_any_policy.result ≡ true = c.is_any_policy.ensures.1 e in let contrary : true ≡ false = cc in cc) in
    λ holds.
    same_path start (c.args.policy ∷ []) c.args.inputs.now.allowed.now p c.in-Valid.valid.has_allowed c.args.policy.now found.0 holds
    (other_in start c.args.policy c.in-Valid.valid found.0.target (onto [] found.0.issuers) other found.1)

pub returns-in-Broken : goal.returns-in-Broken
returns-in-Broken c =
    let p = c.args.path.now in
    let start = first_counters c.args.inputs.now (length p) in
    λ holds. (
      λ e. absurd (let contrary : false ≡ true = e in cc),
      λ h. absurd (fault_lacks start c.args.inputs.now.allowed.now c.args.policy _ p c.in-Broken.ensures holds h),
    )

pub returns-in-Empty : goal.returns-in-Empty
returns-in-Empty c =
    let p = c.args.path.now in
    λ holds. absurd (empty_has_none (first_counters c.args.inputs.now (length p)) c.args.inputs.now.allowed.now p c.in-Empty.ensures holds)

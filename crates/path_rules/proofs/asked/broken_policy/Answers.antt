use Rattle.std.proofs.Common.{◌≡◌, false, true}
use Rattle.path_rules.proofs.AskedLemmas.{allowed_first, every_policy_rule, explicit_first, mapping_first}
use Rattle.path_rules.proofs.asked.broken_policy.Goals as goal

pub returns-then-not-has_policy : goal.returns-then-not-has_policy
returns-then-not-has_policy c =
    explicit_first _ (λ h. (let kept : c.has_policy.result ≡ true = c.has_policy.ensures.1 h in let contrary : true ≡ false = cc in cc))

pub returns-then-not-maps_no_any : goal.returns-then-not-maps_no_any
returns-then-not-maps_no_any c =
    mapping_first _ (c.has_policy.ensures.0 c.if-not-has_policy.false)
    (λ h. (let kept : c.maps_no_any.result ≡ true = c.maps_no_any.ensures.1 h in let contrary : true ≡ false = cc in cc))

pub returns-then-not-has_allowed_end : goal.returns-then-not-has_allowed_end
returns-then-not-has_allowed_end c =
    allowed_first _ (c.has_policy.ensures.0 c.if-not-has_policy.false) (c.maps_no_any.ensures.0 c.if-not-maps_no_any.false)
    (λ h. (let kept : c.has_allowed_end.result ≡ true = c.has_allowed_end.ensures.1 h in let contrary : true ≡ false = cc in cc))

pub returns : goal.returns
returns c =
    every_policy_rule _ (c.has_policy.ensures.0 c.if-not-has_policy.false) (c.maps_no_any.ensures.0 c.if-not-maps_no_any.false)
    (c.has_allowed_end.ensures.0 c.if-not-has_allowed_end.false)

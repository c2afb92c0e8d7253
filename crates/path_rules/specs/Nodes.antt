-- The nodes of one depth, as a list in the room of the caller.
use Rattle.std.specs.Prelude.{◌≡◌, true, List, Any}
use Rattle.path_rules.specs.Policies.{Policy}
use Rattle.path_rules.specs.declared.node.Node.{Node}

-- one of the nodes has this policy
abbrev pub HasNode : List Node → Policy → Type 0
HasNode nodes p = Any (λ n. n.policy.now ≡ p) nodes

-- one of the nodes that are allowed has this policy
abbrev pub HasAllowed : List Node → Policy → Type 0
HasAllowed nodes p = Any (λ n. (n.policy.now ≡ p) × (n.is_allowed ≡ true)) nodes

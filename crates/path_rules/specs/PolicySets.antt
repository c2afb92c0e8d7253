-- The authority-constrained policy set of a path (RFC 9618, 6.1.5 (g)): `IsAuthorityPolicy`. A policy
-- is in it if a node at the end grows from it, below anyPolicy; and anyPolicy is in it if it is a
-- node at the end itself.
use Rattle.std.specs.Prelude.{◌≡◌, ◌≢◌, ◌⊎◌, true, List, ◌∷◌}
use Rattle.path_rules.specs.Policies.{Policy}
use Rattle.path_rules.specs.PolicyGraph.{HasAny, IsNode}
use Rattle.path_rules.specs.PolicyRules.{Exists}
use Rattle.path_rules.specs.declared.counters.Counters.{Counters}
use Rattle.path_rules.specs.declared.policies.TheConstants.{ANY_POLICY}
use Rattle.path_rules.specs.declared.policy_facts.PolicyFacts.{PolicyFacts}

abbrev pub IsAuthorityPolicy : Counters → PolicyFacts → List PolicyFacts → Policy → Type 0
IsAuthorityPolicy start target before p =
    ((p ≡ ANY_POLICY) × HasAny start true (target ∷ before))
    ⊎ ((p ≢ ANY_POLICY) × Exists (IsNode start (λ r. r ≡ p) true target before))

-- What is known of the policy graph between two certificates (`IsState`), and at a certificate
-- (`IsDepth`), with the nodes of the room.
use Rattle.std.specs.Prelude.{◌≡◌, ◌↔◌, Bool, false, List, ◌∷◌, IsTrue}
use Rattle.std.specs.Borrow.{Bor}
use Rattle.path_rules.specs.Counters.{counters}
use Rattle.path_rules.specs.Nodes.{HasAllowed, HasNode}
use Rattle.path_rules.specs.Policies.{Allows, Policy}
use Rattle.path_rules.specs.PolicyGraph.{Everyone, HasAny, IsExpected, IsNode}
use Rattle.path_rules.specs.declared.counters.Counters.{Counters}
use Rattle.path_rules.specs.declared.node.Node.{Node}
use Rattle.path_rules.specs.declared.policy_facts.PolicyFacts.{PolicyFacts}
use Rattle.path_rules.specs.declared.state.Depth.{Depth}
use Rattle.path_rules.specs.declared.state.State.{State}

-- after these certificates: the counters, whether anyPolicy is a node, and the policies that nodes
-- expect, in the whole graph and in that of the policies that the user allows
pub record IsState (start : Counters) (allowed : List (Bor Policy)) (before : List PolicyFacts)
    (s : State) (expected : List Node) : Type 0 where
  pub counts : s.counters ≡ counters start before
  pub any : IsTrue s.has_any ↔ HasAny start false before
  pub known : (p : Policy) → HasNode expected p ↔ IsExpected start Everyone before p
  pub mine : (p : Policy) → HasAllowed expected p ↔ IsExpected start (Allows allowed) before p

-- at the depth of a certificate: whether anyPolicy is a node, and the other nodes
pub record IsDepth (start : Counters) (allowed : List (Bor Policy)) (last : Bool)
    (c : PolicyFacts) (before : List PolicyFacts) (d : Depth) (nodes : List Node) : Type 0 where
  pub any : IsTrue d.has_any ↔ HasAny start last (c ∷ before)
  pub known : (p : Policy) → HasNode nodes p ↔ IsNode start Everyone last c before p
  pub mine : (p : Policy) → HasAllowed nodes p ↔ IsNode start (Allows allowed) last c before p

-- How lists of nodes grow in the room of the caller.
use Rattle.std.specs.Prelude.{◌↔◌, ◌⊎◌, ◌≤◌, ◌+◌, ℕ, List, length, take}
use Rattle.std.specs.Borrow.{Bor}
use Rattle.path_rules.specs.Nodes.{HasAllowed, HasNode}
use Rattle.path_rules.specs.Policies.{Asserts, IsMapped, Maps, Policy, PolicySet}
use Rattle.path_rules.specs.PolicyGraph.{IsSource}
use Rattle.path_rules.specs.declared.filter.Filter.{Filter}
use Rattle.path_rules.specs.declared.filter.Filter.TheVariants.{All, Asserted, Unmapped}
use Rattle.path_rules.specs.declared.mapping.Mapping.{Mapping}
use Rattle.path_rules.specs.declared.node.Node.{Node}

-- a node with this policy is kept
abbrev pub IsKept : Filter → Policy → Type 0
IsKept All p = Unit {0}
IsKept (Asserted policies) p = Asserts policies.now p
IsKept (Unmapped mappings) p = IsMapped mappings.now p → ⊥

-- the nodes after are the nodes before and those of these policies; and so are those that are allowed
pub record Grows (before after : List Node) (Known Allowed : PolicySet) : Type 0 where
  pub known : (p : Policy) → HasNode after p ↔ (HasNode before p ⊎ Known p)
  pub allowed : (p : Policy) → HasAllowed after p ↔ (HasAllowed before p ⊎ Allowed p)

-- the front of a room grows from one count to another, by this many at most
pub record Fills (old new : List Node) (from to most : ℕ) (Known Allowed : PolicySet) : Type 0 where
  pub grows : Grows (take from old) (take to new) Known Allowed
  pub fits : to ≤ length old
  pub few : to ≤ from + most

-- of a list of policies, those that are not anyPolicy and that no node expects
abbrev pub IsFresh : List Node → List (Bor Policy) → Policy → Type 0
IsFresh expected policies p = Asserts policies p × (HasNode expected p → ⊥)

-- what the nodes are mapped to, and what anyPolicy is, of the policies that `User` allows
abbrev pub IsTarget : Type 0 → List Mapping → PolicySet → PolicySet → PolicySet → PolicySet
IsTarget AnyHere mappings User Node Known p =
    (q : Policy) × Maps mappings q p × IsSource AnyHere User Node Known q

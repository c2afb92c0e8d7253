-- Policies as octets, and lists of them (RFC 5280, 4.2.1.4 and 4.2.1.5).
use Rattle.std.specs.Prelude.{◌≡◌, ◌≢◌, ◌⊎◌, ℕ, List, Any}
use Rattle.std.specs.Borrow.{Bor}
use Rattle.path_rules.specs.declared.mapping.Mapping.{Mapping}
use Rattle.path_rules.specs.declared.policies.TheConstants.{ANY_POLICY}

-- the contents octets of the OBJECT IDENTIFIER of a policy
abbrev pub Policy : Type 0
Policy = List ℕ

-- a set of policies
abbrev pub PolicySet : Type 1
PolicySet = Policy → Type 0

abbrev pub IsAnyPolicy : Policy → Type 0
IsAnyPolicy p = p ≡ ANY_POLICY

-- a list has a policy
abbrev pub IsIn : List (Bor Policy) → Policy → Type 0
IsIn policies p = Any (λ q. q.now ≡ p) policies

-- a list has a policy that is not anyPolicy
abbrev pub Asserts : List (Bor Policy) → Policy → Type 0
Asserts policies p = (p ≢ ANY_POLICY) × IsIn policies p

-- the user-initial-policy-set has a policy, or anyPolicy (6.1.1 (c))
abbrev pub Allows : List (Bor Policy) → Policy → Type 0
Allows allowed p = IsIn allowed ANY_POLICY ⊎ IsIn allowed p

-- a policy is mapped
abbrev pub IsMapped : List Mapping → Policy → Type 0
IsMapped mappings p = Any (λ m. m.issuer.now ≡ p) mappings

-- a policy is mapped to another
abbrev pub Maps : List Mapping → Policy → Policy → Type 0
Maps mappings p q = Any (λ m. (m.issuer.now ≡ p) × (m.subject.now ≡ q)) mappings

-- anyPolicy is mapped, or a policy is mapped to it
abbrev pub MapsAny : List Mapping → Type 0
MapsAny mappings = Any (λ m. IsAnyPolicy m.issuer.now ⊎ IsAnyPolicy m.subject.now) mappings

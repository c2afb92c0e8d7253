-- The rules for the policies of a path (`KeepsPolicies`), paths that keep them (`PoliciesHold`), and
-- what the answers of the code mean (`IsPolicyAnswer`).
use Rattle.std.specs.Prelude.{◌≡◌, ◌↔◌, ◌⊎◌, ◌<◌, ◌+◌, ◌*◌, ℕ, Bool, false, true, List, [], ◌∷◌, ◌++◌, All, IsTrue, length}
use Rattle.std.specs.Borrow.{Bor}
use Rattle.path_rules.specs.Counters.{counters, first_counters, last_explicit}
use Rattle.path_rules.specs.Policies.{Allows, MapsAny, Policy, PolicySet}
use Rattle.path_rules.specs.PolicyGraph.{Everyone, HasAny, IsNode}
use Rattle.path_rules.specs.declared.counters.Counters.{Counters}
use Rattle.path_rules.specs.declared.policy_answer.PolicyAnswer.{PolicyAnswer}
use Rattle.path_rules.specs.declared.policy_answer.PolicyAnswer.TheVariants.{Broken, Empty, NoRoom, Valid}
use Rattle.path_rules.specs.declared.policy_facts.PolicyFacts.{PolicyFacts}
use Rattle.path_rules.specs.declared.policy_fault.PolicyFault.{PolicyFault}
use Rattle.path_rules.specs.declared.policy_inputs.PolicyInputs.{PolicyInputs}
use Rattle.path_rules.specs.declared.policy_rule.PolicyRule.{PolicyRule}
use Rattle.path_rules.specs.declared.policy_rule.PolicyRule.TheVariants as rule
use Rattle.path_rules.specs.declared.policy_rule.TheConstants.{POLICY_RULES}
use Rattle.path_rules.specs.declared.valid_policies.ValidPolicies.{ValidPolicies}

-- some policy is of this kind
abbrev pub Exists : PolicySet → Type 0
Exists P = (p : Policy) × P p

-- what a rule asks of a certificate, if it is the last or another, with this explicit_policy before
-- it, and these nodes of its depth: a policy where one is required (6.1.3 (f)), no mapping of
-- anyPolicy (6.1.4 (a)), and at the end a policy that the user allows where one is required (6.1.5
-- (a), (b), (g))
abbrev pub AsksPolicies : PolicyFacts → Bool → ℕ → Type 0 → PolicySet → PolicySet → PolicySet
    → PolicyRule → Type 0
AsksPolicies c last explicit AnyHere Known Node User rule.Explicit =
    (0 < explicit) ⊎ (AnyHere ⊎ Exists Known)
AsksPolicies c last explicit AnyHere Known Node User rule.Mapping =
    last ≡ false → MapsAny c.mappings.now → ⊥
AsksPolicies c last explicit AnyHere Known Node User rule.Allowed =
    last ≡ true → (0 < last_explicit c.require_explicit explicit)
    ⊎ (Exists Node ⊎ (AnyHere × Exists User))

-- a certificate keeps a rule after those before it, which are latest first
abbrev pub KeepsPolicies : Counters → List (Bor Policy) → Bool → PolicyFacts → List PolicyFacts
    → PolicyRule → Type 0
KeepsPolicies start allowed last c before =
    AsksPolicies c last (counters start before).explicit (HasAny start last (c ∷ before))
    (IsNode start Everyone last c before) (IsNode start (Allows allowed) last c before)
    (Allows allowed)

-- the first rule of the list that is broken
pub record IsFirstOf (Asks : PolicyRule → Type 0) (r : PolicyRule) : Type 0 where
  pub kept : List PolicyRule
  pub others : List PolicyRule
  pub split : POLICY_RULES ≡ kept ++ r ∷ others
  pub earlier : All Asks kept
  pub broken : Asks r → ⊥

-- certificates, latest first, behind those before them
abbrev pub onto : List PolicyFacts → List PolicyFacts → List PolicyFacts
onto before [] = before
onto before (c ∷ cs) = onto (c ∷ before) cs

-- each of these certificates, of which none is the last, keeps every rule
abbrev pub KeepIssuers : Counters → List (Bor Policy) → List PolicyFacts → List PolicyFacts → Type 0
KeepIssuers start allowed before [] = Unit {0}
KeepIssuers start allowed before (c ∷ cs) =
    ((r : PolicyRule) → KeepsPolicies start allowed false c before r)
    × KeepIssuers start allowed (c ∷ before) cs

-- no certificate follows
abbrev pub is_end : List PolicyFacts → Bool
is_end [] = true
is_end (c ∷ cs) = false

-- the policies of a path hold: each certificate keeps every rule
pub record PoliciesHold (start : Counters) (allowed : List (Bor Policy)) (path : List PolicyFacts)
    : Type 0 where
  pub issuers : List PolicyFacts
  pub target : PolicyFacts
  pub split : path ≡ issuers ++ target ∷ []
  pub issuers_keep : KeepIssuers start allowed [] issuers
  pub target_keeps : (r : PolicyRule) → KeepsPolicies start allowed true target (onto [] issuers) r

-- the first certificate that breaks a rule, and the first rule that it breaks
pub record IsPolicyFault (start : Counters) (allowed : List (Bor Policy)) (f : PolicyFault)
    (path : List PolicyFacts) : Type 0 where
  pub before : List PolicyFacts
  pub certificate : PolicyFacts
  pub after : List PolicyFacts
  pub split : path ≡ before ++ certificate ∷ after
  pub at : length before ≡ f.at
  pub first : KeepIssuers start allowed [] before
  pub broken :
      IsFirstOf (KeepsPolicies start allowed (is_end after) certificate (onto [] before)) f.rule

-- what is said of a path whose policies hold: whether anyPolicy is a node at the end, and whether a
-- policy is that grows from those that the user allows
pub record AreValid (v : ValidPolicies) (start : Counters) (allowed : List (Bor Policy))
    (target : PolicyFacts) (before : List PolicyFacts) : Type 0 where
  pub any : IsTrue v.has_any_policy ↔ HasAny start true (target ∷ before)
  pub allowed_node : IsTrue v.has_allowed ↔ Exists (IsNode start (Allows allowed) true target before)

-- the number of policies and mappings of a path
abbrev pub entries : List PolicyFacts → ℕ
entries [] = 0
entries (c ∷ cs) = (length c.policies.now + length c.mappings.now) + entries cs

-- what an answer says of a path, with a room of this length
abbrev pub IsPolicyAnswer : PolicyAnswer → PolicyInputs → List PolicyFacts → ℕ → Type 0
IsPolicyAnswer (Valid v) inputs path room =
    (holds : PoliciesHold (first_counters inputs (length path)) inputs.allowed.now path)
    × AreValid v (first_counters inputs (length path)) inputs.allowed.now holds.target
    (onto [] holds.issuers)
IsPolicyAnswer Empty inputs path room = path ≡ []
IsPolicyAnswer (Broken f) inputs path room =
    IsPolicyFault (first_counters inputs (length path)) inputs.allowed.now f path
IsPolicyAnswer NoRoom inputs path room = room < 2 * entries path

-- The variables explicit_policy, policy_mapping and inhibit_anyPolicy of RFC 5280: their values after
-- certificates (`counters`). Lists of certificates are latest first.
use Rattle.std.specs.Prelude.{◌-◌, ◌+◌, ◌==◌, ℕ, Bool, List, [], ◌∷◌, min, Option, Some, None, if◌then◌else◌}
use Rattle.path_rules.specs.declared.counters.Counters.{Counters}
use Rattle.path_rules.specs.declared.policy_facts.PolicyFacts.{PolicyFacts}
use Rattle.path_rules.specs.declared.policy_inputs.PolicyInputs.{PolicyInputs}

-- a counter is 0 if the caller asks for that, and otherwise one more than there are certificates
-- (6.1.2 (d) to (f))
abbrev pub first_count : Bool → ℕ → ℕ
first_count asked n = if asked then 0 else n + 1

-- the counters before a path of n certificates
abbrev pub first_counters : PolicyInputs → ℕ → Counters
first_counters inputs n =
    record {
      explicit = first_count inputs.requires_explicit n;
      mapping = first_count inputs.inhibits_mapping n;
      any = first_count inputs.inhibits_any n;
    }

-- a certificate that is not self-issued takes one (6.1.4 (h)), and an extension lowers it (6.1.4
-- (i), (j))
abbrev pub next_count : Bool → Option ℕ → ℕ → ℕ
next_count self_issued None n = if self_issued then n else n - 1
next_count self_issued (Some k) n = min k (if self_issued then n else n - 1)

-- the counters after one more certificate
abbrev pub next_counters : PolicyFacts → Counters → Counters
next_counters c n =
    record {
      explicit = next_count c.is_self_issued c.require_explicit n.explicit;
      mapping = next_count c.is_self_issued c.inhibit_mapping n.mapping;
      any = next_count c.is_self_issued c.inhibit_any n.any;
    }

-- the counters after these certificates
abbrev pub counters : Counters → List PolicyFacts → Counters
counters start [] = start
counters start (c ∷ before) = next_counters c (counters start before)

-- explicit_policy at the end (6.1.5 (a), (b))
abbrev pub last_explicit : Option ℕ → ℕ → ℕ
last_explicit None n = n - 1
last_explicit (Some k) n = if k == 0 then 0 else n - 1

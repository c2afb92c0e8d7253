-- Certification paths (RFC 5280, 6.1): `IsPath`. The first certificate of a path is the one that the
-- trust anchor issued, the last the one to be validated. A path is one certificate or more; each
-- keeps every rule (`Asks`). `IsAnswer` is what the answers of the code mean.
use Rattle.std.specs.Prelude.{◌≡◌, ◌≢◌, ◌⊎◌, ◌&&◌, ◌+◌, ◌≤◌, ℕ, Bool, false, true, not, List, [], ◌∷◌, ◌++◌, length, All, Option, Some, if◌then◌else◌}
use Rattle.path_rules.specs.declared.answer.Answer.{Answer}
use Rattle.path_rules.specs.declared.answer.Answer.TheVariants.{Broken, Empty, Valid}
use Rattle.path_rules.specs.declared.facts.Facts.{Facts}
use Rattle.path_rules.specs.declared.fault.Fault.{Fault}
use Rattle.path_rules.specs.declared.rule.Rule.{Rule}
use Rattle.path_rules.specs.declared.rule.Rule.TheVariants as rule
use Rattle.path_rules.specs.declared.rules.TheConstants.{RULES}
use Rattle.path_rules.specs.declared.version.Version.TheVariants.{V1, V3}

-- a certificate issues another if one follows
abbrev pub issues : List Facts → Bool
issues [] = false
issues (c ∷ cs) = true

-- 1 for an intermediate certificate that is not self-issued: one that issues another
abbrev pub weight : Facts → Bool → ℕ
weight c i = if i && not c.is_self_issued then 1 else 0

-- the number of intermediate certificates that are not self-issued: "the last certificate in the
-- certification path is not an intermediate certificate" (4.2.1.9)
abbrev pub intermediates : List Facts → ℕ
intermediates [] = 0
intermediates (c ∷ cs) = weight c (issues cs) + intermediates cs

-- a pathLenConstraint, if there is one, allows this number
abbrev pub HasRoom : Option ℕ → ℕ → Type 0
HasRoom limit n = (k : ℕ) → limit ≡ Some k → n ≤ k

-- version 3 and cA, or an earlier version and other means (6.1.4 (k))
abbrev pub IsKnownAuthority : Facts → Type 0
IsKnownAuthority c =
    ((c.version ≡ V3) × (c.is_authority ≡ true))
    ⊎ ((c.version ≢ V3) × (c.is_known_authority ≡ true))

-- what a rule asks of a certificate, if it issues another or not, and if this number of intermediate
-- certificates follow it that are not self-issued: the same algorithms (4.1.1.2), what a version
-- allows (4.1.2.8; 4.1.2.1 and 4.1.2.9), extensions once (4.2), the time (6.1.3 (a) (2)), the issuer
-- (6.1.3 (a) (4)), the name constraints unless it is self-issued and not the last (6.1.3 (b), (c)),
-- an authority (6.1.4 (k)), its pathLenConstraint (6.1.4 (l), (m)), its keyUsage (6.1.4 (n)), and
-- critical extensions (6.1.4 (o), 6.1.5 (f))
abbrev pub Asks : Rule → Facts → Bool → ℕ → Type 0
Asks rule.SignatureAlgorithm c i n = c.has_same_algorithms ≡ true
Asks rule.UniqueIdentifiers c i n = c.has_unique_identifiers ≡ true → c.version ≢ V1
Asks rule.ExtensionVersion c i n = c.has_extensions ≡ true → c.version ≡ V3
Asks rule.DistinctExtensions c i n = c.has_distinct_extensions ≡ true
Asks rule.Validity c i n = c.is_current ≡ true
Asks rule.Chain c i n = c.is_chained ≡ true
Asks rule.Names c i n = ((i ≡ true) × (c.is_self_issued ≡ true)) ⊎ (c.is_permitted ≡ true)
Asks rule.Authority c i n = i ≡ true → IsKnownAuthority c
Asks rule.PathLength c i n = HasRoom c.path_limit n
Asks rule.Usage c i n = i ≡ true → c.may_sign ≡ true
Asks rule.Extensions c i n = c.is_understood ≡ true

-- a certificate keeps every rule, if it issues another or not, before this number of others
abbrev pub KeepsAll : Facts → Bool → ℕ → Type 0
KeepsAll c i n = (r : Rule) → Asks r c i n

-- the first of these rules that a certificate breaks
pub record IsFirstBroken (rules : List Rule) (r : Rule) (c : Facts) (i : Bool) (n : ℕ) : Type 0 where
  pub kept : List Rule
  pub others : List Rule
  pub split : rules ≡ kept ++ r ∷ others
  pub earlier : All (λ q. Asks q c i n) kept
  pub broken : Asks r c i n → ⊥

-- a certificate keeps a rule before those that follow it
abbrev pub Keeps : Rule → Facts → List Facts → Type 0
Keeps r c after = Asks r c (issues after) (intermediates after)

-- each certificate keeps every rule
abbrev pub KeepRules : List Facts → Type 0
KeepRules [] = Unit {0}
KeepRules (c ∷ cs) = ((r : Rule) → Keeps r c cs) × KeepRules cs

-- a certification path: one certificate at least, and each keeps every rule
abbrev pub IsPath : List Facts → Type 0
IsPath p = (p ≢ []) × KeepRules p

-- each of the first certificates keeps every rule before the others
abbrev pub KeptBefore : List Facts → List Facts → Type 0
KeptBefore [] others = Unit {0}
KeptBefore (c ∷ cs) others = ((r : Rule) → Keeps r c (cs ++ others)) × KeptBefore cs others

-- the certificate at this place breaks the rule, and no rule of the list before it; the certificates
-- before it keep all
pub record IsFault (f : Fault) (p : List Facts) : Type 0 where
  pub before : List Facts
  pub certificate : Facts
  pub after : List Facts
  pub split : p ≡ before ++ certificate ∷ after
  pub at : length before ≡ f.at
  pub first : KeptBefore before (certificate ∷ after)
  pub broken : IsFirstBroken RULES f.rule certificate (issues after) (intermediates after)

-- what an answer says of a path
abbrev pub IsAnswer : Answer → List Facts → Type 0
IsAnswer Valid p = IsPath p
IsAnswer Empty p = p ≡ []
IsAnswer (Broken f) p = IsFault f p

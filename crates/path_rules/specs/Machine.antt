-- The steps of RFC 5280, 6.1.2 to 6.1.5, with their variable max_path_length: `Accepts`. They accept
-- exactly the paths (`IsPath`), which a law says.
use Rattle.std.specs.Prelude.{◌≡◌, ◌≢◌, ◌⊎◌, ◌+◌, ℕ, Bool, true, false, List, [], ◌∷◌, length, min, Option, Some, None}
use Rattle.path_rules.specs.Path.{IsKnownAuthority}
use Rattle.path_rules.specs.declared.facts.Facts.{Facts}
use Rattle.path_rules.specs.declared.version.Version.TheVariants.{V1, V3}

-- the fields and extensions are those of the profile (4.1.1.2, 4.1.2.8, 4.1.2.1 and 4.1.2.9, 4.2)
pub record IsOfProfile (c : Facts) : Type 0 where
  pub algorithms : c.has_same_algorithms ≡ true
  pub identifiers : c.has_unique_identifiers ≡ true → c.version ≢ V1
  pub extensions : c.has_extensions ≡ true → c.version ≡ V3
  pub distinct : c.has_distinct_extensions ≡ true

-- basic processing of a certificate, the last or another (6.1.3 (a) to (c)), and its critical
-- extensions (6.1.4 (o), 6.1.5 (f))
pub record IsSound (last : Bool) (c : Facts) : Type 0 where
  pub validity : c.is_current ≡ true
  pub chain : c.is_chained ≡ true
  pub names : ((last ≡ false) × (c.is_self_issued ≡ true)) ⊎ (c.is_permitted ≡ true)
  pub extensions : c.is_understood ≡ true

-- preparation for the next certificate (6.1.4 (k), (n))
pub record MayIssue (c : Facts) : Type 0 where
  pub authority : IsKnownAuthority c
  pub usage : c.may_sign ≡ true

-- max_path_length after 6.1.4 (l): a certificate that is not self-issued takes one
abbrev pub Takes : Facts → ℕ → ℕ → Type 0
Takes c room next =
    ((c.is_self_issued ≡ true) × (next ≡ room))
    ⊎ ((c.is_self_issued ≡ false) × (next + 1 ≡ room))

-- max_path_length after 6.1.4 (m): the pathLenConstraint, if it is less
abbrev pub limited : Option ℕ → ℕ → ℕ
limited None room = room
limited (Some k) room = min k room

-- the steps from a certificate on, with this max_path_length
abbrev pub AcceptsFrom : ℕ → List Facts → Type 0
AcceptsFrom room [] = ⊥
AcceptsFrom room (c ∷ []) = IsOfProfile c × IsSound true c
AcceptsFrom room (c ∷ d ∷ cs) =
    IsOfProfile c × IsSound false c × MayIssue c
    × ((next : ℕ) × Takes c room next × AcceptsFrom (limited c.path_limit next) (d ∷ cs))

-- the initial max_path_length is the number of certificates (6.1.2 (k))
abbrev pub Accepts : List Facts → Type 0
Accepts p = AcceptsFrom (length p) p

-- What a call that searches the next path gives (`IsBuilt`). The paths of path_search are chains here:
-- `IsChainOf`. A chain that the search passes is refused by the rules, or it is returned.
use Rattle.std.specs.Prelude.{◌≡◌, ◌⊎◌, ◌<◌, ◌≤◌, ℕ, List, IsSomeAnd, length, take}
use Rattle.path_rules.specs.declared.answer.Answer.{Answer}
use Rattle.path_rules.specs.declared.answer.Answer.TheVariants.{Broken, Valid}
use Rattle.path_rules.specs.declared.fault.Fault.{Fault}
use Rattle.path_search.specs.Chains.{IsPath}
use Rattle.path_search.specs.Places.{IsLeft}
use Rattle.path_search.specs.declared.place.Place.{Place}
use Rattle.path_search.specs.declared.search.Search.{Search}
use Rattle.x509_build.specs.Pools.{Follows, IsWhole, inputs_of, path_of}
use Rattle.x509_build.specs.declared.built.Built.{Built}
use Rattle.x509_build.specs.declared.built.Built.TheVariants as built
use Rattle.x509_build.specs.declared.pool.Pool.{Pool}
use Rattle.x509_path.specs.Paths.{IsAnswered}
use Rattle.x509_path.specs.declared.certificate.PathCertificate.{PathCertificate}

-- the chains that a search among these candidates finds: each candidate may follow those before it,
-- and the last is a trust anchor
abbrev pub IsFound : Pool → Search → List ℕ → Type 0
IsFound p s chain = IsPath (Follows p) (IsWhole p) s.count s.depth chain

-- the chain ends with a trust anchor, with which the rules have this answer for its path
unfoldable pub IsJudged : Pool → List ℕ → Answer → Type 0
IsJudged p chain a = IsSomeAnd (inputs_of p chain) (λ i. IsAnswered a i (path_of p chain))

-- the path keeps all rules
abbrev pub IsKept : Pool → List ℕ → Type 0
IsKept p chain = IsJudged p chain Valid

-- a certificate of the path breaks a rule
abbrev pub IsRefused : Pool → List ℕ → Type 0
IsRefused p chain = (f : Fault) × IsJudged p chain (Broken f)

-- a chain is not judged: it does not end with a trust anchor, or a room is smaller
abbrev pub HasNoPath : Pool → List ℕ → ℕ → ℕ → Type 0
HasNoPath p chain path facts =
    (IsWhole p chain → ⊥) ⊎ ((path < length chain) ⊎ (facts < length chain))

-- from one place of a search to another, the chains that were left are left, or refused, and no others
-- are left
pub record Passes (P R : List ℕ → Type 0) (p : Place) (room : List ℕ) (q : Place) (after : List ℕ)
    : Type 0 where
  pub on : (c : List ℕ) → P c → IsLeft p room c → IsLeft q after c ⊎ R c
  pub back : (c : List ℕ) → P c → IsLeft q after c → IsLeft p room c

-- a chain is found that is kept. It was left, and is not left. Of all others, those that were left are
-- left or refused, and no others are left. Each shorter chain that was left is refused
pub record Builds (P K R : List ℕ → Type 0) (p : Place) (room : List ℕ) (q : Place)
    (after found : List ℕ) : Type 0 where
  pub is : P found
  pub kept : K found
  pub left : IsLeft p room found
  pub passed : IsLeft q after found → ⊥
  pub on : (c : List ℕ) → P c → IsLeft p room c → (c ≡ found) ⊎ (IsLeft q after c ⊎ R c)
  pub back : (c : List ℕ) → P c → IsLeft q after c → IsLeft p room c
  pub shortest : (c : List ℕ) → P c → IsLeft p room c → (length found ≤ length c) ⊎ R c

-- one of the rooms is too small for a path of the search
abbrev pub IsSmall : Search → List ℕ → ℕ → ℕ → Type 0
IsSmall s chain path facts =
    (path < length chain) ⊎ ((facts < length chain) ⊎ (length chain < s.depth))

-- what an answer means: a chain is found whose path keeps all rules; or each chain that was left is
-- refused; or all steps were used; or a room is too small, and nothing has changed
abbrev pub IsBuilt : Built → Pool → Search → List ℕ → Search → List ℕ → ℕ → ℕ → Type 0
IsBuilt (built.Path n) p s chain t after path facts =
    Builds (IsFound p s) (IsKept p) (IsRefused p) s.place chain t.place after (take n after)
IsBuilt built.Ended p s chain t after path facts =
    (c : List ℕ) → IsFound p s c → IsLeft s.place chain c → IsRefused p c
IsBuilt built.StepsUsed p s chain t after path facts =
    Passes (IsFound p s) (IsRefused p) s.place chain t.place after × (t.steps ≡ 0)
IsBuilt built.NoRoom p s chain t after path facts =
    (t ≡ s) × (after ≡ chain) × IsSmall s chain path facts

-- the path of the chain is at the front of the other room
abbrev pub HasPath : Built → Pool → List ℕ → List PathCertificate → Type 0
HasPath (built.Path n) p chain path = take n path ≡ path_of p (take n chain)
HasPath built.Ended p chain path = Unit {0}
HasPath built.StepsUsed p chain path = Unit {0}
HasPath built.NoRoom p chain path = Unit {0}

-- Chains of candidates (`IsChain`), and those that are paths (`IsPath`). A candidate is a number below
-- the number of candidates. `Follows` says which candidate may follow a chain, and `IsWhole` which
-- chains reach a trust anchor.
use Rattle.std.specs.Prelude.{◌≡◌, ◌<◌, ◌≤◌, ℕ, List, ◌∷◌, ◌++◌, Any, length}

-- a chain has a candidate
abbrev pub Has : List ℕ → ℕ → Type 0
Has chain c = Any (λ d. d ≡ c) chain

-- a candidate may be the next one: it is known, the chain does not have it, and it may follow
pub record IsNext (Follows : List ℕ → ℕ → Type 0) (count : ℕ) (chain : List ℕ) (c : ℕ) : Type 0 where
  pub known : c < count
  pub new : Has chain c → ⊥
  pub follows : Follows chain c

-- each candidate is a next one of those before it
abbrev pub IsChain : (List ℕ → ℕ → Type 0) → ℕ → List ℕ → Type 0
IsChain Follows count chain =
    (before after : List ℕ) → (c : ℕ) → chain ≡ before ++ c ∷ after → IsNext Follows count before c

-- each candidate of a chain is known
abbrev pub AreKnown : ℕ → List ℕ → Type 0
AreKnown count chain = (before after : List ℕ) → (c : ℕ) → chain ≡ before ++ c ∷ after → c < count

-- a path: a chain within the depth that reaches a trust anchor
pub record IsPath (Follows : List ℕ → ℕ → Type 0) (IsWhole : List ℕ → Type 0) (count depth : ℕ)
    (chain : List ℕ) : Type 0 where
  pub linked : IsChain Follows count chain
  pub whole : IsWhole chain
  pub short : length chain ≤ depth

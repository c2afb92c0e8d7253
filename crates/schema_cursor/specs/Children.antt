-- Which elements of a tree are inside another one. Those that are inside it come after it, and are
-- deeper; its children name it as the element around them.
use Rattle.std.specs.Prelude.{◌≡◌, ℕ, zero, suc, ◌+◌, ◌<◌, ◌≤◌, List, length, Some, slice_get}
use Rattle.schema_read.specs.declared.entry.Entry.{Entry}

-- an element is deeper than another one
abbrev pub IsDeeper : List Entry → ℕ → ℕ → Type 0
IsDeeper entries other k =
    (e f : Entry) → slice_get entries other ≡ Some e → slice_get entries k ≡ Some f → e.depth < f.depth

-- an element is a child of another one, among those from an index on that are inside it
pub record IsChild (entries : List Entry) (parent from k : ℕ) : Type 0 where
  pub after : from ≤ k
  pub there : k < length entries
  pub inside : (j : ℕ) → from ≤ j → j ≤ k → IsDeeper entries parent j
  pub around : (e : Entry) → slice_get entries k ≡ Some e → e.parent ≡ parent

-- it is the first of these
pub record IsFirstChild (entries : List Entry) (parent from k : ℕ) : Type 0 where
  pub is : IsChild entries parent from k
  pub first : (j : ℕ) → j < k → IsChild entries parent from j → ⊥

-- it is the one after so many others
abbrev pub IsNthChild : List Entry → ℕ → ℕ → ℕ → ℕ → Type 0
IsNthChild entries parent zero from k = IsFirstChild entries parent from k
IsNthChild entries parent (suc n) from k =
    (j : ℕ) × IsFirstChild entries parent from j × IsNthChild entries parent n (j + 1) k

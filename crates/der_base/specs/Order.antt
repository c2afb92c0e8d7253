-- The order of lists of octets (X.690 11.6): the relation `IsBefore`, and the comparison
-- `byte_order`. That section pads the shorter encoding with zero octets; no encoding is a proper
-- prefix of another (`AreApart`), so padding never affects the comparison.
use Rattle.std.specs.Prelude.{◌≡◌, ◌≢◌, ℕ, ◌<◌, List, [], ◌∷◌, ◌++◌}
use Rattle.std.specs.Cmp.Lexicographic.{slice_cmp}
use Rattle.std.specs.Ordering.{nat_cmp}
use Rattle.std.specs.declared.cmp.Ordering.{Ordering}

-- the smaller list is a proper prefix of the other, or has the smaller octet at the first
-- difference
pub data IsBefore (a b : List ℕ) : Type 0 where
  begins : (o : ℕ) (more : List ℕ) → b ≡ a ++ o ∷ more → IsBefore a b
  differs : (same x y : List ℕ) (m n : ℕ) → m < n → a ≡ same ++ m ∷ x → b ≡ same ++ n ∷ y
      → IsBefore a b

-- the comparison by that order: the order of slices
abbrev pub byte_order : List ℕ → List ℕ → Ordering
byte_order = slice_cmp nat_cmp

-- neither list is a prefix of the other, unless they are equal
abbrev pub AreApart : List ℕ → List ℕ → Type 0
AreApart a b = (x y : List ℕ) → a ++ x ≡ b ++ y → a ≡ b

-- encodings of values can be separated after they are joined: no encoding is a proper prefix of
-- another, and none is empty
pub record AreDelimited {A : Type 0} (octets : A → List ℕ) : Type 0 where
  pub apart : (v w : A) → AreApart (octets v) (octets w)
  pub some : (v : A) → octets v ≢ []

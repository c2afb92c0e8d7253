-- Parts of the input (`IsPartOf`).
use Rattle.std.specs.Prelude.{◌≡◌, ℕ, ◌+◌, ◌≤◌, List, length, take, drop}

-- octets that the input has from some place on
pub record IsPartOf (octets part : List ℕ) : Type 0 where
  pub start : ℕ
  pub count : ℕ
  pub inside : start + count ≤ length octets
  pub part_is : part ≡ take count (drop start octets)

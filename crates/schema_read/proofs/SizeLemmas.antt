-- Sizes that are counted.
use Rattle.std.proofs.Common.{◌≡◌, ◌-◌, ◌^◌, ◌<◌, ℕ, min, arith}
use Rattle.std.proofs.lemmas.Grind.{common_steps}
use Rattle.schema_read.specs.Constraints.{counted}

pub counted_small : (size : ℕ) → counted size < 2 ^ 63
counted_small size = grind (arith, common_steps)

pub counted_again : (size : ℕ) → counted (min size (2 ^ 64 - 1)) ≡ counted size
counted_again size = grind (arith, common_steps)

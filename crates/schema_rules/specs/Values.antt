-- Values of contents octets that constraints are about: numbers and their bounds (X.680 51.4).
use Rattle.std.specs.Prelude.{◌≢◌, ◌≤ℤ◌, ℤ, ℕ, pos, negsuc, List, if◌then◌else◌}
use Rattle.der_asn1.specs.Integer.{is_negative, magnitude}

-- the number that the contents of an INTEGER or ENUMERATED encode, in two's complement (X.690
-- 8.3.3)
abbrev pub integer_value : List ℕ → ℤ
integer_value octets =
    if is_negative octets then negsuc (magnitude octets) else pos (magnitude octets)

-- the bounds that stand for MIN and MAX
abbrev pub min_bound : ℤ
min_bound = negsuc 9223372036854775807

abbrev pub max_bound : ℤ
max_bound = pos 9223372036854775807

-- a number is between two bounds, both included
pub record IsInRange (low high number : ℤ) : Type 0 where
  pub least : low ≢ min_bound → low ≤ℤ number
  pub most : high ≢ max_bound → number ≤ℤ high

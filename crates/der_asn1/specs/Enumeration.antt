-- Items of an enumeration by their numbers (X.680 20): `item_form` says which contents are those of
-- an item, and `item_with_number` which item has a number of any sign.
use Rattle.std.specs.Prelude.{ℕ, ◌&&◌, ◌^◌, Bool, List, Option, None, is_some, nat_lt}
use Rattle.std.specs.Prelude.{ℤ, pos, negsuc, if◌then◌else◌}
use Rattle.der_asn1.specs.Integer.{magnitude, unsigned_form}

-- the contents of a number of 32 bits that is the number of an item
abbrev pub item_form : {A : Type 0} → (ℕ → Option A) → List ℕ → Bool
item_form item_of octets = unsigned_form (2 ^ 32) octets && is_some (item_of (magnitude octets))

-- the item with a number, if one has it: an item has a number of 32 bits without a sign
abbrev pub item_with_number : {A : Type 0} → (ℕ → Option A) → ℤ → Option A
item_with_number item_of (pos n) = if nat_lt n (2 ^ 32) then item_of n else None
item_with_number item_of (negsuc n) = None

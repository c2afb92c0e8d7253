-- How byte strings are ordered and hashed: `counted_order` and `counted_writes` are those of
-- `BytesOwned`; `octets_order` compares the octets alone.
use Rattle.std.specs.Prelude.{ℕ, false, List, length, ◌++◌, Ok}
use Rattle.std.specs.Hash as fed
use Rattle.std.specs.Hash.{HashWrites}
use Rattle.std.specs.Ordering.{ordering_then, nat_cmp}
use Rattle.std.specs.declared.cmp.Ordering.{Ordering}
use Rattle.der_base.specs.Order.{byte_order}
use Rattle.der_core.specs.DerOrd.{Compared}

-- shorter strings first; equal lengths are compared octet by octet
abbrev pub counted_order : List ℕ → List ℕ → Ordering
counted_order a b = ordering_then (nat_cmp (length a) (length b)) (byte_order a b)

-- the result of comparing two values by their octets alone; never fails
abbrev pub octets_order : {A : Type 0} → (A → List ℕ) → A → A → Compared
octets_order octets_of v w = Ok (byte_order (octets_of v) (octets_of w))

-- the fields of a definite `Length` with the number of octets, then the octets
abbrev pub counted_writes : List ℕ → HashWrites
counted_writes octets =
    fed.u32 (length octets) ++ (fed.bool false ++ fed.slice fed.u8 octets)

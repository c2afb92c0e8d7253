-- Laws of the order of octets, each proved by this crate.
use Rattle.std.specs.Prelude.{◌≡◌, ◌↔◌, ℕ, false, List, ◌++◌}
use Rattle.std.specs.Cmp.{IsTotalOrder}
use Rattle.std.specs.Ordering.{nat_cmp, ordering_then}
use Rattle.std.specs.declared.cmp.Ordering.{Ordering}
use Rattle.std.specs.declared.cmp.Ordering.TheVariants.{Less, Equal, Greater}
use Rattle.der_base.specs.HeaderGrammar.{header_octets}
use Rattle.der_base.specs.Length.{length_octets}
use Rattle.der_base.specs.Order.{IsBefore, byte_order, AreApart}
use Rattle.der_base.specs.Tag.{tag_octets, tag_number}
use Rattle.der_base.specs.declared.tag.Tag.{Tag}
use Rattle.der_base.specs.declared.tag.Tag.TheVariants.{ContextSpecific}

-- a total order in which a list is less if it comes before the other, and equal only to itself
-- (X.690 11.6)
pub record IsByteOrder (order : List ℕ → List ℕ → Ordering) : Type 0 where
  pub total : IsTotalOrder order
  pub less : (a b : List ℕ) → order a b ≡ Less ↔ IsBefore a b
  pub same : (a b : List ℕ) → order a b ≡ Equal ↔ (a ≡ b)

-- if neither of two lists is a proper prefix of the other, their order decides, and what follows
-- them decides only if they are equal; so the padding of X.690 11.6 never affects the comparison
abbrev pub FrontsDecide : Type 0
FrontsDecide =
    (a b x y : List ℕ) → AreApart a b
    → byte_order (a ++ x) (b ++ y) ≡ ordering_then (byte_order a b) (byte_order x y)

-- the byte order of encoded lengths is the order of their numbers (X.690 8.1.3)
abbrev pub LengthOrderIsNumeric : Type 0
LengthOrderIsNumeric =
    (m n : ℕ) → byte_order (length_octets m) (length_octets n) ≡ nat_cmp m n

-- the byte order of headers is that of their tags, then that of their lengths
abbrev pub HeaderOrderIsByTag : Type 0
HeaderOrderIsByTag =
    (t u : Tag) (m n : ℕ) → byte_order (header_octets t m) (header_octets u n)
    ≡ ordering_then (byte_order (tag_octets t) (tag_octets u)) (nat_cmp m n)

-- the byte order of encoded tags is not the order of their numbers: 16383, `9F FF 7F`, comes after
-- 16384, `9F 81 80 00`
abbrev pub TagOrderIsNotNumeric : Type 0
TagOrderIsNotNumeric =
    byte_order (tag_octets (ContextSpecific false (tag_number 16383)))
    (tag_octets (ContextSpecific false (tag_number 16384))) ≡ Greater

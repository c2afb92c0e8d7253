use Rattle.std.proofs.Common.{◌≡◌, ℕ, ◌+◌, ◌-◌, ◌<◌, ◌≤◌}
use Rattle.std.specs.declared.cmp.Ordering.TheVariants.{Less}
use Rattle.der_base.specs.Order.{byte_order}
use Rattle.schema_types.specs.OpenType.{identifier_in}
use Rattle.schema_types.proofs.find.find_open_type.Given as goal

abbrev pub invariant-halves : goal.invariant-halves
invariant-halves l = record {
  first : l.fn.types.start ≤ l.low;
  ordered : l.low ≤ l.high;
  last : l.high ≤ l.fn.types.start + l.fn.types.count;
  below : (k : ℕ) → l.fn.types.start ≤ k → k < l.low → byte_order (identifier_in l.counts l.octets k) l.identifier ≡ Less;
  above : (k : ℕ) → l.high ≤ k → k < l.fn.types.start + l.fn.types.count → byte_order l.identifier (identifier_in l.counts l.octets k) ≡ Less;
}

abbrev pub decreases-halves : goal.decreases-halves
decreases-halves l = l.high - l.low

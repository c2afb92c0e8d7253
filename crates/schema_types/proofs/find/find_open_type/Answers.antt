use Rattle.std.proofs.Common.{◌≡◌, ◌+◌, ◌-◌, ◌*◌, ◌/◌, List, ℕ, sym, ap, ◌∙◌, ⊎_elim, arith}
use Rattle.std.proofs.lemmas.Bool.{cases_lt}
use Rattle.der_base.specs.Order.{byte_order}
use Rattle.der_base.proofs.OrderLemmas.{same_octets}
use Rattle.schema_types.specs.OpenType.{open_type_at, identifier_in}
use Rattle.schema_types.proofs.FindLemmas.{less_from, equal_from, turned, all_below, all_above, differ_below, differ_above}
use Rattle.schema_types.proofs.find.find_open_type.Goals as goal

pub returns-then-is_eq-clause-found : goal.returns-then-is_eq-clause-found
returns-then-is_eq-clause-found c =
    let m = c.halves.low + (c.halves.high - c.halves.low) / 2 in
    let order : byte_order (identifier_in c.args.counts c.args.octets.now m) c.args.identifier.now ≡ c.cmp-order.result =
    sym (c.cmp-order.ensures ∙ ap (λ (s : List ℕ). byte_order s c.args.identifier.now) c.identifier_in.ensures) in
    record {
      index = m;
      first = omega arith;
      last = omega arith;
      row = c.read.ensures ∙ ap (λ n. open_type_at c.args.octets.now (n + 12 * m)) c.opens_at.ensures;
      same = same_octets (identifier_in c.args.counts c.args.octets.now m) c.args.identifier.now (order ∙ equal_from c.cmp-order.result (sym c.is_eq.ensures ∙ c.if-is_eq.true));
    }

pub halves-preserved-then-is_lt : goal.halves-preserved-then-is_lt
halves-preserved-then-is_lt c =
    let m = c.halves.low + (c.halves.high - c.halves.low) / 2 in
    let order : byte_order (identifier_in c.args.counts c.args.octets.now m) c.args.identifier.now ≡ c.cmp-order.result =
    sym (c.cmp-order.ensures ∙ ap (λ (s : List ℕ). byte_order s c.args.identifier.now) c.identifier_in.ensures) in
    record {
      first = omega arith;
      ordered = omega arith;
      last = c.halves.invariant.last;
      below = all_below (identifier_in c.args.counts c.args.octets.now) c.args.types.start (c.args.types.start + c.args.types.count) c.requires.ascending m c.args.identifier.now (omega arith) (omega arith)
          (order ∙ less_from c.cmp-order.result (sym c.is_lt.ensures ∙ c.if-is_lt.true));
      above = c.halves.invariant.above;
    }

pub halves-preserved : goal.halves-preserved
halves-preserved c =
    let m = c.halves.low + (c.halves.high - c.halves.low) / 2 in
    let order : byte_order (identifier_in c.args.counts c.args.octets.now m) c.args.identifier.now ≡ c.cmp-order.result =
    sym (c.cmp-order.ensures ∙ ap (λ (s : List ℕ). byte_order s c.args.identifier.now) c.identifier_in.ensures) in
    record {
      first = omega arith;
      ordered = omega arith;
      last = omega arith;
      below = c.halves.invariant.below;
      above = all_above (identifier_in c.args.counts c.args.octets.now) c.args.types.start (c.args.types.start + c.args.types.count) c.requires.ascending m c.args.identifier.now (omega arith) (omega arith)
          (turned (identifier_in c.args.counts c.args.octets.now m) c.args.identifier.now c.cmp-order.result order (sym c.is_lt.ensures ∙ c.if-is_lt.false) (sym c.is_eq.ensures ∙ c.if-is_eq.false));
    }

pub returns-clause-none : goal.returns-clause-none
returns-clause-none c k a b =
    ⊎_elim
    (λ lt. differ_below (identifier_in c.args.counts c.args.octets.now k) c.args.identifier.now (c.halves.invariant.below k a lt))
    (λ ge. differ_above (identifier_in c.args.counts c.args.octets.now k) c.args.identifier.now (c.halves.invariant.above k (omega arith) b))
    (cases_lt k c.halves.low)

use Rattle.std.proofs.Common.{◌≡◌, ◌∙◌, ℕ, List, pos, true, refl, sym, arith}
use Rattle.schema_rules.specs.Characters.{AreZeroFrom}
use Rattle.der_asn1.specs.NamedBits.{bit_count}
use Rattle.schema_types.specs.Table.{Table}
use Rattle.schema_types.specs.Allowed.{IsLimitOf, IsBetween, limited, unlimited}
use Rattle.schema_types.specs.declared.limit.Limit.{Limit}
use Rattle.schema_types.specs.declared.limit_kind.LimitKind.TheVariants.{Size}
use Rattle.schema_types.specs.declared.span.Span.{Span}
use Rattle.schema_types.proofs.TestLemmas.{refuted}
use Rattle.schema_read.specs.Constraints.{HasAllowedSize, counted}
use Rattle.schema_read.proofs.LimitLemmas.{isnt_true, isnt_both, looked_at}
use Rattle.schema_read.proofs.bits.has_size_with_zeros.Goals.{then-is_of_sizes+else-has_size_between, else-is_of_sizes}
use Rattle.schema_read.proofs.bits.has_size_with_zeros.Goals as goal

-- a limit has the size of a string that differs in zero bits at its end alone
IsMet : List ℕ → Limit → Type 0
IsMet inner m = (size : ℕ) × AreZeroFrom size inner × IsBetween m (pos (counted size))

pub returns-then-has_size_between : goal.returns-then-has_size_between
returns-then-has_size_between c = (
  λ _. let met = c.has_size_between.ensures.0 c.if-has_size_between.true in (
    met.0,
    met.1,
    limited c.loop-k.k c.limit_of-limit.result
        (record { part = (c.loop-k.auto.k, omega arith); row = c.limit_of-limit.ensures; kind_is = c.is_of_sizes.ensures.0 c.if-is_of_sizes.true }) met.2,
  ),
  λ _. refl,
)

-- no size is allowed if there is a size range, and none meets it
disallowed : {t : Table} {limits : Span} (inner : List ℕ) → (k : ℕ) × (m : Limit) × IsLimitOf t limits Size k m → ((k : ℕ) (m : Limit) → IsLimitOf t limits Size k m → IsMet inner m → ⊥) → HasAllowedSize t limits inner → ⊥
unfolding IsMet
disallowed inner there outside (size, zero, limited k m is between) = outside k m is (size, zero, between)
disallowed inner there outside (size, zero, unlimited none) = none there.0 there.1 there.2

pub returns : goal.returns
unfolding IsMet
returns c = (
  λ e. (bit_count c.args.contents.now, (λ n low high. absurd (omega (arith, low, high))), unlimited (λ k m is. isnt_both e (c.loop-k.invariant.outside k m (omega (arith, is.part.1)) is).1)),
  λ allowed. isnt_true c.loop-k.limited (λ e. disallowed c.args.contents.now (c.loop-k.invariant.one e) (λ k m is. (c.loop-k.invariant.outside k m (omega (arith, is.part.1)) is).0) allowed),
)

pub loop-k-preserved : goal.loop-k-preserved
unfolding IsMet
loop-k-preserved c =
    let Fact : Limit → Type 0 = λ m. (IsMet c.args.contents.now m → ⊥) × (c.if-is_of_sizes.limited ≡ true) in
    elim c.if-is_of_sizes.branch [
      | then-is_of_sizes+else-has_size_between w ↦ record {
        outside = looked_at Fact c.limit_of-limit.ensures (λ _. (refuted w.has_size_between.ensures w.if-has_size_between.false, w.limited-is)) (λ k m lt is. ((c.loop-k.invariant.outside k m lt is).0, w.limited-is));
        one = λ _. (c.loop-k.k, c.limit_of-limit.result, record { part = (c.loop-k.auto.k, omega arith); row = c.limit_of-limit.ensures; kind_is = c.is_of_sizes.ensures.0 w.if-is_of_sizes.true });
      }
      | else-is_of_sizes w ↦ record {
        outside = looked_at Fact c.limit_of-limit.ensures (λ e. absurd (refuted c.is_of_sizes.ensures w.if-is_of_sizes.false e)) (λ k m lt is. let p = c.loop-k.invariant.outside k m lt is in (p.0, w.limited-is ∙ p.1));
        one = λ e. c.loop-k.invariant.one (sym w.limited-is ∙ e);
      }
    ]

use Rattle.std.proofs.Common.{◌≡◌, ℕ, ◌+◌, arith}
use Rattle.std.proofs.lemmas.Bool.{eq-eqb}
use Rattle.std.proofs.lemmas.Int.{ints}
use Rattle.der_asn1.specs.NamedBits.{bit_count}
use Rattle.schema_read.specs.Constraints.{counted}
use Rattle.schema_read.proofs.bits.has_size_between.Goals as goal

pub returns-then-size-eq9223372036854775807 : goal.returns-then-size-eq9223372036854775807
returns-then-size-eq9223372036854775807 c = (
  λ on. (size, (λ n low high. absurd (omega (arith, low, high))), record { low = omega (arith, ints, most, c.if-limit.false, c.in-Some.ensures.size, c.if-size-eq9223372036854775807.true); high = omega (arith, ints, most, c.in-Some.ensures.size, c.if-size-eq9223372036854775807.true) }),
  λ _. eq-eqb c.in-Some.size 9223372036854775807 c.if-size-eq9223372036854775807.true,
)
  where
    size : ℕ
    size = 9223372036854775807 + bit_count c.args.contents.now

    most : counted size ≡ 9223372036854775807
    most = omega arith

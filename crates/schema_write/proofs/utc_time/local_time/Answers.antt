use Rattle.std.proofs.Common.{◌≡◌, ◌∙◌, ap, sym, arith}
use Rattle.schema_rules.specs.Digits.{digit_count}
use Rattle.der_asn1.specs.Times.{utc_year}
use Rattle.schema_write.proofs.InstantLemmas.{utc_read_ten, utc_read_twelve}
use Rattle.schema_write.proofs.utc_time.local_time.Goals as goal

pub returns-then-count-eq12 : goal.returns-then-count-eq12
returns-then-count-eq12 c t d is =
    utc_read_twelve is (omega (arith, c.if-count-eq12.true, c.digit_count-count.ensures.count)) (c.utc_year.ensures ∙ ap utc_year c.two_at.ensures) c.two_at-2.ensures c.two_at-3.ensures c.two_at-4.ensures c.two_at-5.ensures c.two_at-then-count-eq12.ensures

pub returns-else-count-eq12 : goal.returns-else-count-eq12
returns-else-count-eq12 c t d is =
    utc_read_ten is (λ e. c.if-count-eq12.false (omega (arith, c.digit_count-count.ensures.count, e))) (c.utc_year.ensures ∙ ap utc_year c.two_at.ensures) c.two_at-2.ensures c.two_at-3.ensures c.two_at-4.ensures c.two_at-5.ensures

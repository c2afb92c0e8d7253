use Rattle.std.proofs.Common.{◌≡◌, ◌∙◌, sym, arith}
use Rattle.std.proofs.lemmas.Int.{ints}
use Rattle.schema_write.proofs.InstantLemmas.{zone_signed}
use Rattle.schema_write.proofs.zone.difference_of.Goals as goal

pub returns-then-sign-eq43-clause-value : goal.returns-then-sign-eq43-clause-value
returns-then-sign-eq43-clause-value c d is =
    let e = (zone_signed c.args.zone.now d is).plus (sym c.octet_at-sign.ensures ∙ c.if-sign-eq43.true) in
    omega (arith, ints, e, c.seconds_of.ensures.value)

pub returns-then-sign-eq45-clause-value : goal.returns-then-sign-eq45-clause-value
returns-then-sign-eq45-clause-value c d is =
    let e = (zone_signed c.args.zone.now d is).minus (sym c.octet_at-sign.ensures ∙ c.if-sign-eq45.true) in
    omega (arith, ints, e, c.seconds_of-then-sign-eq45.ensures.value)

pub returns-else-sign-eq45-clause-value : goal.returns-else-sign-eq45-clause-value
returns-else-sign-eq45-clause-value c d is =
    sym ((zone_signed c.args.zone.now d is).other (λ e. c.if-sign-eq43.false (c.octet_at-sign.ensures ∙ e)) (λ e. c.if-sign-eq45.false (c.octet_at-sign.ensures ∙ e)))

use Rattle.std.proofs.Common.{◌≡◌, ◌∙◌, ap, sym, true, false, not, refl, subst}
use Rattle.der_asn1.specs.Times.{is_date_time, is_utc_time}
use Rattle.schema_write.proofs.InstantLemmas.{utc_year_same, date_of_utc, moved, zone_there}
use Rattle.schema_write.proofs.utc_time.time_in_utc.Goals as goal

pub returns-then-not-is_valid-clause-none : goal.returns-then-not-is_valid-clause-none
returns-then-not-is_valid-clause-none c t u d is valid e =
    let same = c.local_time-local.ensures t d is in
    let yes : is_date_time c.local_time-local.result ≡ true = subst (λ q. is_date_time q ≡ true) (sym same) (date_of_utc t is.exists) in
    let no = c.if-not-is_valid.true in
    let was = c.is_valid.ensures in
    absurd (cc)

pub returns-then-can_hold-clause-time : goal.returns-then-can_hold-clause-time
returns-then-can_hold-clause-time c = (
  sym c.can_hold.ensures ∙ c.if-can_hold.true,
  λ t d is. moved d (c.in-Some.ensures.time d (zone_there c.after_digits.ensures is)) (c.local_time-local.ensures t d is),
)

pub returns-else-can_hold-clause-none : goal.returns-else-can_hold-clause-none
returns-else-can_hold-clause-none c t u d is valid e =
    let there = moved d (c.in-Some.ensures.time d (zone_there c.after_digits.ensures is)) (c.local_time-local.ensures t d is) in
    let yes = utc_year_same c.in-Some.time u c.in-Some.ensures.valid valid (there ∙ sym e) in
    let no = c.if-can_hold.false in
    let was = c.can_hold.ensures in
    absurd (cc)

pub returns-in-None-clause-none : goal.returns-in-None-clause-none
returns-in-None-clause-none c t u d is valid e =
    c.in-None.ensures.none u d (zone_there c.after_digits.ensures is) (date_of_utc u valid) (e ∙ sym (moved d refl (c.local_time-local.ensures t d is)))

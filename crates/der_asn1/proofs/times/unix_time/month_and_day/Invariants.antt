use Rattle.std.proofs.Common.{◌-◌, ◌≡◌, ◌≤◌, ◌<◌, ◌+◌}
use Rattle.der_asn1.specs.UnixTime.{days_of_year, days_of_months}
use Rattle.der_asn1.proofs.times.unix_time.month_and_day.Given as goal

-- the months before this one, and what is left, are the days
abbrev pub invariant-loop-month : goal.invariant-loop-month
invariant-loop-month l =
    (1 ≤ l.month) × (l.month ≤ 12) × (days_of_months l.year (l.month - 1) + l.left ≡ l.days)
    × (l.days < days_of_year l.year)

abbrev pub decreases-loop-month : goal.decreases-loop-month
decreases-loop-month l = 12 - l.month

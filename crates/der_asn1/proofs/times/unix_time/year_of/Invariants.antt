use Rattle.std.proofs.Common.{◌-◌, ◌≤◌, ◌<◌}
use Rattle.der_asn1.specs.UnixTime.{days_before_year}
use Rattle.der_asn1.proofs.times.unix_time.year_of.Given as goal

-- the day is in one of the years from `low` up to `high`, exclusive
abbrev pub invariant-loop-low : goal.invariant-loop-low
invariant-loop-low l =
    (l.low < l.high) × (l.high ≤ 10000) × (days_before_year l.low ≤ l.days)
    × (l.days < days_before_year l.high)

abbrev pub decreases-loop-low : goal.decreases-loop-low
decreases-loop-low l = l.high - l.low

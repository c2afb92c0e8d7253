-- A date with a time of day as text (RFC 3339, 5.6): `2026-11-29T03:26:17Z`.
use Rattle.std.specs.Prelude.{ℕ, ◌/◌, ◌%◌, List, ◌++◌, codes}
use Rattle.std.specs.Fmt.{decimal}
use Rattle.der_asn1.specs.declared.times.date_time.DateTime.{DateTime}

-- a number below 100, with two digits
abbrev pub two_decimals : ℕ → List ℕ
two_decimals n = decimal (n / 10) ++ decimal (n % 10)

-- the year with four digits, the month, the day, and the time of day
abbrev pub date_time_text : DateTime → List ℕ
date_time_text t =
    two_decimals (t.year / 100) ++ (two_decimals (t.year % 100) ++ (codes "-"
    ++ (two_decimals t.month ++ (codes "-" ++ (two_decimals t.day ++ (codes "T"
    ++ (two_decimals t.hour ++ (codes ":" ++ (two_decimals t.minute ++ (codes ":"
    ++ (two_decimals t.second ++ codes "Z")))))))))))

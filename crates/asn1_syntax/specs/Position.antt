-- Positions in a text: lines end at the octet 10, and columns count octets.
use Rattle.std.specs.Prelude.{◌+◌, ◌==◌, ℕ, List, Option, Some, None, length, count_by, reverse, position}

-- one more than the number of line ends before
abbrev pub line_after : List ℕ → ℕ
line_after before = count_by (λ x. x == 10) before + 1

-- the index of the last line end, from the back
abbrev pub last_line_end : List ℕ → Option ℕ
last_line_end before = position (λ x. x == 10) (reverse before)

-- the number of octets after that, of so many
abbrev pub octets_after : Option ℕ → ℕ → ℕ
octets_after None count = count
octets_after (Some index) count = index

-- one more than the number of octets after the last line end
abbrev pub column_after : List ℕ → ℕ
column_after before = octets_after (last_line_end before) (length before) + 1

use Rattle.std.proofs.Common.{◌≡◌, ℕ, ◌+◌, ◌-◌, ◌≤◌}
use Rattle.der_core.proofs.ScanReadLemmas.{Reached}
use Rattle.der_core.proofs.length.indefinite.decode_indefinite_length.Given as goal

abbrev pub invariant-turns : goal.invariant-turns
invariant-turns g l =
    record {
      low : 1 ≤ l.level;
      high : l.level ≤ 64;
      parts : ℕ;
      reached : Reached (g.R.Reader.state l.fn.reader) (g.R.Reader.state l.reader) l.level parts;
      counted : l.turns ≡ l.fn.turns + parts;
    }

abbrev pub decreases-turns : goal.decreases-turns
decreases-turns g l = (g.R.Reader.state l.reader).end - (g.R.Reader.state l.reader).position

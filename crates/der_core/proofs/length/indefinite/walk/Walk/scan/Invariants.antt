use Rattle.std.proofs.Common.{◌≡◌, ℕ, ◌+◌, ◌-◌, ◌≤◌}
use Rattle.der_base.specs.Length.{number}
use Rattle.der_core.specs.Walk.{walked_state, walk_state}
use Rattle.der_core.proofs.ScanReadLemmas.{Reached}
use Rattle.der_core.proofs.length.indefinite.walk.Walk.scan.Given as goal

abbrev pub invariant-turns : goal.invariant-turns
invariant-turns g l =
    record {
      low : 1 ≤ l.level;
      high : l.level ≤ 64;
      parts : ℕ;
      reached : Reached (walked_state l.octets (number l.fn.start) 0) (walk_state l.walk) l.level parts;
      counted : l.turns ≡ l.fn.turns + parts;
    }

abbrev pub decreases-turns : goal.decreases-turns
decreases-turns g l = (walk_state l.walk).end - (walk_state l.walk).position

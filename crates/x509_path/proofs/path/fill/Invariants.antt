use Rattle.std.proofs.Common.{◌≡◌, ◌≤◌, [], length, take}
use Rattle.x509_path.specs.Paths.{AreFactsFrom}
use Rattle.x509_path.proofs.path.fill.Given as goal

abbrev pub invariant-loop-at : goal.invariant-loop-at
invariant-loop-at l =
    AreFactsFrom l.inputs [] (take l.at l.path) (take l.at l.room)
    × (length l.room ≡ length l.initial.room) × (l.at ≤ length l.path)

use Rattle.std.proofs.Common.{◌≡◌, ◌≤◌, length, take}
use Rattle.x509_build.specs.Pools.{path_of}
use Rattle.x509_build.proofs.room.put_path.Given as goal

abbrev pub invariant-loop-at : goal.invariant-loop-at
invariant-loop-at l = (take l.at l.room ≡ take l.at (path_of l.pool l.chain)) × (l.at ≤ length l.chain)

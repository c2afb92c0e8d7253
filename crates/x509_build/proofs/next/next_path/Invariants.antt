use Rattle.std.proofs.Common.{◌≡◌, ◌⊎◌, ◌≤◌, length}
use Rattle.x509_build.specs.Builds.{IsFound, IsRefused, Passes}
use Rattle.x509_build.proofs.next.next_path.Given as goal

abbrev pub invariant-loop-length : goal.invariant-loop-length
invariant-loop-length l =
    (l.search.count ≡ l.fn.search.count) × (l.search.depth ≡ l.fn.search.depth)
    × (((l.search ≡ l.fn.search) × (l.chain ≡ l.fn.chain)) ⊎ (l.fn.search.depth ≤ length l.fn.chain))
    × Passes (IsFound l.pool l.fn.search) (IsRefused l.pool) l.fn.search.place l.fn.chain l.search.place l.chain

abbrev pub decreases-loop-length : goal.decreases-loop-length
decreases-loop-length l = l.search.steps

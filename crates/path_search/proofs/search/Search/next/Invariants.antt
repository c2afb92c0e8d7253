use Rattle.std.proofs.Common.{◌≡◌, ◌≤◌, length, take}
use Rattle.path_search.specs.Chains.{IsChain, IsPath}
use Rattle.path_search.specs.Places.{LeavesAll}
use Rattle.path_search.proofs.search.Search.next.Given as goal

abbrev pub invariant-loop-place : goal.invariant-loop-place
invariant-loop-place g l =
    (l.self.count ≡ l.fn.self.count) × (l.self.depth ≡ l.fn.self.depth) × (length l.room ≡ length l.fn.room)
    × IsChain (g.G.Candidates.follows l.fn.candidates) l.count (take l.place.length l.room)
    × LeavesAll (IsPath (g.G.Candidates.follows l.fn.candidates) (g.G.Candidates.is_whole l.fn.candidates) l.count l.depth) l.fn.self.place l.fn.room l.place l.room
    × (l.self.steps ≤ l.fn.self.steps)

abbrev pub decreases-loop-place : goal.decreases-loop-place
decreases-loop-place g l = l.self.steps

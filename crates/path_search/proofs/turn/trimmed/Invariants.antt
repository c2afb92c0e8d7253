use Rattle.std.proofs.Common.{take}
use Rattle.path_search.specs.Chains.{IsChain}
use Rattle.path_search.proofs.turn.trimmed.Given as goal

abbrev pub invariant-loop-length : goal.invariant-loop-length
invariant-loop-length g l = IsChain (g.G.Candidates.follows l.fn.candidates) l.fn.count (take l.length l.fn.room)

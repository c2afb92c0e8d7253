use Rattle.std.proofs.Common.{take, rules}
use Rattle.path_search.proofs.FindsLemmas.{finds_later}
use Rattle.path_search.specs.Chains.{IsPath}
use Rattle.path_search.proofs.search.Search.next.Goals as goal

pub returns-in-Found-clause-step : goal.returns-in-Found-clause-step
returns-in-Found-clause-step g c =
    let s = c.args.self.now in
    let P = IsPath (g.G.Candidates.follows c.args.candidates.now) (g.G.Candidates.is_whole c.args.candidates.now) s.count s.depth in
    let q = c.loop-place.place in
    finds_later P s.place c.args.room.now q c.loop-place.room c.in-Found.after c.take_turn.new.room (take q.length c.take_turn.new.room) c.loop-place.invariant.4
    (c.in-Found.ensures.turn s.depth (search rules))

use Rattle.path_search.proofs.RunLemmas.{finds_once}
use Rattle.path_search.specs.Chains.{IsPath}
use Rattle.path_search.proofs.laws.finds_no_path_twice.Goals as goal

pub returns : goal.returns
returns g c =
    finds_once (IsPath (g.G.Candidates.follows c.args.candidates.now) (g.G.Candidates.is_whole c.args.candidates.now) c.args.count c.args.depth)

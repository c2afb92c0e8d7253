use Rattle.path_search.proofs.RunLemmas.{finds_each}
use Rattle.path_search.specs.Chains.{IsPath}
use Rattle.path_search.proofs.laws.finds_each_path.Goals as goal

pub returns : goal.returns
returns g c =
    finds_each (IsPath (g.G.Candidates.follows c.args.candidates.now) (g.G.Candidates.is_whole c.args.candidates.now) c.args.count c.args.depth)

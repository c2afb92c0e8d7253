use Rattle.x509_build.proofs.RunLemmas.{finds_kept}
use Rattle.x509_build.specs.Builds.{IsFound, IsKept, IsRefused}
use Rattle.x509_build.proofs.laws.finds_paths_alone.Goals as goal

pub returns : goal.returns
returns c = finds_kept (IsFound c.args.pool.now c.args.search.now) (IsKept c.args.pool.now) (IsRefused c.args.pool.now)

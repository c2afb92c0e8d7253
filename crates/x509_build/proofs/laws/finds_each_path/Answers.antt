use Rattle.x509_build.proofs.RunLemmas.{finds_each}
use Rattle.x509_build.specs.Builds.{IsFound, IsKept, IsRefused}
use Rattle.x509_build.proofs.laws.finds_each_path.Goals as goal

pub returns : goal.returns
returns c = finds_each (IsFound c.args.pool.now c.args.search.now) (IsKept c.args.pool.now) (IsRefused c.args.pool.now)

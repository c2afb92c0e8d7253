use Rattle.std.proofs.Common.{Some, ◌∙◌, ap, sym, arith}
use Rattle.x509_build.proofs.PoolLemmas.{inputs_here, inputs_past, no_inputs}
use Rattle.x509_build.proofs.issuing.inputs_at.Goals as goal

pub returns-then-candidate-pool : goal.returns-then-candidate-pool
returns-then-candidate-pool c = no_inputs c.args.pool.now c.args.candidate (omega arith)

pub returns-then-index-pool : goal.returns-then-index-pool
returns-then-index-pool c =
    ap Some (sym c.index-pool-index.is)
    ∙ inputs_here c.args.pool.now c.args.candidate _ (omega arith) (omega arith) c.index-pool-index.is

pub returns : goal.returns
returns c = inputs_past c.args.pool.now c.args.candidate (omega arith) (omega arith)

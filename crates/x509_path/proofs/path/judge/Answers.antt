use Rattle.std.proofs.Common.{arith}
use Rattle.x509_path.proofs.path.judge.Goals as goal

pub returns : goal.returns
returns c = (omega arith, (_, c.fill.ensures.facts, c.path_answer.ensures))

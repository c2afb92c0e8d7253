use Rattle.x509_path.proofs.JudgementLemmas.{judged}
use Rattle.x509_path.proofs.path.judge_path.Goals as goal

pub returns-in-Some : goal.returns-in-Some
returns-in-Some c = judged c.judgement_of.result c.args.inputs.now c.args.path.now _ c.in-Some.ensures.0 c.judgement_of.ensures

use Rattle.x509_path.proofs.JudgementLemmas.{empty_path}
use Rattle.x509_path.proofs.path.judgement_of.Goals as goal

pub returns-in-Empty : goal.returns-in-Empty
returns-in-Empty c = empty_path c.args.inputs.now c.args.path.now c.args.answer c.in-Empty.is c.requires

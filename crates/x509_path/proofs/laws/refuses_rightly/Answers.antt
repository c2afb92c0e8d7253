use Rattle.x509_path.proofs.FactLemmas.{refusal_refutes, refused_rightly}
use Rattle.x509_path.proofs.laws.refuses_rightly.Goals as goal

pub returns-clause-answer : goal.returns-clause-answer
returns-clause-answer c = λ one verify a i path is other valid. refused_rightly one verify a i path is other valid

pub returns-clause-refusal : goal.returns-clause-refusal
returns-clause-refusal c = λ one verify why i path is valid. refusal_refutes one verify why i path is valid

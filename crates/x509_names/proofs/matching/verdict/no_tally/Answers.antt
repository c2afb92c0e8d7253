use Rattle.x509_names.proofs.VerdictLemmas.{none_of}
use Rattle.x509_names.proofs.matching.verdict.no_tally.Goals as goal

pub returns : goal.returns
returns c = none_of

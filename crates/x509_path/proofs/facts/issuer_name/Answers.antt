use Rattle.x509_path.proofs.IssuerLemmas.{name_at_end}
use Rattle.x509_path.proofs.facts.issuer_name.Goals as goal

pub returns : goal.returns
returns c = name_at_end c.args.inputs.now c.args.before.now _ c.if-before-eq0.false

use Rattle.x509_path.proofs.IssuerLemmas.{key_at_end}
use Rattle.x509_path.proofs.obligation.issuer_key.Goals as goal

pub returns : goal.returns
returns c = key_at_end c.args.inputs.now c.args.before.now _ c.if-before-eq0.false

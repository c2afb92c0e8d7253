use Rattle.std.proofs.Common.{◌↔◌, IsTrue, subst}
use Rattle.x509_names.specs.NameMatching.{NamesMatch}
use Rattle.x509_path.proofs.facts.is_chained.Goals as goal

pub returns : goal.returns
returns c = subst (λ n. IsTrue c.names_match.result ↔ NamesMatch c.args.signed.now.issuer n) c.issuer_name.ensures c.names_match.ensures

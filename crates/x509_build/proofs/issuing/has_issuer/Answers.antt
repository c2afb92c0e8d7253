use Rattle.x509_build.specs.Pools.{HasIssuer}
use Rattle.x509_build.proofs.issuing.has_issuer.Goals as goal

pub returns : goal.returns
unfolding HasIssuer
returns c = c.names_match.ensures

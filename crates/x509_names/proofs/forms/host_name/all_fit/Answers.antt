use Rattle.std.proofs.Common.{below_more}
use Rattle.x509_names.specs.HostNames.{FitsHost}
use Rattle.x509_names.proofs.forms.host_name.all_fit.Goals as goal

pub loop-at-preserved : goal.loop-at-preserved
loop-at-preserved c = below_more (λ k. FitsHost c.args.octets.now k) c.loop-at.at c.loop-at.invariant (c.fits_host.ensures.0 c.if-not-fits_host.false)

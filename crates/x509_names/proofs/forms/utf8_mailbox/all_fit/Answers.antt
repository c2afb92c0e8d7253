use Rattle.std.proofs.Common.{below_more}
use Rattle.x509_names.specs.Comparable.{FitsUtf8Local}
use Rattle.x509_names.proofs.forms.utf8_mailbox.all_fit.Goals as goal

pub loop-at-preserved : goal.loop-at-preserved
loop-at-preserved c = below_more (λ k. FitsUtf8Local c.args.octets.now k) c.loop-at.at c.loop-at.invariant (c.fits_utf8_local.ensures.0 c.if-not-fits_utf8_local.false)

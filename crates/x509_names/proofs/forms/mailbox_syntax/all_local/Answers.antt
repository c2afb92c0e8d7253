use Rattle.std.proofs.Common.{below_more}
use Rattle.x509_names.specs.Mailboxes.{FitsLocal}
use Rattle.x509_names.proofs.forms.mailbox_syntax.all_local.Goals as goal

pub loop-at-preserved : goal.loop-at-preserved
loop-at-preserved c = below_more (λ k. FitsLocal c.args.octets.now k) c.loop-at.at c.loop-at.invariant (c.fits_local.ensures.0 c.if-not-fits_local.false)

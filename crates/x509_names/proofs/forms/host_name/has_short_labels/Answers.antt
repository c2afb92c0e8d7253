use Rattle.std.proofs.Common.{◌≡◌, false, true, arith}
use Rattle.x509_names.proofs.LabelLemmas.{more_short, next_label, too_long}
use Rattle.x509_names.proofs.forms.host_name.has_short_labels.Goals as goal

pub returns-then-at-begin-gt63 : goal.returns-then-at-begin-gt63
returns-then-at-begin-gt63 c =
    let label = next_label c.args.octets.now c.loop-at.begin c.loop-at.at c.label_begin-begin.result c.loop-at.invariant.0 c.label_begin-begin.ensures.dot c.label_begin-begin.ensures.other in (
      λ e. absurd (let wrong : false ≡ true = e in cc),
      λ h. absurd (too_long c.args.octets.now c.label_begin-begin.result c.loop-at.at label (omega arith) c.loop-at-test.true h),
    )

pub loop-at-preserved : goal.loop-at-preserved
loop-at-preserved c =
    let label = next_label c.args.octets.now c.loop-at.begin c.loop-at.at c.label_begin-begin.result c.loop-at.invariant.0 c.label_begin-begin.ensures.dot c.label_begin-begin.ensures.other in (
      label,
      omega arith,
      more_short c.args.octets.now c.label_begin-begin.result c.loop-at.at label (omega arith) c.loop-at.invariant.2,
    )

use Rattle.x509_names.proofs.CheckLemmas.{fails}
use Rattle.x509_names.proofs.WildcardLemmas.{some_label, some_more, some_plain}
use Rattle.x509_names.proofs.forms.wildcard.is_some_below_host.Goals as goal

pub returns-then-not-has_asterisk : goal.returns-then-not-has_asterisk
returns-then-not-has_asterisk c = some_plain c.args.base.now c.args.name.now c.is_below_host.result (fails c.has_asterisk.result c.if-not-has_asterisk.true c.has_asterisk.ensures) c.is_below_host.ensures

pub returns-then-has_more_labels : goal.returns-then-has_more_labels
returns-then-has_more_labels c = some_more c.args.base.now c.args.name.now c.has_more_labels.result (c.has_asterisk.ensures.0 c.if-not-has_asterisk.false) c.if-has_more_labels.true c.has_more_labels.ensures

pub returns-else-has_more_labels : goal.returns-else-has_more_labels
returns-else-has_more_labels c =
    some_label c.args.base.now c.args.name.now c.rest.result.now c.has_label_before.result (c.has_asterisk.ensures.0 c.if-not-has_asterisk.false)
    (fails c.has_more_labels.result c.if-has_more_labels.false c.has_more_labels.ensures) c.rest.ensures c.has_label_before.ensures

use Rattle.x509_names.proofs.CheckLemmas.{fails}
use Rattle.x509_names.proofs.WildcardLemmas.{all_below, all_plain}
use Rattle.x509_names.proofs.forms.wildcard.are_all_below_host.Goals as goal

pub returns-then-has_asterisk : goal.returns-then-has_asterisk
returns-then-has_asterisk c = all_below c.args.base.now c.args.name.now c.has_more_labels.result (c.has_asterisk.ensures.0 c.if-has_asterisk.true) c.has_more_labels.ensures

pub returns : goal.returns
returns c = all_plain c.args.base.now c.args.name.now c.is_below_host.result (fails c.has_asterisk.result c.if-has_asterisk.false c.has_asterisk.ensures) c.is_below_host.ensures

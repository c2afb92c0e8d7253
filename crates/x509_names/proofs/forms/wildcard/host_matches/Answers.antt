use Rattle.x509_names.proofs.CheckLemmas.{fails}
use Rattle.x509_names.proofs.WildcardLemmas.{host_plain, host_with}
use Rattle.x509_names.proofs.forms.wildcard.host_matches.Goals as goal

pub returns-then-has_asterisk : goal.returns-then-has_asterisk
returns-then-has_asterisk c = host_with c.args.presented.now c.args.wanted.now c.rest.result.now c.has_label_before.result (c.has_asterisk.ensures.0 c.if-has_asterisk.true) c.rest.ensures c.has_label_before.ensures

pub returns : goal.returns
returns c = host_plain c.args.presented.now c.args.wanted.now c.is_same_host.result (fails c.has_asterisk.result c.if-has_asterisk.false c.has_asterisk.ensures) c.is_same_host.ensures

use Rattle.std.proofs.Common.{◌-◌, length, arith}
use Rattle.x509_names.proofs.CheckLemmas.{and_first, and_with, moved}
use Rattle.x509_names.proofs.WildcardLemmas.{label_before, too_short}
use Rattle.x509_names.specs.Hosts.{IsSameHost}
use Rattle.x509_names.specs.Wildcards.{IsLabel}
use Rattle.x509_names.proofs.forms.wildcard.has_label_before.Goals as goal

pub returns-then-is_label : goal.returns-then-is_label
returns-then-is_label c =
    label_before c.args.end.now c.args.name.now (length c.args.name.now - length c.args.end.now) c.is_same_host.result (omega arith)
    (and_with c.is_same_host.result ((moved IsLabel _ _ c.is_label.result c.front.ensures c.is_label.ensures).0 c.if-is_label.true)
    (moved (λ x. IsSameHost x c.args.end.now) _ _ c.is_same_host.result c.rest.ensures c.is_same_host.ensures))

pub returns-else-is_label : goal.returns-else-is_label
returns-else-is_label c =
    label_before c.args.end.now c.args.name.now (length c.args.name.now - length c.args.end.now) c.is_label.result (omega arith)
    (and_first c.is_label.result c.if-is_label.false (moved IsLabel _ _ c.is_label.result c.front.ensures c.is_label.ensures))

pub returns-then-name-end : goal.returns-then-name-end
returns-then-name-end c = too_short c.args.end.now c.args.name.now c.if-name-end.true

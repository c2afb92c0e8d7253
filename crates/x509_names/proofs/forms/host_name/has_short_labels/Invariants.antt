use Rattle.std.proofs.Common.{◌+◌, ◌≤◌}
use Rattle.x509_names.proofs.LabelLemmas.{AreShort, IsLabel}
use Rattle.x509_names.proofs.forms.host_name.has_short_labels.Given as goal

abbrev pub invariant-loop-at : goal.invariant-loop-at
invariant-loop-at l = IsLabel l.octets l.begin l.at × (l.at ≤ l.begin + 63) × AreShort l.octets l.at

use Rattle.std.proofs.Common.{ℕ, ◌<◌}
use Rattle.x509_names.specs.Mailboxes.{FitsQuoted}
use Rattle.x509_names.proofs.forms.mailbox_syntax.all_quoted.Given as goal

abbrev pub invariant-loop-at : goal.invariant-loop-at
invariant-loop-at l = (k : ℕ) → k < l.at → FitsQuoted l.octets k

use Rattle.std.proofs.Common.{◌≡◌, ◌≤◌, ◌+◌, length, count_by}
use Rattle.std.specs.Str.{bytes_eq}
use Rattle.x509_lint.proofs.checks.extensions.instances.Given as goal

abbrev pub invariant-loop-extension : goal.invariant-loop-extension
invariant-loop-extension l =
    (goal.iterator-loop-extension).can_next l.extension-iterator ×
    (goal.iterator-loop-extension).is_finite l.extension-iterator
    × (l.count ≡ count_by (λ v. bytes_eq v.extn_id.octets.now l.fn.id) l.yielded)
    × (l.count + goal.iterator-loop-extension.remaining l.extension-iterator ≤ length l.fn.extensions.items.octets.now)

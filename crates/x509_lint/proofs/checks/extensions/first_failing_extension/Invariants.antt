use Rattle.std.proofs.Common.{◌≡◌, ◌≤◌, ◌+◌, length, All}
use Rattle.x509_lint.specs.CertificateChecks.{ExtensionKeeps}
use Rattle.x509.specs.CertificateLists.{AreExtensions}
use Rattle.x509_lint.proofs.checks.extensions.first_failing_extension.Given as goal

abbrev pub invariant-loop-extension : goal.invariant-loop-extension
invariant-loop-extension l =
    (goal.iterator-loop-extension).can_next l.extension-iterator ×
    (goal.iterator-loop-extension).is_finite l.extension-iterator
    × (l.place ≡ length l.yielded)
    × (l.place + goal.iterator-loop-extension.remaining l.extension-iterator ≤ length l.fn.extensions.items.octets.now)
    × ((items : AreExtensions l.fn.extensions) → All (ExtensionKeeps l.fn.rule items.items) l.yielded)

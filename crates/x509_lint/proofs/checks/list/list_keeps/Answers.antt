use Rattle.std.proofs.Common.{◌≡◌, ◌↔◌, true, sym, subst}
use Rattle.x509_lint.specs.ListRules.{ListKeeps}
use Rattle.x509_lint.proofs.checks.list.list_keeps.Goals as goal

pub returns-in-RemovedInChanges : goal.returns-in-RemovedInChanges
returns-in-RemovedInChanges c =
    subst (λ r. (c.has_removed_in_changes.result ≡ true) ↔ ListKeeps r c.args.list.now) (sym c.in-RemovedInChanges.is) c.has_removed_in_changes.ensures

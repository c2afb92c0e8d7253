use Rattle.std.proofs.Common.{◌≡◌, ◌↔◌, true, List, ℕ, subst}
use Rattle.x509_lint.specs.Elements.{EachElement}
use Rattle.x509_lint.specs.EntryTests.{EntryKeeps}
use Rattle.x509_lint.proofs.checks.list.entries_of_keep.Goals as goal

pub returns-in-Some : goal.returns-in-Some
returns-in-Some c =
    rw c.in-Some.is (subst (λ (o : List ℕ). (c.entries_keep.result ≡ true) ↔ EachElement (EntryKeeps c.args.test) o) c.octets.ensures.value c.entries_keep.ensures)

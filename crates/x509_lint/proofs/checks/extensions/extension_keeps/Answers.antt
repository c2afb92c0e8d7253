use Rattle.std.proofs.Common.{◌≡◌, ◌≤◌, sym, ap, subst, ◌∙◌, leb-true}
use Rattle.std.proofs.lemmas.Bool.{le-leb}
use Rattle.x509_lint.specs.ExtensionChecks.{instances}
use Rattle.x509_lint.proofs.checks.extensions.extension_keeps.Goals as goal

pub returns-in-Instances : goal.returns-in-Instances
returns-in-Instances c l =
    let same : c.instances.result ≡ instances c.args.extension.now.extn_id.octets.now l.items = c.instances.ensures l ∙ ap (λ i. instances i l.items) c.octets.ensures.value in
    rw c.in-Instances.is (
      λ e. subst (λ n. n ≤ 1) same (leb-true c.instances.result 1 e),
      λ h. le-leb c.instances.result 1 (subst (λ n. n ≤ 1) (sym same) h),
    )

use Rattle.std.proofs.Common.{IfSome, sym, subst}
use Rattle.std.specs.Prelude.{IsSomeAnd}
use Rattle.x509_lint.proofs.FirstLemmas.{all_listed, some_refutes}
use Rattle.x509_lint.specs.CertificateChecks.{ExtensionKeeps, ExtensionsKeep}
use Rattle.x509.specs.CertificateLists.{IsExtension, extension_encoding}
use Rattle.x509_lint.specs.Lint.{IsFirstExtension}
use Rattle.x509_lint.proofs.broken.extension_place.Goals as goal

pub returns-in-Some-first_failing_extension-clause-some : goal.returns-in-Some-first_failing_extension-clause-some
returns-in-Some-first_failing_extension-clause-some c =
    let v = c.in-Some.extensions.0 in
    let rule = c.args.rule in
    let place = c.in-Some-first_failing_extension.place in
    let first = c.in-Some-first_failing_extension.ensures in
    subst (λ o. (IfSome o (λ e. ExtensionsKeep rule e.0) → ⊥) × IsSomeAnd o (λ e. IsFirstExtension rule e.0 place)) (sym c.in-Some.is)
    (some_refutes IsExtension extension_encoding v.items.octets.now (ExtensionKeeps rule) place first, first)

pub returns-in-None-first_failing_extension-clause-none : goal.returns-in-None-first_failing_extension-clause-none
returns-in-None-first_failing_extension-clause-none c =
    let v = c.in-Some.extensions.0 in
    let rule = c.args.rule in
    subst (λ o. IfSome o (λ e. ExtensionsKeep rule e.0)) (sym c.in-Some.is)
    (all_listed IsExtension extension_encoding v.items.octets.now (ExtensionKeeps rule) v.items.checked c.in-None-first_failing_extension.ensures)

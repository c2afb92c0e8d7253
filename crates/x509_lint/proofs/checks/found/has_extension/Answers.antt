use Rattle.std.proofs.Common.{◌≡◌, [], ◌∷◌, length, true, false, refl, ap, ◌∙◌}
use Rattle.std.proofs.Math.Logic.{∥∥₁_map}
use Rattle.std.proofs.lemmas.Grind.{not_there}
use Rattle.std.proofs.lemmas.List.Elements.{All-append, All-cons, All-nil}
use Rattle.der.specs.Prelude.{rest_of, slice_state}
use Rattle.x509.proofs.EncodingLemmas.{extensions_apart}
use Rattle.x509_lint.proofs.FirstLemmas.{not_first}
use Rattle.x509.proofs.ItemLemmas.{finished, stopped_with}
use Rattle.x509_lint.proofs.KeepLemmas.{found_keep, other_keep}
use Rattle.x509.specs.CertificateLists.{IsExtension, extension_encoding}
use Rattle.x509_lint.specs.ExtensionTests.{IsFound}
use Rattle.x509_lint.proofs.checks.found.has_extension.Given as given
use Rattle.x509_lint.proofs.checks.found.has_extension.Goals as goal

pub returns-then-is_found : goal.returns-then-is_found
returns-then-is_found c = (
  λ _. ∥∥₁_map c.args.extensions.now.items.checked (λ l. (
    l,
    length c.loop-extension.yielded,
    stopped_with IsExtension extension_encoding extensions_apart (λ v. IsFound c.args.test v → ⊥) (other_keep c.args.test) given.iterator-loop-extension.next_gives (λ s. rest_of (slice_state s.items.reader)) (λ s v t h. (h.0, h.1.split))
        _ c.loop-extension.yielded _ _ c.loop-extension.yielded_by (ap (λ s. rest_of (slice_state s.items.reader)) c.into_iter-extension-iterator.ensures.into_iter_gives ∙ c.iter-extension-items.ensures) l
        (IsFound c.args.test) (found_keep c.args.test) c.loop-extension.invariant.2 c.in-Some.extension c.next.new.self (length c.loop-extension.yielded) c.in-Some.ensures.steps
        (c.is_found.ensures.0 c.if-is_found.true) refl,
  )),
  λ _. refl,
)

pub loop-extension-preserved : goal.loop-extension-preserved
loop-extension-preserved c = (
  tt,
  tt,
  All-append (λ v. IsFound c.args.test v → ⊥) c.loop-extension.yielded (c.in-Some.extension ∷ []) c.loop-extension.invariant.2
      (All-cons (λ v. IsFound c.args.test v → ⊥) c.in-Some.extension []
      (λ h. (let yes = c.is_found.ensures.1 h in let no = c.if-is_found.false in cc)) (All-nil (λ v. IsFound c.args.test v → ⊥))),
)

pub returns : goal.returns
returns c = (
  λ e. absurd (let no : false ≡ true = e in cc),
  λ h. absurd (not_there h (λ x. (
      let l = x.0 in
      not_first (λ v. IsFound c.args.test v → ⊥) (IsFound c.args.test) l.items x.1 (λ v other h. other h) x.2
      (finished IsExtension extension_encoding extensions_apart (λ v. IsFound c.args.test v → ⊥) (other_keep c.args.test) given.iterator-loop-extension.next_gives (λ s. rest_of (slice_state s.items.reader)) (λ s v t h. (h.0, h.1.split))
      _ c.loop-extension.yielded _ _ c.loop-extension.yielded_by (ap (λ s. rest_of (slice_state s.items.reader)) c.into_iter-extension-iterator.ensures.into_iter_gives ∙ c.iter-extension-items.ensures) l
      c.loop-extension.invariant.2 c.in-None.ensures.steps.0)))),
)

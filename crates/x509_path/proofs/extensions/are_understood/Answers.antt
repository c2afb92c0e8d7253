use Rattle.std.proofs.Common.{◌≡◌, [], ◌∷◌, length, true, false, refl, ap, ◌∙◌}
use Rattle.std.proofs.Math.Logic.{∥∥₁_map}
use Rattle.std.proofs.lemmas.Grind.{not_there}
use Rattle.std.proofs.lemmas.List.Elements.{All-append, All-cons, All-nil}
use Rattle.der.specs.Prelude.{rest_of, slice_state}
use Rattle.x509.proofs.EncodingLemmas.{extensions_apart}
use Rattle.x509.proofs.ItemLemmas.{finished, stopped}
use Rattle.x509.specs.CertificateLists.{IsExtension, extension_encoding}
use Rattle.x509_path.proofs.ExtensionLemmas.{not_all, understood_keep}
use Rattle.x509_path.specs.Extensions.{IsUnderstoodBy}
use Rattle.x509_path.proofs.extensions.are_understood.Given as given
use Rattle.x509_path.proofs.extensions.are_understood.Goals as goal

pub returns-then-not-is_extension_understood : goal.returns-then-not-is_extension_understood
returns-then-not-is_extension_understood c =
    let P = IsUnderstoodBy c.args.judges_policies in (
      λ e. absurd (let f : false ≡ true = e in cc),
      λ all. absurd (not_there all (λ x. not_all P x.0.items (length c.loop-extension.yielded)
          (stopped IsExtension extension_encoding extensions_apart P (understood_keep c.args.judges_policies) given.iterator-loop-extension.next_gives (λ s. rest_of (slice_state s.items.reader)) (λ s v t h. (h.0, h.1.split))
          _ c.loop-extension.yielded _ _ c.loop-extension.yielded_by (ap (λ s. rest_of (slice_state s.items.reader)) c.into_iter-extension-iterator.ensures.into_iter_gives ∙ c.iter-extension-items.ensures) x.0
          c.loop-extension.invariant.2 c.in-Some.extension c.next.new.self (length c.loop-extension.yielded) c.in-Some.ensures.steps
          (λ h. (let yes = c.is_extension_understood.ensures.1 h in let wrong = c.if-not-is_extension_understood.true in cc)) refl)
          x.1)),
    )

pub loop-extension-preserved : goal.loop-extension-preserved
loop-extension-preserved c =
    let P = IsUnderstoodBy c.args.judges_policies in (
      tt,
      tt,
      All-append P c.loop-extension.yielded (c.in-Some.extension ∷ []) c.loop-extension.invariant.2
          (All-cons P c.in-Some.extension [] (c.is_extension_understood.ensures.0 c.if-not-is_extension_understood.false) (All-nil P)),
    )

pub returns : goal.returns
returns c =
    let P = IsUnderstoodBy c.args.judges_policies in (
      λ _. ∥∥₁_map c.args.extensions.now.items.checked (λ l. (
        l,
        finished IsExtension extension_encoding extensions_apart P (understood_keep c.args.judges_policies) given.iterator-loop-extension.next_gives (λ s. rest_of (slice_state s.items.reader)) (λ s v t h. (h.0, h.1.split))
            _ c.loop-extension.yielded _ _ c.loop-extension.yielded_by (ap (λ s. rest_of (slice_state s.items.reader)) c.into_iter-extension-iterator.ensures.into_iter_gives ∙ c.iter-extension-items.ensures) l
            c.loop-extension.invariant.2 c.in-None.ensures.steps.0,
      )),
      λ _. refl,
    )

use Rattle.std.proofs.Common.{[], ◌∷◌, ap, ◌∙◌, arith}
use Rattle.std.proofs.lemmas.List.{length_push}
use Rattle.std.proofs.lemmas.List.Elements.{All-append, All-cons, All-nil}
use Rattle.der.specs.Prelude.{rest_of, slice_state}
use Rattle.x509.proofs.EncodingLemmas.{extensions_apart}
use Rattle.x509.proofs.ItemLemmas.{finished, stopped}
use Rattle.x509_lint.proofs.KeepLemmas.{extension_keep}
use Rattle.x509.specs.CertificateLists.{IsExtension, extension_encoding}
use Rattle.x509_lint.specs.CertificateChecks.{ExtensionKeeps}
use Rattle.x509_lint.proofs.checks.extensions.first_failing_extension.Given as given
use Rattle.x509_lint.proofs.checks.extensions.first_failing_extension.Goals as goal

pub returns-then-not-extension_keeps : goal.returns-then-not-extension_keeps
returns-then-not-extension_keeps c l =
    stopped IsExtension extension_encoding extensions_apart (ExtensionKeeps c.args.rule l.items) (extension_keep c.args.rule l.items) given.iterator-loop-extension.next_gives (λ s. rest_of (slice_state s.items.reader)) (λ s v t h. (h.0, h.1.split))
    _ c.loop-extension.yielded _ _ c.loop-extension.yielded_by (ap (λ s. rest_of (slice_state s.items.reader)) c.into_iter-extension-iterator.ensures.into_iter_gives ∙ c.iter-extension-items.ensures) l
    (c.loop-extension.invariant.4 l) c.in-Some.extension c.next.new.self c.loop-extension.place c.in-Some.ensures.steps
    (λ h. (let yes = (c.extension_keeps.ensures l).1 h in let no = c.if-not-extension_keeps.true in cc)) c.loop-extension.invariant.2

pub loop-extension-preserved : goal.loop-extension-preserved
loop-extension-preserved c =
    let fewer = (c.in-Some.ensures.goes.on c.loop-extension.invariant.1).2 in
    let longer = length_push c.loop-extension.yielded c.in-Some.extension in (
      tt,
      tt,
      omega (arith, longer, c.loop-extension.invariant.2),
      omega (arith, fewer, c.loop-extension.invariant.3),
      λ l. All-append (ExtensionKeeps c.args.rule l.items) c.loop-extension.yielded (c.in-Some.extension ∷ []) (c.loop-extension.invariant.4 l) (All-cons (ExtensionKeeps c.args.rule l.items) c.in-Some.extension [] ((c.extension_keeps.ensures l).0 c.if-not-extension_keeps.false) (All-nil (ExtensionKeeps c.args.rule l.items))),
    )

pub returns : goal.returns
returns c l =
    finished IsExtension extension_encoding extensions_apart (ExtensionKeeps c.args.rule l.items) (extension_keep c.args.rule l.items) given.iterator-loop-extension.next_gives (λ s. rest_of (slice_state s.items.reader)) (λ s v t h. (h.0, h.1.split))
    _ c.loop-extension.yielded _ _ c.loop-extension.yielded_by (ap (λ s. rest_of (slice_state s.items.reader)) c.into_iter-extension-iterator.ensures.into_iter_gives ∙ c.iter-extension-items.ensures) l
    (c.loop-extension.invariant.4 l) c.in-None.ensures.steps.0

use Rattle.std.proofs.Common.{[], ◌∷◌, ap, ◌∙◌, arith}
use Rattle.std.proofs.lemmas.List.{length_push}
use Rattle.std.proofs.lemmas.List.Elements.{All-append, All-cons, All-nil}
use Rattle.der.specs.Prelude.{rest_of, slice_state}
use Rattle.x509.proofs.EncodingLemmas.{attributes_apart}
use Rattle.x509.proofs.ItemLemmas.{finished, stopped}
use Rattle.x509_lint.proofs.KeepLemmas.{attribute_keep}
use Rattle.x509.specs.CertificateLists.{IsAttribute, attribute_encoding}
use Rattle.x509_lint.specs.NameChecks.{AttributeKeeps}
use Rattle.x509_lint.proofs.checks.name.first_failing_of_level.Given as given
use Rattle.x509_lint.proofs.checks.name.first_failing_of_level.Goals as goal

pub returns-then-not-attribute_keeps : goal.returns-then-not-attribute_keeps
returns-then-not-attribute_keeps c l =
    stopped IsAttribute attribute_encoding attributes_apart (AttributeKeeps c.args.rule) (attribute_keep c.args.rule) given.iterator-loop-attribute.next_gives (λ s. rest_of (slice_state s.items.reader)) (λ s v t h. (h.0, h.1.split))
    _ c.loop-attribute.yielded _ _ c.loop-attribute.yielded_by (ap (λ s. rest_of (slice_state s.items.reader)) c.into_iter-attribute-iterator.ensures.into_iter_gives ∙ c.iter-attribute-items.ensures) l
    c.loop-attribute.invariant.4 c.in-Some.attribute c.next.new.self c.loop-attribute.place c.in-Some.ensures.steps
    (λ h. (let yes = c.attribute_keeps.ensures.1 h in let no = c.if-not-attribute_keeps.true in cc)) c.loop-attribute.invariant.2

pub loop-attribute-preserved : goal.loop-attribute-preserved
loop-attribute-preserved c =
    let fewer = (c.in-Some.ensures.goes.on c.loop-attribute.invariant.1).2 in
    let longer = length_push c.loop-attribute.yielded c.in-Some.attribute in (
      tt,
      tt,
      omega (arith, longer, c.loop-attribute.invariant.2),
      omega (arith, fewer, c.loop-attribute.invariant.3),
      All-append (AttributeKeeps c.args.rule) c.loop-attribute.yielded (c.in-Some.attribute ∷ []) c.loop-attribute.invariant.4 (All-cons (AttributeKeeps c.args.rule) c.in-Some.attribute [] (c.attribute_keeps.ensures.0 c.if-not-attribute_keeps.false) (All-nil (AttributeKeeps c.args.rule))),
    )

pub returns : goal.returns
returns c l =
    finished IsAttribute attribute_encoding attributes_apart (AttributeKeeps c.args.rule) (attribute_keep c.args.rule) given.iterator-loop-attribute.next_gives (λ s. rest_of (slice_state s.items.reader)) (λ s v t h. (h.0, h.1.split))
    _ c.loop-attribute.yielded _ _ c.loop-attribute.yielded_by (ap (λ s. rest_of (slice_state s.items.reader)) c.into_iter-attribute-iterator.ensures.into_iter_gives ∙ c.iter-attribute-items.ensures) l
    c.loop-attribute.invariant.4 c.in-None.ensures.steps.0

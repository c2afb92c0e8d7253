use Rattle.std.proofs.Common.{◌≡◌, [], ◌∷◌, length, true, false, refl, ap, ◌∙◌}
use Rattle.std.proofs.lemmas.List.Elements.{All-append, All-cons, All-nil}
use Rattle.der.specs.Prelude.{rest_of, slice_state}
use Rattle.der_asn1.specs.AnyRef.{IsAny, any_contents}
use Rattle.der_asn1.specs.declared.elements.any.AnyRef.{AnyRef}
use Rattle.x509_lint.proofs.ElementLemmas.{any_apart, any_keep}
use Rattle.std.proofs.lemmas.Grind.{not_there}
use Rattle.x509_lint.proofs.FirstLemmas.{not_all}
use Rattle.x509.proofs.ItemLemmas.{finished, stopped}
use Rattle.x509_lint.specs.Elements.{any_encoding}
use Rattle.x509_lint.proofs.elements.all_keep.Given as given
use Rattle.x509_lint.proofs.elements.all_keep.Goals as goal

pub loop-element-preserved : goal.loop-element-preserved
loop-element-preserved g c =
    let kept = λ (v : AnyRef). g.T.ElementTest.keeps c.args.test.now v.tag (any_contents v) in (
      tt,
      tt,
      All-append kept c.loop-element.yielded (c.in-Some.element ∷ []) c.loop-element.invariant.2
          (All-cons kept c.in-Some.element [] (c.is_kept.ensures.0 c.if-not-is_kept.false) (All-nil kept)),
    )

pub returns-then-not-is_kept : goal.returns-then-not-is_kept
returns-then-not-is_kept g c =
    let keeps = g.T.ElementTest.keeps c.args.test.now in (
      λ e. absurd (let f : false ≡ true = e in cc),
      λ all. absurd (not_there c.args.elements.checked (λ l. not_all (λ v. keeps v.tag (any_contents v)) l.items (length c.loop-element.yielded)
          (stopped IsAny any_encoding any_apart (λ v. keeps v.tag (any_contents v)) (any_keep keeps) (given.iterator-loop-element g).next_gives (λ s. rest_of (slice_state s.items.reader)) (λ s v t h. (h.0, h.1.split))
          _ c.loop-element.yielded _ _ c.loop-element.yielded_by (ap (λ s. rest_of (slice_state s.items.reader)) c.into_iter-element-iterator.ensures.into_iter_gives ∙ c.iter-element-items.ensures) l
          c.loop-element.invariant.2 c.in-Some.element c.next.new.self (length c.loop-element.yielded) c.in-Some.ensures.steps
          (λ h. (let yes = c.is_kept.ensures.1 h in let wrong = c.if-not-is_kept.true in cc)) refl)
          (all c.args.elements.short l))),
    )

pub returns : goal.returns
returns g c =
    let keeps = g.T.ElementTest.keeps c.args.test.now in (
      λ _ short l.
          finished IsAny any_encoding any_apart (λ v. keeps v.tag (any_contents v)) (any_keep keeps) (given.iterator-loop-element g).next_gives (λ s. rest_of (slice_state s.items.reader)) (λ s v t h. (h.0, h.1.split))
          _ c.loop-element.yielded _ _ c.loop-element.yielded_by (ap (λ s. rest_of (slice_state s.items.reader)) c.into_iter-element-iterator.ensures.into_iter_gives ∙ c.iter-element-items.ensures) l
          c.loop-element.invariant.2 c.in-None.ensures.steps.0,
      λ _. refl,
    )

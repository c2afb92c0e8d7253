use Rattle.std.proofs.Common.{true, refl, ap, ◌∙◌}
use Rattle.der.specs.Prelude.{rest_of, slice_state}
use Rattle.x509.proofs.EncodingLemmas.{attributes_apart}
use Rattle.x509.specs.CertificateLists.{IsAttribute, attribute_encoding}
use Rattle.x509_names.proofs.NameLemmas.{keep_none}
use Rattle.x509_names.proofs.WalkLemmas.{begun_both, found, pairs_end, pairs_long, pairs_short, pairs_step, passed, refused}
use Rattle.x509_names.specs.NameMatching.{AreAsMany}
use Rattle.x509_names.proofs.matching.level.are_as_many.Goals as goal

pub loop-attribute-init : goal.loop-attribute-init
loop-attribute-init c =
    (tt, tt, begun_both AreAsMany _ _ _ _ (ap (λ s. rest_of (slice_state s.items.reader)) c.into_iter-attribute-iterator.ensures.into_iter_gives ∙ c.iter-attribute-items.ensures) c.iter-others.ensures)

pub loop-attribute-preserved : goal.loop-attribute-preserved
loop-attribute-preserved c = (
  tt,
  tt,
  passed c.loop-attribute.invariant.2 (pairs_step IsAttribute attribute_encoding attributes_apart (λ _ _. Unit {0}) keep_none true _ _ c.in-Some.attribute c.in-Some-next._other _ _ (record { is = c.in-Some.ensures.steps.0; split = c.in-Some.ensures.steps.1.split }) (record { is = c.in-Some-next.ensures.steps.0; split = c.in-Some-next.ensures.steps.1.split }) tt),
)

pub returns-in-None-next : goal.returns-in-None-next
returns-in-None-next c =
    refused c.loop-attribute.invariant.2 (pairs_short IsAttribute attribute_encoding attributes_apart (λ _ _. Unit {0}) keep_none true _ _ c.in-Some.attribute _ (record { is = c.in-Some.ensures.steps.0; split = c.in-Some.ensures.steps.1.split }) c.in-None-next.ensures.steps.0)

pub returns-in-Some-next-2 : goal.returns-in-Some-next-2
returns-in-Some-next-2 c =
    refused c.loop-attribute.invariant.2 (pairs_long IsAttribute attribute_encoding attributes_apart (λ _ _. Unit {0}) keep_none true _ _ c.in-Some-next-2._other _ c.in-None.ensures.steps.0 (record { is = c.in-Some-next-2.ensures.steps.0; split = c.in-Some-next-2.ensures.steps.1.split }) refl)

pub returns : goal.returns
returns c = found c.loop-attribute.invariant.2 (pairs_end IsAttribute attribute_encoding attributes_apart (λ _ _. Unit {0}) keep_none true _ _ c.in-None.ensures.steps.0 c.in-None-next-2.ensures.steps.0)

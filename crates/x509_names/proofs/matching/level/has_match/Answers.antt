use Rattle.std.proofs.Common.{ap, ◌∙◌}
use Rattle.der.specs.Prelude.{rest_of, slice_state}
use Rattle.x509.proofs.EncodingLemmas.{attributes_apart}
use Rattle.x509.specs.CertificateLists.{IsAttribute, attribute_encoding}
use Rattle.x509_names.proofs.NameLemmas.{keep_second}
use Rattle.x509_names.proofs.WalkLemmas.{begun, found, passed, refused, some_end, some_found, some_step}
use Rattle.x509_names.specs.NameMatching.{AttributesAgree, HasMatch}
use Rattle.x509_names.proofs.matching.level.has_match.Goals as goal

pub loop-other-init : goal.loop-other-init
loop-other-init c = (tt, tt, begun (λ o. HasMatch c.args.matching o c.args.attribute.now) _ _ (ap (λ s. rest_of (slice_state s.items.reader)) c.into_iter-other-iterator.ensures.into_iter_gives ∙ c.iter-other-items.ensures))

pub loop-other-preserved : goal.loop-other-preserved
loop-other-preserved c = (
  tt,
  tt,
  passed c.loop-other.invariant.2 (some_step IsAttribute attribute_encoding attributes_apart (AttributesAgree c.args.matching c.args.attribute.now) (keep_second c.args.matching c.args.attribute.now) _ c.in-Some.other _ (record { is = c.in-Some.ensures.steps.0; split = c.in-Some.ensures.steps.1.split })
      (λ h. (let yes = c.attributes_agree.ensures.1 h in let wrong = c.if-attributes_agree.false in cc))),
)

pub returns-then-attributes_agree : goal.returns-then-attributes_agree
returns-then-attributes_agree c =
    found c.loop-other.invariant.2 (some_found IsAttribute attribute_encoding attributes_apart (AttributesAgree c.args.matching c.args.attribute.now) (keep_second c.args.matching c.args.attribute.now) _ c.in-Some.other _ (record { is = c.in-Some.ensures.steps.0; split = c.in-Some.ensures.steps.1.split }) c.next.new.self.items.left (c.attributes_agree.ensures.0 c.if-attributes_agree.true))

pub returns : goal.returns
returns c = refused c.loop-other.invariant.2 (some_end IsAttribute attribute_encoding attributes_apart (AttributesAgree c.args.matching c.args.attribute.now) (keep_second c.args.matching c.args.attribute.now) _ c.in-None.ensures.steps.0)

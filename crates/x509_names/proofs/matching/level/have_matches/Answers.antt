use Rattle.std.proofs.Common.{ap, ◌∙◌}
use Rattle.der.specs.Prelude.{rest_of, slice_state}
use Rattle.x509.proofs.EncodingLemmas.{attributes_apart}
use Rattle.x509.specs.CertificateLists.{IsAttribute, attribute_encoding, level_octets}
use Rattle.x509_names.proofs.NameLemmas.{keep_match}
use Rattle.x509_names.proofs.WalkLemmas.{begun, each_end, each_step, each_stop, found, passed, refused}
use Rattle.x509_names.specs.NameMatching.{HasMatch, HaveMatches}
use Rattle.x509_names.proofs.matching.level.have_matches.Goals as goal

pub loop-attribute-init : goal.loop-attribute-init
loop-attribute-init c =
    (tt, tt, begun (λ o. HaveMatches c.args.matching o (level_octets c.args.second.now)) _ _ (ap (λ s. rest_of (slice_state s.items.reader)) c.into_iter-attribute-iterator.ensures.into_iter_gives ∙ c.iter-attribute-items.ensures))

pub loop-attribute-preserved : goal.loop-attribute-preserved
loop-attribute-preserved c = (
  tt,
  tt,
  passed c.loop-attribute.invariant.2 (each_step IsAttribute attribute_encoding attributes_apart (HasMatch c.args.matching (level_octets c.args.second.now)) (keep_match c.args.matching (level_octets c.args.second.now)) _ c.in-Some.attribute _ (record { is = c.in-Some.ensures.steps.0; split = c.in-Some.ensures.steps.1.split }) (c.has_match.ensures.0 c.if-not-has_match.false)),
)

pub returns-then-not-has_match : goal.returns-then-not-has_match
returns-then-not-has_match c =
    refused c.loop-attribute.invariant.2 (each_stop IsAttribute attribute_encoding attributes_apart (HasMatch c.args.matching (level_octets c.args.second.now)) (keep_match c.args.matching (level_octets c.args.second.now)) _ c.in-Some.attribute _ (record { is = c.in-Some.ensures.steps.0; split = c.in-Some.ensures.steps.1.split })
    (λ h. (let yes = c.has_match.ensures.1 h in let wrong = c.if-not-has_match.true in cc)))

pub returns : goal.returns
returns c = found c.loop-attribute.invariant.2 (each_end IsAttribute attribute_encoding attributes_apart (HasMatch c.args.matching (level_octets c.args.second.now)) (keep_match c.args.matching (level_octets c.args.second.now)) _ c.in-None.ensures.steps.0)

use Rattle.std.proofs.Common.{ap, ◌∙◌}
use Rattle.der.specs.Prelude.{rest_of, slice_state}
use Rattle.x509.proofs.EncodingLemmas.{levels_apart}
use Rattle.x509.specs.CertificateLists.{IsLevel, level_encoding}
use Rattle.x509_names.proofs.NameLemmas.{keep_levels}
use Rattle.x509_names.proofs.WalkLemmas.{begun_both, found, left_over, pairs_end, pairs_long, pairs_more, pairs_short, pairs_step, pairs_stop, passed, refused}
use Rattle.x509_names.specs.NameMatching.{LevelsAgree, LevelsPair}
use Rattle.x509_names.proofs.matching.name.has_levels_of.Goals as goal

pub loop-level-init : goal.loop-level-init
loop-level-init c =
    (tt, tt, begun_both (LevelsPair c.args.matching c.args.whole) _ _ _ _ (ap (λ s. rest_of (slice_state s.items.reader)) c.into_iter-level-iterator.ensures.into_iter_gives ∙ c.iter-level-items.ensures) c.iter-others.ensures)

pub loop-level-preserved : goal.loop-level-preserved
loop-level-preserved c = (
  tt,
  tt,
  passed c.loop-level.invariant.2 (pairs_step IsLevel level_encoding levels_apart (LevelsAgree c.args.matching) (keep_levels c.args.matching) c.args.whole _ _ c.in-Some.level c.in-Some-next.other _ _ (record { is = c.in-Some.ensures.steps.0; split = c.in-Some.ensures.steps.1.split }) (record { is = c.in-Some-next.ensures.steps.0; split = c.in-Some-next.ensures.steps.1.split })
      (c.levels_agree.ensures.0 c.if-not-levels_agree.false)),
)

pub returns-then-not-levels_agree : goal.returns-then-not-levels_agree
returns-then-not-levels_agree c =
    refused c.loop-level.invariant.2 (pairs_stop IsLevel level_encoding levels_apart (LevelsAgree c.args.matching) (keep_levels c.args.matching) c.args.whole _ _ c.in-Some.level c.in-Some-next.other _ _ (record { is = c.in-Some.ensures.steps.0; split = c.in-Some.ensures.steps.1.split }) (record { is = c.in-Some-next.ensures.steps.0; split = c.in-Some-next.ensures.steps.1.split })
    (λ h. (let yes = c.levels_agree.ensures.1 h in let wrong = c.if-not-levels_agree.true in cc)))

pub returns-in-None-next : goal.returns-in-None-next
returns-in-None-next c =
    refused c.loop-level.invariant.2 (pairs_short IsLevel level_encoding levels_apart (LevelsAgree c.args.matching) (keep_levels c.args.matching) c.args.whole _ _ c.in-Some.level _ (record { is = c.in-Some.ensures.steps.0; split = c.in-Some.ensures.steps.1.split }) c.in-None-next.ensures.steps.0)

pub returns-in-Some-next-2 : goal.returns-in-Some-next-2
returns-in-Some-next-2 c =
    left_over c.args.whole c.loop-level.invariant.2 (pairs_more IsLevel level_encoding levels_apart (LevelsAgree c.args.matching) (keep_levels c.args.matching) c.args.whole _ _ c.in-Some-next-2._other _ c.in-None.ensures.steps.0 (record { is = c.in-Some-next-2.ensures.steps.0; split = c.in-Some-next-2.ensures.steps.1.split }) c.next-2.new.self.items.left)
    (pairs_long IsLevel level_encoding levels_apart (LevelsAgree c.args.matching) (keep_levels c.args.matching) c.args.whole _ _ c.in-Some-next-2._other _ c.in-None.ensures.steps.0 (record { is = c.in-Some-next-2.ensures.steps.0; split = c.in-Some-next-2.ensures.steps.1.split }))

pub returns : goal.returns
returns c = found c.loop-level.invariant.2 (pairs_end IsLevel level_encoding levels_apart (LevelsAgree c.args.matching) (keep_levels c.args.matching) c.args.whole _ _ c.in-None.ensures.steps.0 c.in-None-next-2.ensures.steps.0)

use Rattle.std.proofs.Common.{[], ◌∷◌, ap, ◌∙◌, arith}
use Rattle.std.proofs.lemmas.List.{length_push}
use Rattle.std.proofs.lemmas.List.Elements.{All-append, All-cons, All-nil}
use Rattle.der.specs.Prelude.{rest_of, slice_state}
use Rattle.x509.proofs.EncodingLemmas.{levels_apart}
use Rattle.x509.proofs.ItemLemmas.{finished, stopped}
use Rattle.x509_lint.proofs.KeepLemmas.{level_keep}
use Rattle.x509.specs.CertificateLists.{IsLevel, level_encoding}
use Rattle.x509_lint.specs.NameChecks.{LevelKeeps}
use Rattle.x509_lint.proofs.checks.name.first_failing_level.Given as given
use Rattle.x509_lint.proofs.checks.name.first_failing_level.Goals as goal

pub returns-then-not-level_keeps : goal.returns-then-not-level_keeps
returns-then-not-level_keeps c l =
    stopped IsLevel level_encoding levels_apart (LevelKeeps c.args.rule) (level_keep c.args.rule) given.iterator-loop-level.next_gives (λ s. rest_of (slice_state s.items.reader)) (λ s v t h. (h.0, h.1.split))
    _ c.loop-level.yielded _ _ c.loop-level.yielded_by (ap (λ s. rest_of (slice_state s.items.reader)) c.into_iter-level-iterator.ensures.into_iter_gives ∙ c.iter-level-items.ensures) l
    c.loop-level.invariant.4 c.in-Some.level c.next.new.self c.loop-level.place c.in-Some.ensures.steps
    (λ h. (let yes = c.level_keeps.ensures.1 h in let no = c.if-not-level_keeps.true in cc)) c.loop-level.invariant.2

pub loop-level-preserved : goal.loop-level-preserved
loop-level-preserved c =
    let fewer = (c.in-Some.ensures.goes.on c.loop-level.invariant.1).2 in
    let longer = length_push c.loop-level.yielded c.in-Some.level in (
      tt,
      tt,
      omega (arith, longer, c.loop-level.invariant.2),
      omega (arith, fewer, c.loop-level.invariant.3),
      All-append (LevelKeeps c.args.rule) c.loop-level.yielded (c.in-Some.level ∷ []) c.loop-level.invariant.4 (All-cons (LevelKeeps c.args.rule) c.in-Some.level [] (c.level_keeps.ensures.0 c.if-not-level_keeps.false) (All-nil (LevelKeeps c.args.rule))),
    )

pub returns : goal.returns
returns c l =
    finished IsLevel level_encoding levels_apart (LevelKeeps c.args.rule) (level_keep c.args.rule) given.iterator-loop-level.next_gives (λ s. rest_of (slice_state s.items.reader)) (λ s v t h. (h.0, h.1.split))
    _ c.loop-level.yielded _ _ c.loop-level.yielded_by (ap (λ s. rest_of (slice_state s.items.reader)) c.into_iter-level-iterator.ensures.into_iter_gives ∙ c.iter-level-items.ensures) l
    c.loop-level.invariant.4 c.in-None.ensures.steps.0

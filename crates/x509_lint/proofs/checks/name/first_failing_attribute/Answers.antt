use Rattle.std.proofs.Common.{[], ◌∷◌, ap, ◌∙◌, arith}
use Rattle.std.proofs.lemmas.List.{length_push}
use Rattle.std.proofs.lemmas.List.Elements.{All-append, All-cons, All-nil}
use Rattle.der.specs.Prelude.{rest_of, slice_state}
use Rattle.x509.proofs.EncodingLemmas.{levels_apart}
use Rattle.x509.proofs.ItemLemmas.{finished, stopped_with}
use Rattle.x509_lint.proofs.FirstLemmas.{all_listed}
use Rattle.x509_lint.proofs.KeepLemmas.{first_attribute_keep, level_keep}
use Rattle.x509.specs.CertificateLists.{IsAttribute, IsLevel, attribute_encoding, level_encoding, level_octets}
use Rattle.x509_lint.specs.NameChecks.{AttributeKeeps, IsFirstAttribute, LevelKeeps}
use Rattle.x509_lint.specs.declared.name_rule.NameRule.TheVariants.{Attributes}
use Rattle.x509_lint.proofs.checks.name.first_failing_attribute.Given as given
use Rattle.x509_lint.proofs.checks.name.first_failing_attribute.Goals as goal

pub returns-in-Some-first_failing_of_level : goal.returns-in-Some-first_failing_of_level
returns-in-Some-first_failing_of_level c l =
    stopped_with IsLevel level_encoding levels_apart (LevelKeeps (Attributes c.args.rule)) (level_keep (Attributes c.args.rule)) given.iterator-loop-level.next_gives (λ s. rest_of (slice_state s.items.reader)) (λ s v t h. (h.0, h.1.split))
    _ c.loop-level.yielded _ _ c.loop-level.yielded_by (ap (λ s. rest_of (slice_state s.items.reader)) c.into_iter-level-iterator.ensures.into_iter_gives ∙ c.iter-level-items.ensures) l
    (IsFirstAttribute c.args.rule c.in-Some-first_failing_of_level.attribute) (first_attribute_keep c.args.rule c.in-Some-first_failing_of_level.attribute) c.loop-level.invariant.4 c.in-Some.level c.next.new.self c.loop-level.place c.in-Some.ensures.steps
    c.in-Some-first_failing_of_level.ensures c.loop-level.invariant.2

pub loop-level-preserved : goal.loop-level-preserved
loop-level-preserved c =
    let fewer = (c.in-Some.ensures.goes.on c.loop-level.invariant.1).2 in
    let longer = length_push c.loop-level.yielded c.in-Some.level in
    let keeps : LevelKeeps (Attributes c.args.rule) c.in-Some.level = all_listed IsAttribute attribute_encoding (level_octets c.in-Some.level) (λ _. AttributeKeeps c.args.rule) c.in-Some.level.attributes.elements.checked c.in_default.ensures in (
      tt,
      tt,
      omega (arith, longer, c.loop-level.invariant.2),
      omega (arith, fewer, c.loop-level.invariant.3),
      All-append (LevelKeeps (Attributes c.args.rule)) c.loop-level.yielded (c.in-Some.level ∷ []) c.loop-level.invariant.4 (All-cons (LevelKeeps (Attributes c.args.rule)) c.in-Some.level [] keeps (All-nil (LevelKeeps (Attributes c.args.rule)))),
    )

pub returns : goal.returns
returns c l =
    finished IsLevel level_encoding levels_apart (LevelKeeps (Attributes c.args.rule)) (level_keep (Attributes c.args.rule)) given.iterator-loop-level.next_gives (λ s. rest_of (slice_state s.items.reader)) (λ s v t h. (h.0, h.1.split))
    _ c.loop-level.yielded _ _ c.loop-level.yielded_by (ap (λ s. rest_of (slice_state s.items.reader)) c.into_iter-level-iterator.ensures.into_iter_gives ∙ c.iter-level-items.ensures) l
    c.loop-level.invariant.4 c.in-None.ensures.steps.0

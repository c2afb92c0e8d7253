use Rattle.std.proofs.Common.{length, refl, take}
use Rattle.x509_path.proofs.PolicyNoteLemmas.{all_facts, from_all, from_more, no_note, note_at, note_within}
use Rattle.x509_path.proofs.judged_policies.fill_facts.Goals as goal

pub loop-at-init : goal.loop-at-init
loop-at-init c = tt

pub returns-then-not-is_within : goal.returns-then-not-is_within
returns-then-not-is_within c path are =
    let one = note_at c.args.policies.now c.args.mappings.now path c.args.notes.now c.loop-at.at no_note c.loop-at-test.true are in
    absurd (let yes = c.is_within.ensures.1 (note_within c.args.policies.now c.args.mappings.now _ _ one.1) in let wrong = c.if-not-is_within.true in cc)

pub loop-at-preserved : goal.loop-at-preserved
loop-at-preserved c =
    from_more c.args.policies.now c.args.mappings.now c.args.notes.now c.loop-at.at no_note c.loop-at.facts c.put_facts.new.facts c.facts_from.result c.loop-at-test.true c.loop-at.invariant c.facts_from.ensures c.put_facts.ensures

pub returns : goal.returns
returns c path are = (
  refl,
  all_facts c.args.policies.now c.args.mappings.now path c.args.notes.now (take (length c.args.notes.now) c.loop-at.facts) are
      (from_all c.args.policies.now c.args.mappings.now c.args.notes.now c.loop-at.at c.loop-at.facts c.loop-at.auto.at-end c.loop-at-test.false c.loop-at.invariant),
)

use Rattle.std.proofs.Common.{◌≡◌, false, true}
use Rattle.path_rules.proofs.RuleLemmas.{all_more, all_of, first_at}
use Rattle.path_rules.specs.Path.{Asks}
use Rattle.path_rules.proofs.keeps.first_broken.Goals as goal

pub returns-then-not-keeps : goal.returns-then-not-keeps
returns-then-not-keeps c =
    first_at c.args.rules.now c.loop-rule.rule-index _ c.args.facts.now c.args.issues c.args.left c.loop-rule-test.true c.loop-rule.invariant
    (λ h. absurd (let kept : c.keeps.result ≡ true = c.keeps.ensures.1 h in let no : true ≡ false = cc in cc))

pub loop-rule-preserved : goal.loop-rule-preserved
loop-rule-preserved c =
    all_more (λ r. Asks r c.args.facts.now c.args.issues c.args.left) c.args.rules.now c.loop-rule.rule-index _ c.loop-rule-test.true c.loop-rule.invariant
    (c.keeps.ensures.0 c.if-not-keeps.false)

pub returns : goal.returns
returns c = all_of (λ r. Asks r c.args.facts.now c.args.issues c.args.left) c.args.rules.now c.loop-rule.rule-index c.loop-rule-test.false c.loop-rule.invariant

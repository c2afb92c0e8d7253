use Rattle.std.proofs.Common.{sym, ◌∙◌}
use Rattle.schema_rules.proofs.RuleLemmas.{more_kept, breaks_here}
use Rattle.schema_rules.specs.declared.contents_rule.ContentsRule.TheVariants.{BooleanLength}
use Rattle.schema_rules.proofs.broken.first_broken.Goals as goal

pub loop-rule-preserved : goal.loop-rule-preserved
loop-rule-preserved c =
    more_kept c.args.rules.now c.loop-rule.rule-index BooleanLength c.args.contents.now c.loop-rule-test.true c.loop-rule.invariant (sym c.is_kept.ensures ∙ c.if-not-is_kept.false)

pub returns-then-not-is_kept-clause-found : goal.returns-then-not-is_kept-clause-found
returns-then-not-is_kept-clause-found c =
    breaks_here c.args.rules.now c.loop-rule.rule-index BooleanLength c.args.contents.now c.loop-rule-test.true c.loop-rule.invariant (sym c.is_kept.ensures ∙ c.if-not-is_kept.true)

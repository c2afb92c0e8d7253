use Rattle.std.proofs.Common.{◌≡◌, ◌↔◌, ◌∙◌, true, ap, subst}
use Rattle.der_base.specs.declared.encoding_rules.EncodingRules.{EncodingRules}
use Rattle.schema_rules.specs.Contents.{IsContents}
use Rattle.schema_read.specs.Text.{text_of}
use Rattle.schema_read.specs.Constraints.{IsConstrained}
use Rattle.schema_read.specs.Types.{types_in}
use Rattle.schema_read.specs.Verdict.{holds, worst}
use Rattle.schema_read.proofs.FindsLemmas.{finds_is}
use Rattle.schema_read.proofs.UntypedLemmas.{test_is}
use Rattle.schema_read.proofs.VerdictLemmas.{logs_is, logs_then}
use Rattle.schema_read.proofs.WholeLemmas.{finds_text}
use Rattle.schema_read.proofs.texts.joined_text.Goals as goal

pub returns-clause-finds : goal.returns-clause-finds
returns-clause-finds c =
    finds_is (c.and-2.ensures ∙ ap (λ v. worst c.in_ok-read.read.verdict v) c.and.ensures)
    (finds_text (types_in c.args.schema.now.octets.now) c.args.node c.args.universal (text_of c.in_ok-read.read.text) c.args.opened.marked c.args.opened.beyond.now c.args.opened.inside.octets.now
    c.in_ok-read.ensures.finds c.in_ok-read.ensures.only
    (subst (λ s. (r : EncodingRules) → (holds r c.in_ok-whole.whole ≡ true) ↔ IsContents r c.args.universal s) c.as_slice-text.ensures.value (test_is c.in_ok-whole.ensures.verdict c.contents_rule.ensures))
    (subst (λ s. (r : EncodingRules) → (holds r c.in_ok-kept.kept ≡ true) ↔ IsConstrained r (types_in c.args.schema.now.octets.now) c.args.node c.args.universal s) c.as_slice-text.ensures.value (test_is c.in_ok-kept.ensures.verdict c.constraint_rule-rule.ensures)))

pub returns-clause-log : goal.returns-clause-log
returns-clause-log c =
    logs_is (c.and-2.ensures ∙ ap (λ v. worst c.in_ok-read.read.verdict v) c.and.ensures) (logs_then c.in_ok-read.ensures.log (logs_then c.in_ok-whole.ensures.log c.in_ok-kept.ensures.log))

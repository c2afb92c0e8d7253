use Rattle.std.proofs.Common.{◌≡◌, ◌∙◌, ◌↔◌, true, sym, subst}
use Rattle.der_base.specs.declared.encoding_rules.EncodingRules.{EncodingRules}
use Rattle.schema_types.proofs.TestLemmas.{refuted}
use Rattle.schema_read.specs.Constraints.{AreKept}
use Rattle.schema_read.specs.Types.{types_in}
use Rattle.schema_read.specs.Rule.{verdict_of_option}
use Rattle.schema_read.specs.Verdict.{holds}
use Rattle.schema_read.proofs.VerdictLemmas.{broken}
use Rattle.schema_read.proofs.constraints.constraint_rule.Goals as goal

pub returns-in-Numbers : goal.returns-in-Numbers
returns-in-Numbers c =
    subst (λ b. (r : EncodingRules) → (holds r (verdict_of_option c.value_rule.result) ≡ true) ↔ AreKept b r (types_in c.args.schema.now.octets.now) c.args.node c.args.universal c.args.contents.now) (sym c.in-Numbers.is ∙ c.of.ensures) c.value_rule.ensures

pub returns-then-is_allowed_value : goal.returns-then-is_allowed_value
returns-then-is_allowed_value c =
    let is = c.is_allowed_value.ensures.0 c.if-is_allowed_value.true in
    subst (λ b. (r : EncodingRules) → (holds r (verdict_of_option c.item_rule.result) ≡ true) ↔ AreKept b r (types_in c.args.schema.now.octets.now) c.args.node c.args.universal c.args.contents.now) (sym c.in-Items.is ∙ c.of.ensures)
    (λ r. let rule = c.item_rule.ensures r in ((λ on. (is, rule.0 on)), (λ p. rule.1 p.1)))

pub returns-else-is_allowed_value : goal.returns-else-is_allowed_value
returns-else-is_allowed_value c =
    broken (λ r p. refuted c.is_allowed_value.ensures c.if-is_allowed_value.false (subst (λ b. AreKept b r (types_in c.args.schema.now.octets.now) c.args.node c.args.universal c.args.contents.now) (sym c.of.ensures ∙ c.in-Items.is) p).0)

pub returns-in-Bits : goal.returns-in-Bits
returns-in-Bits c =
    subst (λ b. (r : EncodingRules) → (holds r (verdict_of_option c.bits_rule.result) ≡ true) ↔ AreKept b r (types_in c.args.schema.now.octets.now) c.args.node c.args.universal c.args.contents.now) (sym c.in-Bits.is ∙ c.of.ensures) c.bits_rule.ensures

pub returns-in-Characters : goal.returns-in-Characters
returns-in-Characters c =
    subst (λ b. (r : EncodingRules) → (holds r (verdict_of_option c.text_rule.result) ≡ true) ↔ AreKept b r (types_in c.args.schema.now.octets.now) c.args.node c.args.universal c.args.contents.now) (sym c.in-Characters.is ∙ c.of.ensures) c.text_rule.ensures

pub returns-in-Sizes : goal.returns-in-Sizes
returns-in-Sizes c =
    subst (λ b. (r : EncodingRules) → (holds r (verdict_of_option c.size_rule.result) ≡ true) ↔ AreKept b r (types_in c.args.schema.now.octets.now) c.args.node c.args.universal c.args.contents.now) (sym c.in-Sizes.is ∙ c.of.ensures) c.size_rule.ensures

use Rattle.std.proofs.Common.{◌≡◌, ◌↔◌, ℕ, zero, suc, List, true, refl, sym, subst}
use Rattle.der_base.specs.declared.encoding_rules.EncodingRules.{EncodingRules}
use Rattle.ber.specs.declared.universal.Universal.{Universal}
use Rattle.schema_rules.specs.Contents.{IsNamedBits}
use Rattle.schema_types.specs.Table.{Table}
use Rattle.schema_types.specs.declared.span.Span.{Span}
use Rattle.schema_read.specs.Constraints.{AreBitsKept, HasAllowedSize}
use Rattle.schema_read.specs.Rule.{verdict_of_option}
use Rattle.schema_read.specs.Types.{types_in}
use Rattle.schema_read.specs.Verdict.{holds}
use Rattle.schema_read.specs.declared.verdict.Verdict.{Verdict}
use Rattle.schema_read.proofs.bits.bits_rule.Goals as goal

-- with names
named : (names : ℕ) → (names ≡ 0 → ⊥) → (t : Table) (limits : Span) (u : Universal) (inner : List ℕ) (v : Verdict)
    → ((r : EncodingRules) → (holds r v ≡ true) ↔ (HasAllowedSize t limits inner × IsNamedBits r inner))
    → (r : EncodingRules) → (holds r v ≡ true) ↔ AreBitsKept names r t limits u inner
named zero some t limits u inner v f = absurd (some refl)
named (suc names) some t limits u inner v f = f

pub returns-then-node-eq0 : goal.returns-then-node-eq0
returns-then-node-eq0 c =
    subst (λ k. (r : EncodingRules) → (holds r (verdict_of_option c.size_rule.result) ≡ true) ↔ AreBitsKept k r (types_in c.args.schema.now.octets.now) c.args.node.limits c.args.universal c.args.contents.now) (sym c.if-node-eq0.true) c.size_rule.ensures

pub returns : goal.returns
returns c =
    named c.args.node.parts.count c.if-node-eq0.false (types_in c.args.schema.now.octets.now) c.args.node.limits c.args.universal c.args.contents.now (verdict_of_option c.named_rule.result) c.named_rule.ensures

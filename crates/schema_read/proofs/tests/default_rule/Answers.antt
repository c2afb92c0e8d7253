use Rattle.std.proofs.Common.{◌≡◌, ◌∙◌, sym, true}
use Rattle.schema_read.specs.Types.{types_in}
use Rattle.schema_read.proofs.DefaultLemmas.{same_value, other_value}
use Rattle.schema_read.proofs.tests.default_rule.Goals as goal

pub returns-then-is_same : goal.returns-then-is_same
returns-then-is_same c =
    same_value (types_in c.args.schema.now.octets.now) c.args.field c.args.octets.now c.in-Default.is (c.is_same.ensures.0 c.if-is_same.true ∙ c.default_of.ensures)

pub returns-else-is_same : goal.returns-else-is_same
returns-else-is_same c =
    other_value (types_in c.args.schema.now.octets.now) c.args.field c.args.octets.now
    (λ e. let on : c.is_same.result ≡ true = c.is_same.ensures.1 (e ∙ sym c.default_of.ensures) in let off = c.if-is_same.false in absurd (cc))

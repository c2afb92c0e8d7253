use Rattle.std.proofs.Common.{◌≡◌, ◌↔◌, true, sym, subst}
use Rattle.der_base.specs.declared.encoding_rules.EncodingRules.TheVariants.{Der}
use Rattle.schema_types.specs.Table.{table_in}
use Rattle.schema_read.specs.Encoding.{IsDer}
use Rattle.schema_read.specs.Types.{types_in}
use Rattle.schema_read.proofs.reading.is_der.Goals as goal

pub returns : goal.returns
unfolding types_in
returns c =
    subst (λ b. (b ≡ true) ↔ IsDer (table_in c.args.schema.now.octets.now) c.args.node c.args.octets.now) (sym c.is_der.ensures) (c.in_ok-verdict.ensures.exact Der)

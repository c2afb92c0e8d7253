use Rattle.std.proofs.Common.{◌≡◌, ◌↔◌, ◌≤◌, subst}
use Rattle.der_base.specs.declared.encoding_rules.EncodingRules.TheVariants.{Der, Ber}
use Rattle.schema_types.specs.Table.{table_in}
use Rattle.schema_read.specs.Encoding.{IsDer, IsBer}
use Rattle.schema_read.specs.Types.{types_in}
use Rattle.der_c_tree.proofs.FoundLemmas.{both_ways}
use Rattle.der_c_tree.proofs.read.der_tree_read.Goals as goal

pub returns-in-Ok-read_into-clause-der : goal.returns-in-Ok-read_into-clause-der
unfolding types_in
returns-in-Ok-read_into-clause-der c on =
    subst (λ octets. (c.number_of.result ≡ 0) ↔ IsDer (table_in octets) c.args.node c.args.octets.now) c.in-Ok.ensures.same
    (both_ways c.number_of.ensures.der (c.in-Ok-read_into.ensures.exact Der))

pub returns-in-Ok-read_into-clause-ber : goal.returns-in-Ok-read_into-clause-ber
unfolding types_in
returns-in-Ok-read_into-clause-ber c on =
    subst (λ octets. (c.number_of.result ≤ 1) ↔ IsBer (table_in octets) c.args.node c.args.octets.now) c.in-Ok.ensures.same
    (both_ways c.number_of.ensures.ber (c.in-Ok-read_into.ensures.exact Ber))

use Rattle.std.proofs.Common.{◌↔◌, ◌∙◌, IsTrue, FitsSigned, false, w64, sym, subst}
use Rattle.std.proofs.lemmas.Int.{to_z-of_z}
use Rattle.schema_rules.proofs.RangeLemmas.{fits_signed}
use Rattle.schema_types.specs.Allowed.{IsAllowed}
use Rattle.schema_types.specs.Table.{table_in}
use Rattle.schema_types.specs.declared.limit_kind.LimitKind.TheVariants.{Size}
use Rattle.schema_read.specs.Constraints.{counted}
use Rattle.schema_read.specs.Types.{types_in}
use Rattle.schema_read.proofs.SizeLemmas.{counted_small}
use Rattle.schema_read.proofs.types.is_size_allowed.Goals as goal

pub returns : goal.returns
unfolding types_in
returns c =
    let fits = subst (FitsSigned w64) (sym c.saturated.ensures) (fits_signed false (counted c.args.size) (counted_small c.args.size)) in
    subst (λ z. IsTrue c.is_within_limits.result ↔ IsAllowed (table_in c.args.schema.now.octets.now) c.args.limits Size z) (to_z-of_z w64 c.saturated.result fits ∙ c.saturated.ensures) c.is_within_limits.ensures

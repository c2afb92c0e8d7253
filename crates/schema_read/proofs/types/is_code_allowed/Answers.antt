use Rattle.std.proofs.Common.{◌↔◌, ◌∙◌, IsTrue, FitsSigned, false, w64, sym, subst, arith}
use Rattle.std.proofs.lemmas.Int.{to_z-of_z}
use Rattle.schema_rules.proofs.RangeLemmas.{fits_signed}
use Rattle.schema_types.specs.Allowed.{IsAllowed}
use Rattle.schema_types.specs.Table.{table_in}
use Rattle.schema_types.specs.declared.limit_kind.LimitKind.TheVariants.{Alphabet}
use Rattle.schema_read.specs.Types.{types_in}
use Rattle.schema_read.proofs.types.is_code_allowed.Goals as goal

pub returns : goal.returns
unfolding types_in
returns c =
    let fits = subst (FitsSigned w64) (sym c.signed.ensures) (fits_signed false c.args.code (omega (arith, c.ranges.code.fits))) in
    subst (λ z. IsTrue c.is_within_limits.result ↔ IsAllowed (table_in c.args.schema.now.octets.now) c.args.limits Alphabet z) (to_z-of_z w64 c.signed.result fits ∙ c.signed.ensures) c.is_within_limits.ensures

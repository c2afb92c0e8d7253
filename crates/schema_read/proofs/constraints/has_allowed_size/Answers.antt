use Rattle.std.proofs.Common.{ap, ◌∙◌, ◌↔◌, IsTrue, pos, subst}
use Rattle.schema_rules.specs.Characters.{size_of}
use Rattle.schema_types.specs.Allowed.{IsAllowed}
use Rattle.schema_types.specs.declared.limit_kind.LimitKind.TheVariants.{Size}
use Rattle.schema_read.specs.Constraints.{counted}
use Rattle.schema_read.specs.Types.{types_in}
use Rattle.schema_read.proofs.SizeLemmas.{counted_again}
use Rattle.schema_read.proofs.constraints.has_allowed_size.Goals as goal

pub returns : goal.returns
returns c =
    let size = ap counted c.size_of.ensures ∙ counted_again (size_of c.args.universal c.args.contents.now) in
    subst (λ n. IsTrue c.is_size_allowed.result ↔ IsAllowed (types_in c.args.schema.now.octets.now) c.args.limits Size (pos n)) size c.is_size_allowed.ensures

use Rattle.std.proofs.Common.{subst, sym}
use Rattle.x509_path.proofs.LimitLemmas.{no_limit}
use Rattle.x509_path.specs.PathLimits.{AllowsBy}
use Rattle.x509_path.proofs.limit.extension_limit.Goals as goal

pub returns-then-is_basic_constraints : goal.returns-then-is_basic_constraints
returns-then-is_basic_constraints c n = (
  λ room id. subst (λ o. AllowsBy o n) c.octets.ensures.value ((c.value_limit.ensures n).0 room),
  λ allows. (c.value_limit.ensures n).1 (subst (λ o. AllowsBy o n) (sym c.octets.ensures.value) (allows (c.is_basic_constraints.ensures.0 c.if-is_basic_constraints.true))),
)

pub returns : goal.returns
returns c n = (
  λ room id. absurd (let yes = c.is_basic_constraints.ensures.1 id in let wrong = c.if-is_basic_constraints.false in cc),
  λ _. no_limit n,
)

use Rattle.std.proofs.Common.{inl, subst}
use Rattle.x509_path.specs.Names.{IsValueVerdict}
use Rattle.x509_path.proofs.verdicts.extension_verdict.Goals as goal

pub returns-then-is_name_constraints : goal.returns-then-is_name_constraints
returns-then-is_name_constraints c =
    inl (
      c.is_name_constraints.ensures.0 c.if-is_name_constraints.true,
      subst (λ o. IsValueVerdict c.args.signed.now o c.value_verdict.result) c.octets.ensures.value c.value_verdict.ensures,
    )

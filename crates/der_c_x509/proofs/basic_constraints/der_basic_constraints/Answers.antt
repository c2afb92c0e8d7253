use Rattle.std.proofs.Common.{refl, ap, ◌∙◌}
use Rattle.der.specs.Prelude.{error_of_kind}
use Rattle.der_c_core.specs.ErrorCode.{error_code}
use Rattle.der_c_x509.specs.Constraints.{ReadsConstraints}
use Rattle.der_c_x509.proofs.basic_constraints.der_basic_constraints.Goals as goal

pub returns-in-Some : goal.returns-in-Some
returns-in-Some c = ReadsConstraints.found c.in-Ok.found c.in-Ok.ensures c.in-Some.ensures refl

pub returns-in-None : goal.returns-in-None
returns-in-None c = ReadsConstraints.no_number c.in-Ok.found c.in-Ok.ensures c.in-None.ensures
    (c.c_error.ensures ∙ ap error_code (c.to_error.ensures ∙ ap error_of_kind c.value_error.ensures)) refl

pub returns-in-Err : goal.returns-in-Err
returns-in-Err c = ReadsConstraints.refused c.in-Err.ensures refl

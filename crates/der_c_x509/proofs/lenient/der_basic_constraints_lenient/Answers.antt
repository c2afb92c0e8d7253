use Rattle.std.proofs.Common.{refl, ap, ◌∙◌, subst}
use Rattle.der.specs.Prelude.{error_of_kind}
use Rattle.der_c_core.specs.ErrorCode.{error_code}
use Rattle.der_c_x509.specs.Constraints.{HasNoPathLength, IsConstraintsOf}
use Rattle.der_c_x509.specs.LenientCalls.{ReadsLenientConstraints}
use Rattle.der_c_x509.proofs.lenient.der_basic_constraints_lenient.Goals as goal

pub returns-in-Some : goal.returns-in-Some
returns-in-Some c =
    ReadsLenientConstraints.found c.in-Ok.found c.in-Ok.ensures (subst (λ k. IsConstraintsOf k c.in-Some.value) c.known_of.ensures c.in-Some.ensures)
    c.flag_of.ensures refl

pub returns-in-None : goal.returns-in-None
returns-in-None c =
    ReadsLenientConstraints.no_number c.in-Ok.found c.in-Ok.ensures (subst HasNoPathLength c.known_of.ensures c.in-None.ensures)
    (c.c_error.ensures ∙ ap error_code (c.to_error.ensures ∙ ap error_of_kind c.value_error.ensures)) refl refl

pub returns-in-Err : goal.returns-in-Err
returns-in-Err c = ReadsLenientConstraints.refused c.in-Err.ensures refl refl

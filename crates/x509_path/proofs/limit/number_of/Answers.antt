use Rattle.std.proofs.Common.{◌≡◌, false, true, refl, sym, subst, ap, ◌∙◌}
use Rattle.der_asn1.specs.Forms.{integer_form}
use Rattle.der_asn1.specs.Integer.{is_negative}
use Rattle.x509_path.proofs.LimitLemmas.{as_negative, as_number, too_large}
use Rattle.x509_path.proofs.limit.number_of.Goals as goal

pub returns-then-is_negative : goal.returns-then-is_negative
returns-then-is_negative c =
    as_negative c.args.limit.now.octets.now (sym (ap is_negative c.octets.ensures.value) ∙ sym c.is_negative.ensures ∙ c.if-is_negative.true)

pub returns-in-Some : goal.returns-in-Some
returns-in-Some c =
    as_number c.args.limit.now.octets.now c.in-Some.number (sym (ap is_negative c.octets.ensures.value) ∙ sym c.is_negative.ensures ∙ c.if-is_negative.false) (c.in-Some.ensures.some.0 refl) c.in-Some.ensures.same

pub returns-in-None : goal.returns-in-None
returns-in-None c =
    too_large c.args.limit.now.octets.now (sym (ap is_negative c.octets.ensures.value) ∙ sym c.is_negative.ensures ∙ c.if-is_negative.false)
    (subst (λ o. integer_form o ≡ true) c.octets.ensures.value c.octets.ensures.formed)
    (λ form. let some : false ≡ true = c.in-None.ensures.some.1 form in let wrong : false ≡ true = some in cc)

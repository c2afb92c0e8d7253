use Rattle.std.proofs.Common.{◌≡◌, true, sym, ap, subst, ◌∙◌}
use Rattle.std.proofs.lemmas.Option.{IfSome_then}
use Rattle.der_asn1.specs.Times.{generalized_form, generalized_reading}
use Rattle.der_asn1.proofs.FractionLemmas.{front_of}
use Rattle.der_asn1.proofs.TimeLemmas.{generalized_time_round_trip}
use Rattle.der_asn1.proofs.times.fraction.seconds_from.Goals as goal

pub returns-in-len14-up-clause-some : goal.returns-in-len14-up-clause-some
returns-in-len14-up-clause-some c =
    let front = front_of c.args.octets.now c.in-len14-up.len_at_least in (
      λ is. subst (λ l. generalized_form l ≡ true) front (c.generalized_from.ensures.some.0 is),
      λ is. c.generalized_from.ensures.some.1 (subst (λ l. generalized_form l ≡ true) (sym front) is),
    )

pub returns-in-len14-up-clause-same : goal.returns-in-len14-up-clause-same
returns-in-len14-up-clause-same c =
    let front = front_of c.args.octets.now c.in-len14-up.len_at_least in
    IfSome_then c.generalized_from.result c.generalized_from.ensures.same
    (λ v is. sym (generalized_time_round_trip v is.0) ∙ ap generalized_reading (is.1 ∙ front))

use Rattle.std.proofs.Common.{sym, ◌∙◌}
use Rattle.der.proofs.EqualityLemmas.{tag_equality}
use Rattle.der_asn1.proofs.fields.choice.AnyChoice.can_decode.Goals as goal

pub returns : goal.returns
returns g c =
    let reported = tag_equality c.args.tag c.fixed_tag.result in
    (λ e. reported.0 (sym c.eq.ensures ∙ e) ∙ c.fixed_tag.ensures, λ e. c.eq.ensures ∙ reported.1 (e ∙ sym c.fixed_tag.ensures))

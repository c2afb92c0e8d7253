use Rattle.std.proofs.Common.{◌≡◌, ◌&&◌, true, false, drop, ap, sym, ◌∙◌}
use Rattle.std.proofs.lemmas.Bool.{false_from_ne_true, false≢true}
use Rattle.der_asn1.specs.FractionalTime.{ends_seconds, whole_seconds}
use Rattle.der_asn1.specs.Times.{generalized_form}
use Rattle.der_asn1.proofs.times.fractional_time.FractionalTimeGrammarContentsGrammar.matches_grammar.Goals as goal

pub returns-else-is_some : goal.returns-else-is_some
returns-else-is_some c =
    let octets = c.args.octets.now in
    let none : generalized_form (whole_seconds octets) ≡ false =
    false_from_ne_true _ (λ is. false≢true (sym c.if-is_some.false ∙ c.is_some.ensures ∙ c.seconds_from.ensures.some.1 is)) in
    c.if-is_some.false ∙ sym (ap (λ b. b && ends_seconds (drop 14 octets)) none)

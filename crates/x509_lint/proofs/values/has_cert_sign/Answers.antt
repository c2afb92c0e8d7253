use Rattle.std.proofs.Common.{◌≡◌, true, sym, ◌∙◌}
use Rattle.der.specs.Prelude.{BitString}
use Rattle.der_asn1.specs.NamedBits.{has_bit}
use Rattle.x509_lint.proofs.ElementLemmas.{of_some_contents}
use Rattle.x509_lint.proofs.values.has_cert_sign.Goals as goal

pub returns-in-Some : goal.returns-in-Some
returns-in-Some c =
    of_some_contents (λ x. has_bit 5 x ≡ true) c.args.octets.now BitString c.in-Some.contents.now c.has_bit_5.result c.in-Some.ensures.some
    (λ e. sym c.has_bit_5.ensures ∙ e, λ e. c.has_bit_5.ensures ∙ e)

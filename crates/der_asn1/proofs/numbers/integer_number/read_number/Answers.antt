use Rattle.std.proofs.Common.{◌≡◌, ◌∙◌, sym, ap, map, true}
use Rattle.std.specs.Int.Digits.{number_from_digits}
use Rattle.der_asn1.specs.Forms.{integer_form}
use Rattle.der_asn1.specs.Integer.{integer_octets, is_negative, magnitude, turned}
use Rattle.der_asn1.proofs.IntegerReadLemmas.{contents_made}
use Rattle.der_asn1.proofs.numbers.integer_number.read_number.Goals as goal

pub returns-clause-same : goal.returns-clause-same
returns-clause-same c =
    let octets = c.args.octets.now in
    let grammar : integer_form octets ≡ true = (let e = c.matches_grammar.ensures in let f = c.if-not-matches_grammar.false in cc) in
    let number : magnitude octets ≡ c.in_ok-number.number = ap (λ b. number_from_digits 256 (map (turned b) octets)) (sym c.is_below_zero-negative.ensures) ∙ sym c.in_ok-number.ensures.value.1 in
    ap (λ b. integer_octets b c.in_ok-number.number) c.is_below_zero-negative.ensures ∙ ap (integer_octets (is_negative octets)) (sym number) ∙ contents_made octets c.in_ok-number.ensures.octets grammar

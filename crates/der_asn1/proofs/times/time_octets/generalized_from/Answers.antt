use Rattle.std.proofs.Common.{◌≡◌, refl, ap, sym, ◌∙◌, length}
use Rattle.std.specs.Str.{bytes_eq}
use Rattle.der_asn1.specs.Times.{is_date_time, generalized_octets, generalized_reading}
use Rattle.der_asn1.proofs.TimeLemmas.{all_hold}
use Rattle.der_asn1.proofs.times.time_octets.generalized_from.Goals as goal

pub returns-then-eq-clause-some : goal.returns-then-eq-clause-some
returns-then-eq-clause-some c =
    let octets = c.args.octets.now in
    let reported : c.time_at-time.result ≡ generalized_reading octets = c.time_at-time.ensures ∙ rw (c.two_digits.ensures, c.two_digits-2.ensures) refl in (
      λ _. all_hold (length octets) 15 _ _ c.if-octets-ne15.false
          (ap is_date_time (sym reported) ∙ sym c.is_valid.ensures ∙ c.if-is_valid.true)
          (ap (λ t. bytes_eq (generalized_octets t) octets) (sym reported) ∙ ap (λ l. bytes_eq l octets) (sym c.generalized.ensures ∙ sym c.as_slice.ensures) ∙ sym c.eq.ensures ∙ c.if-eq.true),
      λ _. refl,
    )

use Rattle.std.proofs.Common.{◌≡◌, refl, ap, sym, ◌∙◌, length}
use Rattle.std.specs.Str.{bytes_eq}
use Rattle.der_asn1.specs.Times.{is_date_time, utc_octets, utc_reading, time_from, utc_year}
use Rattle.der_asn1.proofs.TimeLemmas.{all_hold}
use Rattle.der_asn1.proofs.times.time_octets.utc_from.Goals as goal

pub returns-then-eq-clause-some : goal.returns-then-eq-clause-some
returns-then-eq-clause-some c =
    let octets = c.args.octets.now in
    let reported : c.time_at-time.result ≡ utc_reading octets = c.time_at-time.ensures ∙ ap (λ y. time_from y 2 octets) (c.full_year.ensures ∙ ap utc_year c.two_digits.ensures) in (
      λ _. all_hold (length octets) 13 _ _ c.if-octets-ne13.false
          (ap is_date_time (sym reported) ∙ sym c.is_valid.ensures ∙ c.if-is_valid.true)
          (ap (λ t. bytes_eq (utc_octets t) octets) (sym reported) ∙ ap (λ l. bytes_eq l octets) (sym c.utc.ensures ∙ sym c.as_slice.ensures) ∙ sym c.eq.ensures ∙ c.if-eq.true),
      λ _. refl,
    )

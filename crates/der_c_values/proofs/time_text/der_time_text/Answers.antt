use Rattle.std.proofs.Common.{◌≡◌, true, [], ◌∷◌, ◌++◌, drop, refl, sym, ap, ◌∙◌, append_assoc, arith}
use Rattle.der_asn1.specs.DateTimeText.{date_time_text}
use Rattle.der_asn1.specs.Times.{is_date_time}
use Rattle.der_c_values.specs.TimeText.{no_space, succeeds}
use Rattle.der_c_values.specs.TimeValues.{date_of}
use Rattle.der_c_values.proofs.TimeTextLemmas.{length-text}
use Rattle.der_c_values.proofs.time_text.der_time_text.Goals as goal

pub returns-then-text-lt-SIZE : goal.returns-then-text-lt-SIZE
returns-then-text-lt-SIZE c =
    let valid : is_date_time (date_of c.args.time.now) ≡ true = ap is_date_time (sym c.date_time-date.ensures) ∙ sym c.is_valid.ensures ∙ c.if-not-is_valid.false in
    no_space valid (omega (arith, length-text (date_of c.args.time.now) valid, c.if-text-lt-SIZE.true)) refl refl refl

pub returns : goal.returns
returns c =
    let t = date_of c.args.time.now in
    let valid : is_date_time (date_of c.args.time.now) ≡ true = ap is_date_time (sym c.date_time-date.ensures) ∙ sym c.is_valid.ensures ∙ c.if-not-is_valid.false in
    succeeds valid refl (sym (length-text t valid))
    (ap (λ l. l ++ drop 21 c.args.text.now) (c.copy_from_slice.ensures.after ∙ c.terminated_text.ensures ∙ ap (λ d. date_time_text d ++ 0 ∷ []) c.date_time-date.ensures)
    ∙ append_assoc (date_time_text t) (0 ∷ []) (drop 21 c.args.text.now))

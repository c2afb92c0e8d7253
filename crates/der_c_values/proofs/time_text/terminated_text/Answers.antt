use Rattle.std.proofs.Common.{[], ◌∷◌, ◌++◌, sym, ap}
use Rattle.der_c_values.proofs.TimeTextLemmas.{text_is_digits}
use Rattle.der_c_values.proofs.time_text.terminated_text.Goals as goal

pub returns : goal.returns
returns c =
    rw (c.tens.ensures, c.ones.ensures, c.tens-2.ensures, c.ones-2.ensures, c.tens-3.ensures, c.ones-3.ensures, c.tens-4.ensures, c.ones-4.ensures, c.tens-5.ensures, c.ones-5.ensures, c.tens-6.ensures, c.ones-6.ensures, c.tens-7.ensures, c.ones-7.ensures)
    (sym (ap (λ l. l ++ 0 ∷ []) (text_is_digits c.args.date.now c.requires)))

use Rattle.std.proofs.Common.{◌≡◌, length, take, refl, sym, ap, ◌∙◌, subst, ⊎_elim, length-take, length-append, arith}
use Rattle.std.proofs.lemmas.Bool.{cases_lt}
use Rattle.std.proofs.lemmas.List.{take_at}
use Rattle.std.proofs.lemmas.Str.{IsUtf8-encode, length-encode, len_utf8_bounds}
use Rattle.std.specs.Prelude.{encode_utf8}
use Rattle.std.specs.Str.{IsUtf8}
use Rattle.der_c_values.proofs.character.first_utf8.Goals as goal
use Rattle.der_c_values.proofs.character.first_utf8.Goals.{then-count-octets+in_default, else-count-octets}

pub loop-count-preserved : goal.loop-count-preserved
loop-count-preserved c = λ k pos below fits utf8.
    ⊎_elim
    (λ less. c.loop-count.invariant k pos less fits utf8)
    (λ rest.
    let same : k ≡ c.loop-count.count = omega arith in
    elim c.if-count-octets.branch [
      | then-count-octets+in_default w ↦
          let none = w.in_default.ensures.none (subst (λ n. IsUtf8 (take n c.args.octets.now)) same utf8) in
          absurd (omega (arith, none, length-take c.loop-count.count c.args.octets.now, c.loop-count.auto.count))
      | else-count-octets w ↦ let h = w.if-count-octets.false in absurd (omega arith)
    ])
    (cases_lt k c.loop-count.count)

pub returns-clause-none : goal.returns-clause-none
returns-clause-none c = λ d more scalar is.
    let size = length-encode d in
    let bounds = len_utf8_bounds d in
    let whole = length-append (encode_utf8 d) more in
    let all = ap length is in
    let front : take (length (encode_utf8 d)) c.args.octets.now ≡ encode_utf8 d = ap (take (length (encode_utf8 d))) is ∙ take_at (encode_utf8 d) more (length (encode_utf8 d)) refl in
    c.loop-count.invariant (length (encode_utf8 d)) (omega (arith, bounds.0, size)) (omega (arith, bounds.1, size)) (omega (arith, whole, all)) (subst IsUtf8 (sym front) (IsUtf8-encode d scalar))

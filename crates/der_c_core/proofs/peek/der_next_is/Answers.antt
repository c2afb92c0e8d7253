use Rattle.std.proofs.Common.{◌≡◌, false, true, subst, eq-eqb, eqb-true}
use Rattle.der_c_core.specs.CReader.{reader_state}
use Rattle.der_c_core.specs.PeekCalls.{HasNextTag}
use Rattle.der_c_core.proofs.NextTagLemmas.{word_next, word_refused, one_next_tag, no_next_fault}
use Rattle.der_c_core.proofs.peek.der_next_is.Goals as goal

pub returns-in-Ok : goal.returns-in-Ok
returns-in-Ok c =
    let has : HasNextTag c.in-Ok.word (reader_state c.args.reader.now) = word_next c.in-Ok.ensures in (
      λ is. subst (λ w. HasNextTag w (reader_state c.args.reader.now)) (eqb-true c.in-Ok.word c.args.tag is) has,
      λ other. eq-eqb c.in-Ok.word c.args.tag (one_next_tag has other),
    )

pub returns-in-Err : goal.returns-in-Err
returns-in-Err c = (λ is. absurd (let no : false ≡ true = is in cc), λ other. absurd (no_next_fault (word_refused c.in-Err.ensures) other))

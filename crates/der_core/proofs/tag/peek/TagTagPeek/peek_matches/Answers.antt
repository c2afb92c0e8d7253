use Rattle.std.proofs.Common.{◌≡◌, ◌≢◌, true, false, refl, sym, ◌∙◌, arith}
use Rattle.std.proofs.lemmas.Result.{err_from_is_err_and}
use Rattle.der_core.specs.Decode.{next_tag_is, no_tag}
use Rattle.der_core.proofs.PeekLemmas.{peeks_reliably}
use Rattle.der_core.proofs.tag.peek.TagTagPeek.peek_matches.Goals as goal

pub returns-clause-exact : goal.returns-clause-exact
returns-clause-exact g c owed = next_tag_is c.in_ok-tag.tag c.has.result (peeks_reliably _ owed c.in_ok-tag.ensures) refl c.has.ensures

pub returns-in_err-tag-clause-exact : goal.returns-in_err-tag-clause-exact
returns-in_err-tag-clause-exact g c =
    let law = g.met.R.Reader.sound_state c.args.reader.now in
    let p = err_from_is_err_and c.from_residual.result c.from_residual.ensures.1 in
    let some : (g.R.Reader.state c.args.reader.now).end ≢ (g.R.Reader.state c.args.reader.now).position =
    λ none. (let no : false ≡ true = sym c.if-is_finished.false ∙ c.is_finished.ensures.1 none in cc) in
    rw (p.1, p.2) (λ owed. no_tag _ (omega (arith, law.ordered)) (peeks_reliably _ owed c.in_err-tag.ensures) refl)

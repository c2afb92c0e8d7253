use Rattle.std.proofs.Common.{◌≡◌, ℕ, Bool, true, false, not, Ok, List, refl, sym}
use Rattle.std.proofs.lemmas.Result.{err_from_is_err_and}
use Rattle.der.specs.Decode.{Peeks}
use Rattle.der.specs.HeaderGrammar.{TagNext}
use Rattle.der.specs.Prelude.{ReaderState, Tag}
use Rattle.der.specs.Tag.{IdentifierFault}
use Rattle.der_asn1.specs.TagSets.{is_among}
use Rattle.der_asn1.specs.UnknownWalk.{Looks, at_known, at_unknown, no_tag}
use Rattle.der_asn1.proofs.fields.unknown_walk.is_unknown_next.Goals as goal

pub returns-in_err-tag : goal.returns-in_err-tag
returns-in_err-tag g c =
    let p = err_from_is_err_and c.from_residual.result c.from_residual.ensures.1 in
    rw (p.1, p.2) (no_tag c.in_err-tag.field-0.0 (λ e. (let yes = c.is_finished.ensures.1 e in let no = c.if-is_finished.false in cc)) c.in_err-tag.ensures refl)

looked : (known : List (ℕ × ℕ)) (reliable : Bool) (s : ReaderState) (t : Tag) (b : Bool) → Peeks TagNext IdentifierFault reliable s (Ok t) → b ≡ is_among known t → Looks known reliable s (Ok (not b))
looked known reliable s t true p e = at_known t p (sym e) refl
looked known reliable s t false p e = at_unknown t p (sym e) refl

pub returns : goal.returns
returns g c = looked g.K.KnownTags.known g.R.Reader.reliable (g.R.Reader.state c.args.reader.now) c.in_ok-tag.tag c.is_known.result c.in_ok-tag.ensures c.is_known.ensures

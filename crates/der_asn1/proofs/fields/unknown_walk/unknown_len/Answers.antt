use Rattle.std.proofs.lemmas.Result.{err_from_is_err_and}
use Rattle.der_asn1.proofs.UnknownWalkLemmas.{counted}
use Rattle.der_asn1.proofs.fields.unknown_walk.unknown_len.Goals as goal

pub returns-in_err-pass_unknown-clause-complete : goal.returns-in_err-pass_unknown-clause-complete
returns-in_err-pass_unknown-clause-complete g c front reliable f =
    let p = err_from_is_err_and c.from_residual.result c.from_residual.ensures.1 in
    rw (p.1, p.2) (c.in_err-pass_unknown.ensures.complete front reliable f)

pub returns-in_err-pass_unknown-clause-exact : goal.returns-in_err-pass_unknown-clause-exact
returns-in_err-pass_unknown-clause-exact g c reliable =
    let p = err_from_is_err_and c.from_residual.result c.from_residual.ensures.1 in
    rw (p.1, p.2) (g.R.Reader.state c.pass_unknown.new.reader, c.in_err-pass_unknown.ensures.exact reliable)

pub returns-clause-ok : goal.returns-clause-ok
returns-clause-ok g c =
    counted g.K.KnownTags.known g.T.Item.item.valid g.T.Item.item.octets c.in_ok-pass_unknown.ensures.ok (g.met.R.Reader.sound_state c.pass_unknown.new.reader) c.remaining_len-before.result c.remaining_len.result c.saturating_sub.result
    c.remaining_len-before.ensures c.remaining_len.ensures c.saturating_sub.ensures

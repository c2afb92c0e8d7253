use Rattle.std.proofs.Common.{true, Ok, Err, refl, subst}
use Rattle.std.proofs.lemmas.Result.{err_from_is_err_and}
use Rattle.der_asn1.specs.UnknownWalk.{Looks, UnknownWalk}
use Rattle.der_asn1.proofs.UnknownWalkLemmas.{begins_passing, goes_on, look_never_refused, next_succeeds, nothing_passed, unknown_begins, unknown_on}
use Rattle.der_asn1.proofs.fields.unknown_walk.pass_unknown.Goals as goal

pub unknown-init : goal.unknown-init
unknown-init g c = (
  begins_passing g.K.KnownTags.known g.T.Item.item.valid g.T.Item.item.octets (g.R.Reader.state c.args.reader.now) c.requires,
  (λ reliable. unknown_begins g.K.KnownTags.known g.T.Error.From.from_gives g.T.Decode.decode_answers (g.R.Reader.state c.args.reader.now)),
)

pub unknown-preserved : goal.unknown-preserved
unknown-preserved g c = (
  goes_on g.K.KnownTags.known g.T.Item.item.valid g.T.Item.item.octets c.in_ok-_item._item g.met.T.DecodeItem.is_item.element c.unknown.invariant.0 c.in_ok-is_unknown_next.ensures c.if-branch.true c.in_ok-_item.ensures.ok.0 c.in_ok-_item.ensures.ok.1,
  (λ reliable. unknown_on g.K.KnownTags.known g.T.Error.From.from_gives g.T.Decode.decode_answers (g.R.Reader.state c.args.reader.now) (g.R.Reader.state c.unknown.reader) (g.R.Reader.state c.next_item.new.reader) c.in_ok-_item._item (c.unknown.invariant.1 reliable)
      (subst (λ b. Looks g.K.KnownTags.known b (g.R.Reader.state c.unknown.reader) (Ok c.in_ok-is_unknown_next.field-0)) reliable c.in_ok-is_unknown_next.ensures) c.if-branch.true (c.in_ok-_item.ensures.exact reliable)),
)

pub returns-in_err-is_unknown_next-clause-complete : goal.returns-in_err-is_unknown_next-clause-complete
returns-in_err-is_unknown_next-clause-complete g c front reliable f =
    absurd (look_never_refused g.K.KnownTags.known g.T.Item.item.valid g.T.Item.item.octets (g.met.R.Reader.sound_state c.unknown.reader) c.unknown.invariant.0 reliable c.in_err-is_unknown_next.ensures front f)

pub returns-in_err-is_unknown_next-clause-exact : goal.returns-in_err-is_unknown_next-clause-exact
returns-in_err-is_unknown_next-clause-exact g c reliable =
    let p = err_from_is_err_and c.from_residual.result c.from_residual.ensures.1 in
    (c.unknown.invariant.1 reliable).whole _ _ (UnknownWalk.look_refused c.in_err-is_unknown_next.field-0.0 p.0
    (subst (λ b. Looks g.K.KnownTags.known b (g.R.Reader.state c.unknown.reader) (Err c.in_err-is_unknown_next.field-0.0)) reliable c.in_err-is_unknown_next.ensures) p.2 p.1 refl)

pub returns-in_err-_item-clause-complete : goal.returns-in_err-_item-clause-complete
returns-in_err-_item-clause-complete g c front reliable f =
    let p = err_from_is_err_and c.from_residual-in_err-_item.result c.from_residual-in_err-_item.ensures.1 in
    rw (p.1, p.2) (next_succeeds g.K.KnownTags.known g.T.Item.item.valid g.T.Item.item.octets g.T.Error.DecodeError.out_of_memory c.unknown.invariant.0 c.in_ok-is_unknown_next.ensures c.if-branch.true (λ v others. c.in_err-_item.ensures.first v others reliable) front f)

pub returns-in_err-_item-clause-exact : goal.returns-in_err-_item-clause-exact
returns-in_err-_item-clause-exact g c reliable =
    let p = err_from_is_err_and c.from_residual-in_err-_item.result c.from_residual-in_err-_item.ensures.1 in
    rw (p.1, p.2) ((c.unknown.invariant.1 reliable).whole (Err c.in_err-_item.field-0.0) (g.R.Reader.state c.next_item.new.reader) (UnknownWalk.value_refused c.in_err-_item.field-0.0
    (subst (λ b. Looks g.K.KnownTags.known true (g.R.Reader.state c.unknown.reader) (Ok b)) c.if-branch.true (subst (λ b. Looks g.K.KnownTags.known b (g.R.Reader.state c.unknown.reader) (Ok c.in_ok-is_unknown_next.field-0)) reliable c.in_ok-is_unknown_next.ensures)) (c.in_err-_item.ensures.exact reliable) refl))

pub returns-clause-ok : goal.returns-clause-ok
returns-clause-ok g c =
    c.unknown.invariant.0.back (g.R.Reader.state c.unknown.reader) (nothing_passed g.K.KnownTags.known g.T.Item.item.valid g.T.Item.item.octets c.unknown.invariant.0.at c.in_ok-is_unknown_next.ensures c.if-branch.false)

pub returns-clause-exact : goal.returns-clause-exact
returns-clause-exact g c reliable =
    (c.unknown.invariant.1 reliable).whole (Ok tt) (g.R.Reader.state c.unknown.reader) (UnknownWalk.walk_stops
    (subst (λ b. Looks g.K.KnownTags.known true (g.R.Reader.state c.unknown.reader) (Ok b)) c.if-branch.false (subst (λ b. Looks g.K.KnownTags.known b (g.R.Reader.state c.unknown.reader) (Ok c.in_ok-is_unknown_next.field-0)) reliable c.in_ok-is_unknown_next.ensures)) refl refl)

use Rattle.std.proofs.Common.{Ok, Err, refl}
use Rattle.std.proofs.lemmas.Result.{err_from_is_err_and}
use Rattle.der_asn1.specs.ListAnswers.{WalkAnswer}
use Rattle.der_asn1.proofs.SequenceOfLemmas.{begins_walking, iterating_continues}
use Rattle.der_asn1.proofs.ListAnswerLemmas.{whole_begins, whole_on}
use Rattle.der_asn1.proofs.lists.item_walk.read_items.Goals as goal

pub items-init : goal.items-init
items-init g c = (
  begins_walking g.T.Item.item.valid g.T.Item.item.octets (g.R.Reader.state c.args.reader.now) c.requires,
  (λ reliable. whole_begins (g.R.Reader.state c.args.reader.now) (g.R.Reader.state c.args.reader.now) refl),
)

pub items-preserved : goal.items-preserved
items-preserved g c = (
  iterating_continues c.in_ok-_item._item c.items.invariant.0 c.in_ok-_item.ensures.ok.0 c.in_ok-_item.ensures.ok.1
      (λ l. c.in_ok-_item.ensures.keeps l (c.has_item.ensures.some c.items-test.true)),
  (λ reliable. whole_on (g.R.Reader.state c.args.reader.now) (g.R.Reader.state c.items.reader) (g.R.Reader.state c.next_item.new.reader) c.in_ok-_item._item (c.items.invariant.1 reliable)
      (c.has_item.ensures.more c.items-test.true) (c.in_ok-_item.ensures.exact reliable)),
)

pub returns-in_err-_item-clause-complete : goal.returns-in_err-_item-clause-complete
returns-in_err-_item-clause-complete g c reliable l =
    let p = err_from_is_err_and c.from_residual.result c.from_residual.ensures.1 in
    rw (p.1, p.2) (c.in_err-_item.ensures.complete reliable (c.items.invariant.0.on l)
    (c.has_item.ensures.some c.items-test.true))

pub returns-in_err-_item-clause-exact : goal.returns-in_err-_item-clause-exact
returns-in_err-_item-clause-exact g c reliable =
    let p = err_from_is_err_and c.from_residual.result c.from_residual.ensures.1 in
    rw (p.1, p.2) ((c.items.invariant.1 reliable).whole (Err c.in_err-_item.field-0.0) (WalkAnswer.walk_refused (g.R.Reader.state c.next_item.new.reader) c.in_err-_item.field-0.0
    (c.has_item.ensures.more c.items-test.true) (c.in_err-_item.ensures.exact reliable) refl))

pub returns-clause-exact : goal.returns-clause-exact
returns-clause-exact g c reliable = (c.items.invariant.1 reliable).whole (Ok tt) (WalkAnswer.walk_ends (c.has_item.ensures.none c.items-test.false) refl)

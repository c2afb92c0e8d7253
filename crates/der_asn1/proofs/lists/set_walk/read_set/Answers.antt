use Rattle.std.proofs.lemmas.Result.{err_from_is_err_and}
use Rattle.std.proofs.Common.{◌∙◌, [], ap, Ok, Err, refl, subst, sym}
use Rattle.der.specs.Prelude.{error_at}
use Rattle.der.specs.ErrorKinds.{SetOrdering}
use Rattle.der_asn1.specs.ListAnswers.{SetAnswer}
use Rattle.der_asn1.proofs.ListAnswerLemmas.{whole_set_begins, whole_set_on}
use Rattle.der_asn1.proofs.SetOfLemmas.{IsSetWalk, rest_after_item, set_walk_begins, set_walk_on, set_walk_ends, set_walk_stops}
use Rattle.der_asn1.proofs.lists.set_walk.read_set.Goals as goal

pub items-init : goal.items-init
items-init g c = (
  subst (λ x. IsSetWalk g.T.Item.item.valid g.T.Item.item.octets x [] (g.R.Reader.state c.args.reader.now)) (sym c.requires.rest) (set_walk_begins g.T.Item.item.valid g.T.Item.item.octets (g.R.Reader.state c.args.reader.now) c.requires.item),
  (λ reliable. whole_set_begins (g.R.Reader.state c.args.reader.now) (g.R.Reader.state c.args.reader.now) refl),
  c.requires.rest,
)

pub returns-in_err-item-clause-complete : goal.returns-in_err-item-clause-complete
returns-in_err-item-clause-complete g c reliable ascending =
    let p = err_from_is_err_and c.from_residual.result c.from_residual.ensures.1 in
    rw (p.1, p.2) (c.in_err-item.ensures.complete reliable (c.items.invariant.0.on ascending).list
    (c.has_item.ensures.some c.items-test.true))

pub returns-then-comes_before-clause-complete : goal.returns-then-comes_before-clause-complete
returns-then-comes_before-clause-complete g c reliable ascending =
    absurd (set_walk_stops c.items_are_elements.ensures _ c.items.previous.now c.in_ok-item.item.now (g.R.Reader.state c.items.reader) (g.R.Reader.state c.next_octets.new.reader) c.items.invariant.0 c.in_ok-item.ensures.ok.0 c.in_ok-item.ensures.ok.1
    (c.comes_before.ensures.0 c.if-comes_before.true) ascending)

pub items-preserved : goal.items-preserved
items-preserved g c = (
  set_walk_on c.items_are_elements.ensures _ c.items.previous.now c.in_ok-item.item.now (g.R.Reader.state c.items.reader) (g.R.Reader.state c.next_octets.new.reader) c.items.invariant.0 c.in_ok-item.ensures.ok.0 c.in_ok-item.ensures.ok.1
      (λ before. (let yes = c.comes_before.ensures.1 before in let no = c.if-comes_before.false in cc)),
  (λ reliable. whole_set_on (g.R.Reader.state c.args.reader.now) (g.R.Reader.state c.items.reader) (g.R.Reader.state c.next_octets.new.reader) c.items.previous.now c.in_ok-item.item.now (c.in_ok-item.ensures.exact reliable).0 (c.items.invariant.1 reliable)
      (c.has_item.ensures.more c.items-test.true) (c.in_ok-item.ensures.exact reliable).1 c.in_ok-item.ensures.ok.1.split
      (λ before. (let yes = c.comes_before.ensures.1 before in let no = c.if-comes_before.false in cc))),
  rest_after_item c.items.rest.now (g.R.Reader.state c.items.reader) (g.R.Reader.state c.next_octets.new.reader) c.in_ok-item.item.now c.items.invariant.2 c.in_ok-item.ensures.ok.1,
)

pub returns-clause-ok : goal.returns-clause-ok
returns-clause-ok g c = set_walk_ends c.items_are_elements.ensures _ c.items.previous.now (g.R.Reader.state c.items.reader) c.items.invariant.0 (c.has_item.ensures.none c.items-test.false)

pub returns-clause-exact : goal.returns-clause-exact
returns-clause-exact g c reliable = (c.items.invariant.1 reliable).whole (Ok tt) (SetAnswer.set_ends (c.has_item.ensures.none c.items-test.false) refl)

pub returns-in_err-item-clause-exact : goal.returns-in_err-item-clause-exact
returns-in_err-item-clause-exact g c reliable =
    let p = err_from_is_err_and c.from_residual.result c.from_residual.ensures.1 in
    rw (p.1, p.2) ((c.items.invariant.1 reliable).whole (Err c.in_err-item.field-0.0) (SetAnswer.set_refused (g.R.Reader.state c.next_octets.new.reader) c.in_err-item.field-0.0
    (c.has_item.ensures.more c.items-test.true) (c.in_err-item.ensures.exact reliable) refl))

pub returns-then-comes_before-clause-exact : goal.returns-then-comes_before-clause-exact
returns-then-comes_before-clause-exact g c reliable =
    (c.items.invariant.1 reliable).whole (Err c.into.result) (SetAnswer.set_disordered c.in_ok-item.item.now (g.R.Reader.state c.next_octets.new.reader) (c.in_ok-item.ensures.exact reliable).0 c.into.result
    (c.has_item.ensures.more c.items-test.true) (c.in_ok-item.ensures.exact reliable).1 c.in_ok-item.ensures.ok.1.split (c.comes_before.ensures.0 c.if-comes_before.true)
    (subst (λ e. g.T.Error.From.from_gives e c.into.result) (c.at.ensures ∙ ap (error_at SetOrdering) c.position-start.ensures) c.into.ensures) refl)

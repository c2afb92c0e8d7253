use Rattle.std.proofs.Common.{Ok, Some, None, refl}
use Rattle.std.specs.declared.cmp.Ordering.TheVariants.{Less, Equal, Greater}
use Rattle.der_core.proofs.ItemLemmas.{matched_none, matched_more, reported, answered_equal, answered_error}
use Rattle.der_core.proofs.ord.items.iter_cmp.Goals as goal

pub loop-x-init : goal.loop-x-init
loop-x-init g c = record {
  next_of_these = c.requires.can_a;
  next_of_those = c.requires.can_b;
  these_end = c.requires.ends_a;
  those_end = c.requires.ends_b;
  matched = matched_none _ _ _ _ c.args.a c.args.b;
}

pub loop-x-preserved : goal.loop-x-preserved
loop-x-preserved g c =
    let i = c.loop-x.invariant in
    let r = c.in_ok-ordering-in-Some-next in
    record {
      next_of_these = c.in-Some.ensures.goes.keeps;
      next_of_those = c.in-Some-next.ensures.goes.keeps;
      these_end = (c.in-Some.ensures.goes.on i.these_end).1;
      those_end = (c.in-Some-next.ensures.goes.on i.those_end).1;
      matched = matched_more i.matched c.next.new.self c.next-in-Some.new.self c.in-Some.x c.in-Some-next.y c.in-Some.ensures.steps c.in-Some-next.ensures.steps
          (answered_equal r.ordering c.in-Equal.is (record { ok = r.ensures.ok; complete = r.ensures.complete; exact = r.ensures.exact }));
    }

pub returns-in_err-ordering-in-Some-next : goal.returns-in_err-ordering-in-Some-next
returns-in_err-ordering-in-Some-next g c =
    let r = c.in_err-ordering-in-Some-next in
    reported g.T.DerOrd.delimited c.loop-x.invariant.matched (Some c.in-Some.x) (Some c.in-Some-next.y) c.next.new.self c.next-in-Some.new.self c.from_residual.result c.in-Some.ensures.steps c.in-Some-next.ensures.steps
    (answered_error r.field-0.0 c.from_residual.result c.from_residual.ensures.1 (record { ok = r.ensures.ok; complete = r.ensures.complete; exact = r.ensures.exact }))

pub returns-in_default-2 : goal.returns-in_default-2
returns-in_default-2 g c =
    let r = c.in_ok-ordering-in-Some-next in
    reported g.T.DerOrd.delimited c.loop-x.invariant.matched (Some c.in-Some.x) (Some c.in-Some-next.y) c.next.new.self c.next-in-Some.new.self (Ok r.ordering) c.in-Some.ensures.steps c.in-Some-next.ensures.steps
    (record { ok = r.ensures.ok; complete = r.ensures.complete; exact = r.ensures.exact }, λ e. c.in_default-2.not-Equal (cc))

pub returns-in-None : goal.returns-in-None
returns-in-None g c = reported g.T.DerOrd.delimited c.loop-x.invariant.matched (Some c.in-Some.x) None c.next.new.self c.next-in-Some.new.self (Ok Greater) c.in-Some.ensures.steps c.in-None.ensures.steps refl

pub returns-in-Some-next-2 : goal.returns-in-Some-next-2
returns-in-Some-next-2 g c = reported g.T.DerOrd.delimited c.loop-x.invariant.matched None (Some c.in-Some-next-2.field-0) c.next.new.self c.next-2.new.self (Ok Less) c.in_default.ensures.steps c.in-Some-next-2.ensures.steps refl

pub returns : goal.returns
returns g c = reported g.T.DerOrd.delimited c.loop-x.invariant.matched None None c.next.new.self c.next-2.new.self (Ok Equal) c.in_default.ensures.steps c.in-None-next.ensures.steps refl

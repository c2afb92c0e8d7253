use Rattle.schema_cursor.proofs.ChildLemmas.{nth_after, nth_some}
use Rattle.schema_cursor.proofs.cursor.Cursor.item.Goals as goal

pub loop-index-preserved : goal.loop-index-preserved
loop-index-preserved c = λ k.
    let all = c.loop-index.invariant k in
    let rest = nth_after c.loop-index.left k c.in-Some.ensures.some c.if-left-eq0.false in
    ((λ is. all.0 (rest.0 is)), (λ is. rest.1 (all.1 is)))

pub returns-clause-none : goal.returns-clause-none
returns-clause-none c = λ k is.
    let first = nth_some c.loop-index.left k ((c.loop-index.invariant k).1 is) in
    c.in_default.ensures.none first.0 first.1

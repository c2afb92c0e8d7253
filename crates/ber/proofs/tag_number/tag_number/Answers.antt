use Rattle.std.proofs.Common.{◌≡◌, subst, arith, length}
use Rattle.ber.proofs.TagNumberLemmas.{IsSoFar, number_padded, number_small, number_large, number_read, number_ends, so_far_next}
use Rattle.ber.proofs.tag_number.tag_number.Goals as goal
use Rattle.ber.proofs.tag_number.tag_number.Goals.{else-number-eq0-via-then-number-eq0+else-octet, else-number-eq0-via-else-number-eq0}

pub returns-then-octet-clause-fault : goal.returns-then-octet-clause-fault
returns-then-octet-clause-fault c = rw c.new.ensures (number_padded c.args.octets.now c.loop-i.i c.loop-i.number (omega arith) c.loop-i.invariant c.if-number-eq0.true c.if-octet.true)

pub returns-then-next-lt31-clause-fault : goal.returns-then-next-lt31-clause-fault
returns-then-next-lt31-clause-fault c = rw c.new-then-next-lt31.ensures (number_small c.args.octets.now c.loop-i.i c.loop-i.number (omega arith) c.loop-i.invariant c.if-octet-lt128.true c.if-next-lt31.true)

pub returns-then-octet-lt128-clause-found : goal.returns-then-octet-lt128-clause-found
returns-then-octet-lt128-clause-found c = number_read c.args.octets.now c.loop-i.i c.loop-i.number (omega arith) c.loop-i.invariant c.if-octet-lt128.true c.if-next-lt31.false

pub returns-then-next-clause-fault : goal.returns-then-next-clause-fault
returns-then-next-clause-fault c =
    rw c.new-then-next.ensures (number_large c.args.octets.now c.loop-i.i c.loop-i.number (omega arith) c.loop-i.invariant c.if-octet-lt128.false (omega (arith, c.type_inv.octets c.loop-i.i)) (omega arith))

pub loop-i-preserved : goal.loop-i-preserved
loop-i-preserved c =
    so_far_next c.args.octets.now c.loop-i.i c.loop-i.number (omega arith) c.loop-i.invariant c.if-octet-lt128.false (omega (arith, c.type_inv.octets c.loop-i.i))
    (λ z e. elim c.else-number-eq0.branch [ else-number-eq0-via-then-number-eq0+else-octet w ↦ w.if-octet.false e | else-number-eq0-via-else-number-eq0 w ↦ w.if-number-eq0.false z ])
    (omega arith)

pub returns-clause-fault : goal.returns-clause-fault
returns-clause-fault c =
    let whole : c.loop-i.i ≡ length c.args.octets.now = omega arith in
    rw c.truncated.ensures (number_ends c.args.octets.now c.loop-i.number (subst (λ k. IsSoFar k c.loop-i.number c.args.octets.now) whole c.loop-i.invariant))

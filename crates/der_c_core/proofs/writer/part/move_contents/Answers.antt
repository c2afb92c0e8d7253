use Rattle.std.proofs.Common.{arith, subst, sym}
use Rattle.der_c_core.specs.Part.{IsMoved}
use Rattle.der_c_core.proofs.PartLemmas.{paste_moves, stays_there}
use Rattle.der_c_core.proofs.writer.part.move_contents.Goals as goal

pub returns-then-more-eq0-clause-moved : goal.returns-then-more-eq0-clause-moved
returns-then-more-eq0-clause-moved c =
    let r = c.requires in
    stays_there c.args.octets.now c.args.start c.args.position c.args.more r.begun r.written r.space (omega (arith, c.if-more-eq0.true))

pub returns-clause-moved : goal.returns-clause-moved
returns-clause-moved c =
    let r = c.requires in
    subst (IsMoved c.args.start c.args.position c.args.more c.args.octets.now) (sym c.copy_within.ensures.after)
    (paste_moves c.args.octets.now c.args.start c.args.position c.args.more r.begun r.written r.space)

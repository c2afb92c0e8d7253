use Rattle.std.proofs.Common.{arith}
use Rattle.der_core.proofs.WriterLemmas.{closed_refused, closed_failed, closed_unfilled, closed_filled}
use Rattle.der_core.proofs.writer.slice.SliceWriter.close_part.Goals as goal

pub returns-in-Err : goal.returns-in-Err
returns-in-Err c =
    let r = c.requires in
    closed_refused c.args.self.now c.args.start c.args.stop r.before r.following r.within c.args.answer c.in-Err.error c.in-Err.is

pub returns-then-self : goal.returns-then-self
returns-then-self c =
    let r = c.requires in
    closed_failed c.args.self.now c.args.start c.args.stop r.before r.following r.within c.args.answer c.failed_at.result c.in-Ok.is c.if-self.true c.failed_at.ensures

pub returns-then-filled-count : goal.returns-then-filled-count
returns-then-filled-count c =
    let r = c.requires in
    closed_unfilled c.args.self.now c.args.start c.args.stop r.before r.following r.within c.args.answer c.unfilled_at.result c.in-Ok.is c.if-self.false
    (omega (arith, c.if-filled-count.true)) c.unfilled_at.ensures

pub returns-else-filled-count : goal.returns-else-filled-count
returns-else-filled-count c =
    let r = c.requires in
    closed_filled c.args.self.now c.args.start c.args.stop r.before r.following r.within c.args.answer c.in-Ok.is c.if-self.false (omega (arith, c.if-filled-count.false))

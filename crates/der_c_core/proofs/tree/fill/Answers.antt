use Rattle.std.proofs.Common.{refl, sym, ap, ◌∙◌, arith}
use Rattle.der_c_core.specs.ErrorCode.{error_code}
use Rattle.der_c_core.specs.CReader.{reader_state}
use Rattle.der_c_core.proofs.TreeWalkLemmas.{all_walked, walked_on, walked_node, next_advanced, finished_fill, failed_fill, full_fill}
use Rattle.der_c_core.proofs.tree.fill.Goals as goal

pub returns-then-at-walk : goal.returns-then-at-walk
returns-then-at-walk c =
    finished_fill (walked_on c.loop-i.invariant c.climb.ensures.walks) c.climb.new.reader.ordered c.requires.working refl c.if-at-walk.true (c.climb.ensures.climbed c.if-at-walk.true)

pub returns-then-error-ne0 : goal.returns-then-error-ne0
returns-then-error-ne0 c =
    failed_fill (walked_on c.loop-i.invariant c.climb.ensures.walks) c.climb.new.reader.ordered c.requires.working refl c.if-at-walk.false c.read_next-error.ensures.reads.1 c.if-error-ne0.true

pub loop-i-preserved : goal.loop-i-preserved
loop-i-preserved c =
    let s = reader_state c.climb.new.reader in
    let goes = c.look_into.ensures.walks s (next_advanced c.if-at-walk.false c.read_next-error.ensures.reads c.if-error-ne0.false) in
    walked_node c.node.result (walked_on c.loop-i.invariant c.climb.ensures.walks) (rw (sym c.node.ensures) at goes) (omega (arith, c.loop-i.auto.nodes, c.loop-i-test.true)) c.loop-i-test.true

pub returns-then-at-walk-2 : goal.returns-then-at-walk-2
returns-then-at-walk-2 c =
    finished_fill (walked_on (all_walked c.loop-i.invariant (omega (arith, c.loop-i-test.false))) c.climb-2.ensures.walks) c.climb-2.new.reader.ordered c.requires.working refl c.if-at-walk-2.true
    (c.climb-2.ensures.climbed c.if-at-walk-2.true)

pub returns : goal.returns
returns c =
    full_fill (walked_on (all_walked c.loop-i.invariant (omega (arith, c.loop-i-test.false))) c.climb-2.ensures.walks) c.climb-2.new.reader.ordered c.requires.working refl c.if-at-walk-2.false refl
    (c.c_error.ensures ∙ ap error_code c.to_error.ensures)

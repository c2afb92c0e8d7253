use Rattle.std.proofs.Common.{refl, arith, rules}
use Rattle.der_c_core.specs.CReader.{reader_state}
use Rattle.der_c_core.proofs.TreeWalkLemmas.{skipped_element_walks_node, entered_element_walks_node}
use Rattle.der_c_core.proofs.tree.walk.look_into.Goals as goal

pub returns-then-not-element : goal.returns-then-not-element
returns-then-not-element c =
    record { walks = λ s next. skipped_element_walks_node c.args.around.now s (reader_state c.args.reader.now) c.args.element.now next c.requires.parts (λ into. search (rules, into.0, c.if-not-element.true)) }

pub returns-then-level-ge-LEVELS : goal.returns-then-level-ge-LEVELS
returns-then-level-ge-LEVELS c =
    record { walks = λ s next. skipped_element_walks_node c.args.around.now s (reader_state c.args.reader.now) c.args.element.now next c.requires.parts (λ into. omega (arith, into.1, c.if-level-ge-LEVELS.true)) }

pub returns : goal.returns
returns c =
    record { walks = λ s next. entered_element_walks_node c.args.around.now _ s (reader_state c.args.reader.now) _ c.args.element.now next c.requires.parts (search rules, omega (arith, c.if-level-ge-LEVELS.false)) c.args.reader.now.ordered c.args.reader.now.in_input (search rules) (search rules) refl refl refl refl }

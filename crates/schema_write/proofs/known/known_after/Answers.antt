use Rattle.std.proofs.Common.{◌∙◌, ◌++◌, sym, ap, subst, append-nil}
use Rattle.ber.specs.Element.{IsElement}
use Rattle.schema_read.specs.Known.{IsIdentifier, changed, same}
use Rattle.schema_write.proofs.ListLemmas.{none_left}
use Rattle.schema_write.proofs.known.known_after.Goals as goal

pub returns-then-not-is_identifier : goal.returns-then-not-is_identifier
returns-then-not-is_identifier c =
    same (λ id.
    let is = c.is_identifier.ensures.1 (subst IsIdentifier c.node_of.ensures.value id) in
    let no = c.if-not-is_identifier.true in
    absurd (cc))

pub returns-in-Ok : goal.returns-in-Ok
returns-in-Ok c =
    let found = c.in-Ok.ensures.found in
    let rest = none_left c.in-Ok.element.rest.now (sym c.is_empty.ensures ∙ c.if-is_empty.true) in
    changed (subst IsIdentifier (sym c.node_of.ensures.value) (c.is_identifier.ensures.0 c.if-not-is_identifier.false))
    (subst (λ q. IsElement c.in-Ok.element.header c.in-Ok.element.contents.now q) (sym (found.2 ∙ ap (λ r. found.0 ++ r) rest ∙ append-nil found.0)) found.1)

use Rattle.std.proofs.Common.{◌∙◌, sym, subst}
use Rattle.ber.specs.declared.header.Header.{Header}
use Rattle.ber.proofs.HeaderLemmas.{end_header_next}
use Rattle.ber.proofs.GrammarLemmas.{one_header}
use Rattle.schema_types.specs.Tags.{Begins}
use Rattle.schema_read.specs.Types.{types_in}
use Rattle.schema_read.proofs.select.begins.Goals as goal

pub returns-then-is_end_of_contents-clause-none : goal.returns-then-is_end_of_contents-clause-none
returns-then-is_end_of_contents-clause-none c off h next real begins =
    let end = (end_header_next c.args.octets.now).0 (c.is_end_of_contents.ensures.0 c.if-is_end_of_contents.true) in
    real (one_header next.is end.is next.rest end.rest (sym next.split ∙ end.split)).0

pub returns-in-None-clause-none : goal.returns-in-None-clause-none
returns-in-None-clause-none c off h next real begins =
    let there = c.in-Ok.ensures.found in
    let one = (one_header next.is there.is next.rest there.rest (sym next.split ∙ there.split)).0 in
    c.in-None.ensures.none (subst (λ (k : Header). Begins (types_in c.args.schema.now.octets.now) c.args.node k.class k.number) one begins)

pub returns-in-Err-clause-none : goal.returns-in-Err-clause-none
returns-in-Err-clause-none c off h next real begins = c.in-Err.ensures.none h next

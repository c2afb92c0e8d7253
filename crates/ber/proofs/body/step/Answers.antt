use Rattle.std.proofs.Common.{◌≡◌, false, true, sym, ◌∙◌}
use Rattle.ber.proofs.BodyLemmas.{end_stepped, element_stepped, header_stepped, no_bodies_header, no_bodies_truncated, step_no_header, step_truncated}
use Rattle.ber.proofs.body.step.Goals as goal

pub returns-then-is_end_of_contents-clause-found : goal.returns-then-is_end_of_contents-clause-found
returns-then-is_end_of_contents-clause-found c = end_stepped c.args.octets.now c.args.depth c.requires.inside (c.is_end_of_contents.ensures.0 c.if-is_end_of_contents.true)

pub returns-in-Ok-clause-found : goal.returns-in-Ok-clause-found
returns-in-Ok-clause-found c =
    let found = c.in-Ok.ensures.found in
    element_stepped c.args.octets.now _ c.args.depth _ _ found.0 c.requires.inside (λ e. let t : false ≡ true = sym c.if-is_end_of_contents.false ∙ c.is_end_of_contents.ensures.1 e in cc) found.1 found.2

pub returns-in-Err-Indefinite-clause-found : goal.returns-in-Err-Indefinite-clause-found
returns-in-Err-Indefinite-clause-found c = header_stepped c.args.octets.now c.args.depth c.in-Err-Indefinite.header c.in-Err-Indefinite.field-0 c.requires.inside c.in-Err-Indefinite.ensures.fault c.in-Err-Indefinite.field-0-is

pub returns-in-Err-NoHeader-clause-none : goal.returns-in-Err-NoHeader-clause-none
returns-in-Err-NoHeader-clause-none c = no_bodies_header c.args.octets.now c.args.depth c.in-Err-NoHeader.field-0 c.in-Err-NoHeader.fault c.requires.inside c.in-Err-NoHeader.ensures.fault c.in-Err-NoHeader.field-0-is

pub returns-in-Err-Truncated-clause-none : goal.returns-in-Err-Truncated-clause-none
returns-in-Err-Truncated-clause-none c = no_bodies_truncated c.args.octets.now c.args.depth c.in-Err-Truncated.field-0 c.in-Err-Truncated.header c.requires.inside c.in-Err-Truncated.ensures.fault c.in-Err-Truncated.field-0-is

pub returns-in-Err-NoHeader-clause-fault : goal.returns-in-Err-NoHeader-clause-fault
returns-in-Err-NoHeader-clause-fault c = step_no_header c.args.octets.now c.args.at c.in-Err-NoHeader.field-0 c.in-Err-NoHeader.fault c.in-Err-NoHeader.ensures.fault c.in-Err-NoHeader.field-0-is

pub returns-in-Err-Truncated-clause-fault : goal.returns-in-Err-Truncated-clause-fault
returns-in-Err-Truncated-clause-fault c = step_truncated c.args.octets.now c.args.at c.in-Err-Truncated.field-0 c.in-Err-Truncated.header c.in-Err-Truncated.ensures.fault c.in-Err-Truncated.field-0-is

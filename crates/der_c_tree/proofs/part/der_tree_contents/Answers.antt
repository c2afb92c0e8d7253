use Rattle.der_c_tree.proofs.part.der_tree_contents.Goals as goal

pub returns-clause-given : goal.returns-clause-given
returns-clause-given c is =
    let given = c.put_part.ensures.given is in
    record { start = _; count = _; inside = given.0; part_is = given.1 }

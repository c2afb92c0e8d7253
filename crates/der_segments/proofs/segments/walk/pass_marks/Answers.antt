use Rattle.der_segments.proofs.segments.walk.pass_marks.Goals as goal

pub returns-clause-stops : goal.returns-clause-stops
returns-clause-stops c = c.is_at_mark.ensures.piece c.marks-test.false

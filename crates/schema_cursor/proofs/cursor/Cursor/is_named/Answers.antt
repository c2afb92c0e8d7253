use Rattle.schema_cursor.proofs.cursor.Cursor.is_named.Goals as goal

pub returns-in-None : goal.returns-in-None
returns-in-None c = ((λ e. absurd (cc)), (λ is. absurd (c.in-None.ensures.none c.args.name.now is)))

use Rattle.der_core.proofs.from_fields.decode_fields.Goals as goal

pub returns-in-Err-clause-complete : goal.returns-in-Err-clause-complete
returns-in-Err-clause-complete g c v m = c.in-Err.ensures.complete (g.T.FromFields.fields v) m

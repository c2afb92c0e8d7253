use Rattle.der_core.proofs.from_fields.decode_wrapped.Goals as goal

pub returns-in-Err-clause-complete : goal.returns-in-Err-clause-complete
returns-in-Err-clause-complete g c v = c.in-Err.ensures.complete (g.T.FromFields.fields v)

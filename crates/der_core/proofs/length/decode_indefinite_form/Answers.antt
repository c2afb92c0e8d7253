use Rattle.std.proofs.Common.{Err, sym, ◌∙◌}
use Rattle.der_core.proofs.LengthReadLemmas.{not_der, refused_under_der, scanned}
use Rattle.der_core.proofs.length.decode_indefinite_form.Goals as goal

pub returns-then-is_der-clause-exact : goal.returns-then-is_der-clause-exact
returns-then-is_der-clause-exact g c reliable =
    refused_under_der (sym c.encoding_rules.ensures ∙ c.is_der.ensures.0 c.if-is_der.true) c.error.ensures.at_position c.error.ensures.failed

pub returns-in-Err-clause-exact : goal.returns-in-Err-clause-exact
returns-in-Err-clause-exact g c = (scanned (Err c.in-Err.error) _ _ (sym c.encoding_rules.ensures ∙ not_der c.is_der.ensures c.if-is_der.false) c.in-Err.ensures).1

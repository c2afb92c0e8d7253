use Rattle.der_core.proofs.BeforeLemmas.{fields_certain_if_some}
use Rattle.der_core.proofs.encode.fields.Tuple2Encode.len_before.Goals as goal

pub returns-in-Some-Some : goal.returns-in-Some-Some
returns-in-Some-Some g c =
    fields_certain_if_some _ _ _ _ _ _ _ _ c.in-Some-Some.first c.in-Some-Some.second c.checked_add.result c.checked_add.ensures c.in-Some-Some.ensures c.in-Some-Some.ensures'

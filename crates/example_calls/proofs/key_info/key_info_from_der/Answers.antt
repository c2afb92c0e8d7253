use Rattle.std.proofs.Common.{⊎_elim, arith}
use Rattle.std.proofs.lemmas.Result.{IfOk-weaker}
use Rattle.der.proofs.LawfulLemmas.{elements_are_encodings, whole_encodings}
use Rattle.example_calls.specs.KeyInfo.{key_info_lawful}
use Rattle.example_calls.proofs.key_info.key_info_from_der.Goals as goal

pub returns-clause-ok : goal.returns-clause-ok
returns-clause-ok c = let whole = whole_encodings (elements_are_encodings key_info_lawful) in IfOk-weaker c.from_der.result _ _ (λ v h. whole.only _ v h) c.from_der.ensures.ok

pub returns-clause-complete : goal.returns-clause-complete
returns-clause-complete c v short is e =
    let whole = whole_encodings (elements_are_encodings key_info_lawful) in
    ⊎_elim (λ ok. ok) (λ lack. absurd (let no = lack.0 in cc)) (c.from_der.ensures.complete v short (whole.every _ v short is e) (omega arith))

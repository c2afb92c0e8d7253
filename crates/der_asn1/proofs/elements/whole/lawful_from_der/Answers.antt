use Rattle.std.proofs.Common.{arith}
use Rattle.std.proofs.lemmas.Result.{IfOk-weaker}
use Rattle.der.proofs.LawfulLemmas.{elements_are_encodings, whole_encodings}
use Rattle.der_asn1.proofs.elements.whole.lawful_from_der.Goals as goal

pub returns-clause-ok : goal.returns-clause-ok
returns-clause-ok g c = let whole = whole_encodings (elements_are_encodings g.met.T.Lawful.lawful) in IfOk-weaker c.from_der.result _ _ (λ v h. whole.only _ v h) c.from_der.ensures.ok

pub returns-clause-complete : goal.returns-clause-complete
returns-clause-complete g c v short is e =
    let whole = whole_encodings (elements_are_encodings g.met.T.Lawful.lawful) in
    c.from_der.ensures.complete v short (whole.every _ v short is e) (omega (arith, g.met.T.Lawful.lawful.shallow))

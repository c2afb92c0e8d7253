use Rattle.std.proofs.Common.{◌≡◌, false, true, inl, inr}
use Rattle.x509_lint.proofs.ElementLemmas.{one_element}
use Rattle.x509_lint.proofs.elements.only_element.Goals as goal

pub returns-in-Err-clause-none : goal.returns-in-Err-clause-none
returns-in-Err-clause-none c tag contents is =
    elim (c.in-Err.ensures.complete is.0 (one_element c.args.octets.now tag contents is.1 is.2)) [ inl never ↦ (let f : false ≡ true = never in cc) | inr lacks ↦ (let f : false ≡ true = lacks.0 in cc) ]

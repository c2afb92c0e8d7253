use Rattle.std.proofs.Common.{◌≡◌, ◌∙◌, false, true, Ok, ap, inl, inr}
use Rattle.x509_path.proofs.PolicyNumberLemmas.{skips_err, skips_lost, skips_none, skips_read}
use Rattle.x509_path.proofs.policy_numbers.skips_of.Goals as goal

pub returns-in-Ok-None-clause-some : goal.returns-in-Ok-None-clause-some
returns-in-Ok-None-clause-some c =
    skips_none _ c.args.signed.now c.find_extension.result c.find_extension.ensures.absent c.find_extension.ensures.found (c.in-Ok-None.is ∙ ap Ok c.in-Ok-None.field-0-is)

pub returns-in-Ok-Some-clause-some : goal.returns-in-Ok-Some-clause-some
returns-in-Ok-Some-clause-some c =
    skips_read _ c.args.signed.now c.find_extension.result c.find_extension.ensures.absent c.find_extension.ensures.found c.in-Ok-Some.known (c.in-Ok-Some.is ∙ ap Ok c.in-Ok-Some.field-0-is) (λ v r. r.ok)
    c.counted.result c.counted.ensures.some

pub returns-in-Ok-Some-clause-none : goal.returns-in-Ok-Some-clause-none
returns-in-Ok-Some-clause-none c =
    skips_lost _ c.args.signed.now c.find_extension.result c.find_extension.ensures.absent c.find_extension.ensures.found c.in-Ok-Some.known (c.in-Ok-Some.is ∙ ap Ok c.in-Ok-Some.field-0-is) (λ v r. r.ok)
    c.counted.result c.counted.ensures.none

pub returns-in-Err-clause-none : goal.returns-in-Err-clause-none
returns-in-Err-clause-none c =
    skips_err _ c.args.signed.now c.find_extension.result c.find_extension.ensures.absent c.find_extension.ensures.found _ c.in-Err.is
    (λ v inner small r q is e. elim (r.complete q small is e) [ inl never ↦ (let f : false ≡ true = never in cc) | inr lacks ↦ (let f : false ≡ true = lacks.0 in cc) ])

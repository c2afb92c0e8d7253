use Rattle.std.proofs.Common.{◌≡◌, ◌∙◌, false, true, Ok, ap, inl, inr}
use Rattle.x509_path.proofs.PolicyNumberLemmas.{any_err, any_lost, any_none, any_read}
use Rattle.x509_path.proofs.policy_numbers.any_skip_of.Goals as goal

pub returns-in-Ok-None-clause-some : goal.returns-in-Ok-None-clause-some
returns-in-Ok-None-clause-some c =
    any_none _ c.args.signed.now c.find_extension.result c.find_extension.ensures.absent c.find_extension.ensures.found (c.in-Ok-None.is ∙ ap Ok c.in-Ok-None.field-0-is)

pub returns-in-Ok-Some-clause-some : goal.returns-in-Ok-Some-clause-some
returns-in-Ok-Some-clause-some c =
    any_read _ c.args.signed.now c.find_extension.result c.find_extension.ensures.absent c.find_extension.ensures.found c.in-Ok-Some.known c.in-Ok-Some.known.value.octets.now (c.in-Ok-Some.is ∙ ap Ok c.in-Ok-Some.field-0-is) (λ v r. r.ok)
    c.counted_any.result c.counted_any.ensures.some

pub returns-in-Ok-Some-clause-none : goal.returns-in-Ok-Some-clause-none
returns-in-Ok-Some-clause-none c =
    any_lost _ c.args.signed.now c.find_extension.result c.find_extension.ensures.absent c.find_extension.ensures.found c.in-Ok-Some.known c.in-Ok-Some.known.value.octets.now (c.in-Ok-Some.is ∙ ap Ok c.in-Ok-Some.field-0-is) (λ v r. r.ok)
    c.counted_any.result c.counted_any.ensures.none

pub returns-in-Err-clause-none : goal.returns-in-Err-clause-none
returns-in-Err-clause-none c =
    any_err _ c.args.signed.now c.find_extension.result c.find_extension.ensures.absent c.find_extension.ensures.found _ c.in-Err.is
    (λ v inner small r octets e h. elim (r.complete (record { octets = record { ref_ptr = (0, 0); now = octets }; grammar = record {}; checked = h }) small h e)
    [ inl never ↦ (let f : false ≡ true = never in cc) | inr lacks ↦ (let f : false ≡ true = lacks.0 in cc) ])

use Rattle.std.proofs.Common.{refl, rules, Some}
use Rattle.der_base.specs.Text.{error_text}
use Rattle.der_c_core.specs.ErrorText.{of_error, of_unbalanced}
use Rattle.der_c_core.proofs.TextLemmas.{written_text_is_truncated}
use Rattle.der_c_core.proofs.EndLemmas.{written_fits, error_fits}
use Rattle.der_c_core.proofs.text.write_text.Goals as goal

pub returns-in-Ok-clause-fits : goal.returns-in-Ok-clause-fits
returns-in-Ok-clause-fits c = written_fits _ c.write.new.self _ refl c.in-Ok.ensures.writes

pub returns-in-Ok-clause-written : goal.returns-in-Ok-clause-written
returns-in-Ok-clause-written c = of_unbalanced c.if-error-eq23.true (written_text_is_truncated (Some _) _ c.write.new.self _ refl c.in-Ok.ensures.writes (λ same. search (rules, same)))

pub returns-in-Ok-write-clause-fits : goal.returns-in-Ok-write-clause-fits
returns-in-Ok-write-clause-fits c = error_fits c.in-Some.known c.args.error _ c.write-in-Some.new.self c.in-Some.ensures.some.0 c.in-Some.ensures.some.1 refl c.in-Ok-write.ensures.writes

pub returns-in-Ok-write-clause-written : goal.returns-in-Ok-write-clause-written
returns-in-Ok-write-clause-written c =
    of_error c.in-Some.known c.in-Some.ensures.some.1 c.in-Some.ensures.some.0
    (written_text_is_truncated (error_text c.in-Some.known) _ c.write-in-Some.new.self _ refl c.in-Ok-write.ensures.writes (λ same. search (rules, same)))

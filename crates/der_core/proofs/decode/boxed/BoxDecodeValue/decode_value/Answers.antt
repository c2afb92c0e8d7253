use Rattle.std.proofs.Common.{Ok, refl, sym, subst}
use Rattle.std.proofs.lemmas.Result.{err_from_is_err_and}
use Rattle.der_core.specs.Header.{head_of}
use Rattle.der_core.specs.Boxed.{boxed, not_read, no_memory}
use Rattle.der_core.proofs.decode.boxed.BoxDecodeValue.decode_value.Goals as goal

pub returns-in_err-value-clause-exact : goal.returns-in_err-value-clause-exact
returns-in_err-value-clause-exact g c =
    let p = err_from_is_err_and c.from_residual.result c.from_residual.ensures.1 in
    rw (p.1, p.2) (λ reliable. not_read _ (c.in_err-value.ensures.exact reliable) refl)

pub returns-in-Ok-clause-exact : goal.returns-in-Ok-clause-exact
returns-in-Ok-clause-exact g c reliable =
    boxed c.in-Ok.boxed
    (subst (λ v. g.T.DecodeValue.decode_value_answers (head_of c.args.header) (g.R.Reader.state c.args.reader.now) (Ok v) (g.R.Reader.state c.decode_value.new.reader)) (sym c.in-Ok.ensures.ok)
    (c.in_ok-value.ensures.exact reliable)) refl

pub returns-clause-exact : goal.returns-clause-exact
returns-clause-exact g c reliable = no_memory c.in_ok-value.value c.into.result (c.in_ok-value.ensures.exact reliable) (subst (λ e. g.T.Error.From.from_gives e c.into.result) c.to_error.ensures c.into.ensures) refl

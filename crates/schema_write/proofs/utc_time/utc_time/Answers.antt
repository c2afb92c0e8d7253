use Rattle.std.proofs.Common.{◌≡◌, ◌∙◌, sym, subst}
use Rattle.schema_write.specs.Instants.{IsUtcTimeInDer, in_utc, kept}
use Rattle.schema_read.proofs.ResultLemmas.{if_ok}
use Rattle.schema_write.proofs.utc_time.utc_time.Goals as goal

pub returns-in-Some : goal.returns-in-Some
returns-in-Some c =
    if_ok c.copy_of.result (λ v e. subst (IsUtcTimeInDer c.args.contents.now) (sym (e ∙ c.as_slice.ensures ∙ c.to_contents.ensures.octets)) (in_utc c.in-Some.time c.in-Some.ensures.time.0 c.in-Some.ensures.time.1)) c.copy_of.ensures

pub returns-in-None : goal.returns-in-None
returns-in-None c =
    if_ok c.copy_of-in-None.result (λ v e. subst (IsUtcTimeInDer c.args.contents.now) (sym e) (kept c.in-None.ensures.none)) c.copy_of-in-None.ensures

use Rattle.std.proofs.Common.{◌∙◌, sym, subst}
use Rattle.schema_types.specs.Table.{table_in}
use Rattle.schema_read.specs.Encoding.{IsDer, IsBer}
use Rattle.schema_read.proofs.ResultLemmas.{if_ok}
use Rattle.schema_write.proofs.VerdictLemmas.{IsExact, der_says, ber_says}
use Rattle.schema_write.proofs.writing.judged.Goals as goal

pub returns-in-Ok-clause-written : goal.returns-in-Ok-clause-written
returns-in-Ok-clause-written c =
    let table = c.args.schema.now.octets.now in
    let exact : IsExact table c.args.node c.args.written.items c.in-Ok.verdict = subst (λ q. IsExact table c.args.node q c.in-Ok.verdict) c.as_slice.ensures.value c.in-Ok.ensures.exact in
    let says = ber_says table c.args.node c.args.written.items c.in-Ok.verdict exact in
    if_ok c.with_verdict.result (λ w e. subst (λ q. IsBer (table_in table) c.args.node q) (sym e.0) (says.0 e.1)) c.with_verdict.ensures.ok

pub returns-in-Ok-clause-der : goal.returns-in-Ok-clause-der
returns-in-Ok-clause-der c =
    let table = c.args.schema.now.octets.now in
    let exact : IsExact table c.args.node c.args.written.items c.in-Ok.verdict = subst (λ q. IsExact table c.args.node q c.in-Ok.verdict) c.as_slice.ensures.value c.in-Ok.ensures.exact in
    let says = der_says table c.args.node c.args.written.items c.in-Ok.verdict exact in
    if_ok c.with_verdict.result (λ w e. (
      (λ is. subst (λ q. IsDer (table_in table) c.args.node q) (sym e.0) (says.0 (sym e.2 ∙ is))),
      (λ is. e.2 ∙ says.1 (subst (λ q. IsDer (table_in table) c.args.node q) e.0 is)),
    )) c.with_verdict.ensures.ok

use Rattle.std.proofs.Common.{◌≡◌, refl, sym, [], false}
use Rattle.schema_read.specs.Types.{types_in}
use Rattle.schema_read.proofs.FindsLemmas.{body_at}
use Rattle.schema_read.proofs.VerdictLemmas.{logs_is, logs_then}
use Rattle.schema_read.proofs.WholeLemmas.{whole_found, exact_of}
use Rattle.schema_read.proofs.walk.walk.Goals as goal

pub value-requires-clause-distinct : goal.value-requires-clause-distinct
unfolding types_in
value-requires-clause-distinct c = c.args.schema.now.distinct

pub returns-clause-exact : goal.returns-clause-exact
returns-clause-exact c =
    exact_of (sym c.and.ensures)
    (whole_found c.args.octets.now c.in_ok-outcome.ensures.finds (body_at (λ rules inner. inner ≡ []) {b = []} {m = false} refl refl c.at.ensures.octets c.in_ok-end.ensures.finds))

pub returns-clause-log : goal.returns-clause-log
returns-clause-log c = logs_is c.and.ensures (logs_then c.in_ok-outcome.ensures.log c.in_ok-end.ensures.log)

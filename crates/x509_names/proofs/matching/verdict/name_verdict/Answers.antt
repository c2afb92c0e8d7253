use Rattle.std.proofs.Common.{sym, subst}
use Rattle.x509_names.proofs.VerdictLemmas.{judged}
use Rattle.x509_names.specs.Verdicts.{IsVerdict}
use Rattle.x509_names.proofs.matching.verdict.name_verdict.Goals as goal

pub returns : goal.returns
returns c =
    let p = c.permitted_tally-permitted.ensures in
    let e = c.excluded_tally-excluded.ensures in
    record {
      permitted = p.list;
      excluded = e.list;
      is = subst (IsVerdict p.list.items e.list.items c.args.name.now) (sym c.verdict_of.ensures) (judged c.permitted_tally-permitted.result c.excluded_tally-excluded.result c.args.name.now p.list.items e.list.items p.answers e.answers);
    }

use Rattle.std.proofs.Common.{refl, rules}
use Rattle.der_c_core.specs.ElementCalls.{there, missing}
use Rattle.der_c_core.specs.Failure.{RefusesContents}
use Rattle.der_c_core.proofs.ReadLemmas.{fails_by}
use Rattle.der_c_core.proofs.element.read_element_contents.Goals as goal

pub returns-in-Ok-clause-reads : goal.returns-in-Ok-clause-reads
returns-in-Ok-clause-reads c =
    there c.in-Ok.octets.now (rw c.length-length.ensures at c.in-Ok.ensures.exact) refl (record {
      contents = search rules;
      tag = search rules;
      start = refl;
      contents_start = refl;
      constructed = search rules;
      indefinite = search rules;
    })

pub returns-in-Err-clause-reads : goal.returns-in-Err-clause-reads
returns-in-Err-clause-reads c =
    missing (fails_by (RefusesContents _ _) c.in-Err.error _ (rw c.length-length.ensures at (c.in-Err.ensures.exact refl)) c.fail.ensures.reported c.fail.ensures.stopped) refl

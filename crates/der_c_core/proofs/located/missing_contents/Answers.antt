use Rattle.std.proofs.Common.{refl, sym, ◌∙◌}
use Rattle.der_c_core.specs.Located.{no_header, there, too_long}
use Rattle.der_c_core.proofs.located.missing_contents.Goals as goal

pub returns-in-Err-clause-not_cut : goal.returns-in-Err-clause-not_cut
returns-in-Err-clause-not_cut c = no_header c.in-Err.field-0 _ (c.in-Err.ensures.refused refl)

pub returns-in-Ok-read_slice-clause-not_cut : goal.returns-in-Ok-read_slice-clause-not_cut
returns-in-Ok-read_slice-clause-not_cut c =
    there c.in-Ok.header _ _ c.in-Ok-read_slice.field-0.now c.in-Ok.ensures.ok (rw c.length.ensures at c.in-Ok-read_slice.ensures.exact)

pub returns-else-says_incomplete-clause-not_cut : goal.returns-else-says_incomplete-clause-not_cut
returns-else-says_incomplete-clause-not_cut c =
    too_long c.in-Ok.header _ _ c.in-Err-read_slice.missing c.in-Ok.ensures.ok (rw c.length.ensures at (c.in-Err-read_slice.ensures.exact refl))
    (sym c.says_incomplete.ensures ∙ c.if-says_incomplete.false)

use Rattle.std.proofs.Common.{append_assoc, rules, sym}
use Rattle.der_base.proofs.TextLemmas.{two_digits}
use Rattle.der_base.proofs.error.ErrorKindDisplay.fmt.Goals as goal

-- five pieces, joined from the left in the text and from the right by the write
pub returns-in-TrailingData-clause-writes : goal.returns-in-TrailingData-clause-writes
returns-in-TrailingData-clause-writes g c =
    rw c.in-TrailingData.is (simp append_assoc c.write-in-TrailingData.ensures.writes)

pub returns-in-TagUnknown-clause-writes : goal.returns-in-TagUnknown-clause-writes
returns-in-TagUnknown-clause-writes g c =
    rw (c.in-TagUnknown.is, sym (two_digits c.in-TagUnknown.byte)) (search (rules, c.in_radix.ensures, c.laid_out.ensures, c.write-in-TagUnknown.ensures))

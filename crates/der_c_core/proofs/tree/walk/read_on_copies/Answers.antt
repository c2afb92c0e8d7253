use Rattle.der_c_core.proofs.ReadLemmas.{read_moves, refused_read, passed_read}
use Rattle.der_c_core.proofs.tree.walk.read_on_copies.Goals as goal

pub returns-then-error-ne0-clause-reads : goal.returns-then-error-ne0-clause-reads
returns-then-error-ne0-clause-reads c =
    let reads = rw c.fork-copy.ensures at c.read_generally-error.ensures.reads in
    (_, refused_read reads c.if-error-ne0.true, λ none. absurd (c.if-error-ne0.true none))

pub returns-clause-reads : goal.returns-clause-reads
returns-clause-reads c =
    let reads = rw c.fork-copy.ensures at c.read_generally-error.ensures.reads in
    (_, passed_read reads c.if-error-ne0.false, λ none. read_moves reads c.if-error-ne0.false)

use Rattle.std.proofs.Common.{refl, rules}
use Rattle.der_c_core.specs.Part.{begun}
use Rattle.der_c_core.proofs.writer.part.der_begin.Goals as goal

pub returns-then-write_short : goal.returns-then-write_short
returns-then-write_short c =
    let w = c.write_short.ensures.written c.if-write_short.true in
    begun w.tag w.is (rw c.open_element.ensures.same w.writes) refl (search rules) (search rules) (search rules)

pub returns : goal.returns
returns c = rw (c.write_short.ensures.left c.if-write_short.false) at c.begin_slowly.ensures

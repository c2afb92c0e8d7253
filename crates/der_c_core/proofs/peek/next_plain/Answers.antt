use Rattle.std.proofs.Common.{refl, sym, ◌∙◌}
use Rattle.der_c_core.specs.CReader.{reader_state}
use Rattle.der_c_core.proofs.NextTagLemmas.{plain_next, some_left}
use Rattle.der_c_core.proofs.peek.next_plain.Goals as goal

pub returns : goal.returns
returns c =
    plain_next (reader_state c.args.reader.now) c.in-Ok.next.now (c.in-Ok.ensures.exact refl) (some_left c.in-Ok.next.now (sym c.is_empty.ensures ∙ c.if-is_empty.false)) (c.is_identifier.ensures c.if-not-is_identifier.false)

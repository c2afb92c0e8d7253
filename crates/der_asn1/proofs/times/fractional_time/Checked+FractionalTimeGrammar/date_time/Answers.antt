use Rattle.std.proofs.lemmas.Bool.{and_parts, false≢true}
use Rattle.der_asn1.proofs.times.fractional_time.Checked+FractionalTimeGrammar.date_time.Goals as goal

pub unreachable-requires : goal.unreachable-requires
unreachable-requires c = false≢true (c.in-None.ensures.some.1 (and_parts _ _ c.octets.ensures.formed).0)

use Rattle.der_asn1.proofs.contents.checked.Checked.as_str.Goals as goal

pub unreachable-requires : goal.unreachable-requires
unreachable-requires g c = c.in-Err.ensures.cases.0 (g.met.F.TextGrammar.is_text _ c.octets.ensures.formed)

use Rattle.std.proofs.Common.{sym, ap, ◌∙◌, Ok}
use Rattle.der.specs.Prelude.{definite_length, number}
use Rattle.der_segments.proofs.SegmentedLemmas.{octets_counted}
use Rattle.der_segments.proofs.segmented.written.SegmentedEncodeValue.value_len.Goals as goal

pub returns-clause-ok : goal.returns-clause-ok
returns-clause-ok c = ap number c.new.ensures ∙ sym (octets_counted c.args.self.now.formed)

pub returns-clause-exact : goal.returns-clause-exact
returns-clause-exact c = ap Ok (c.new.ensures ∙ ap definite_length (sym (octets_counted c.args.self.now.formed)))

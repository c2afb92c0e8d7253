use Rattle.std.proofs.Common.{arith, ap, subst, sym, ◌∙◌}
use Rattle.der.specs.Prelude.{number}
use Rattle.der.specs.ReaderState.{resumed_state}
use Rattle.der.specs.Resumption.{outer_depth}
use Rattle.der_asn1.specs.ListAnswers.{IsPart}
use Rattle.der_asn1.proofs.ListAnswerLemmas.{is_part, part_is_whole, slice_read}
use Rattle.der_asn1.proofs.lists.item_walk.read_part.Goals as goal

pub returns-clause-part : goal.returns-clause-part
returns-clause-part g c =
    subst (λ x. IsPart (g.R.Reader.state c.args.reader.now) (number c.args.len) x (g.R.Borrowed.Octets.octets c.in_ok-octets.octets))
    (sym (c.leave_nested.ensures ∙ ap (λ e. resumed_state (g.R.Reader.state c.fork-part.result) e (outer_depth c.new.result)) c.new.ensures.end ∙ ap (λ d. resumed_state (g.R.Reader.state c.fork-part.result) (number c.position.result) d) c.new.ensures.depth))
    (is_part (slice_read c.in_ok-octets.ensures.exact) (g.R.Reader.state c.fork-part.result) c.position.result c.fork-part.ensures c.position.ensures (omega arith))

pub returns-clause-ends : goal.returns-clause-ends
returns-clause-ends g c = part_is_whole (slice_read c.in_ok-octets.ensures.exact) (g.met.R.Reader.sound_state c.args.reader.now)

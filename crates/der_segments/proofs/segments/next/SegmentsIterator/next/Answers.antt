use Rattle.std.proofs.Common.{◌≡◌, Ok, List, ℕ, Bor}
use Rattle.der.specs.Prelude.{rest_of, slice_state}
use Rattle.der_asn1.proofs.SequenceOfLemmas.{slice_sound}
use Rattle.der_segments.specs.Segments.{pieces_left}
use Rattle.der_segments.proofs.SegmentsLemmas.{whole_read, none_left, whole_given, next_left, step_succeeds, steps_given, progress, Stepped}
use Rattle.der_segments.proofs.segments.next.SegmentsIterator.next.Goals as goal

pub invariant_of-self : goal.invariant_of-self
invariant_of-self c =
    let whole = whole_read (slice_sound c.args.self.now.reader) c.args.self.now.working c.remaining_len-length.result c.remaining_len-length.ensures _ c.read_slice.ensures.exact in
    record { working = whole.working; left = ∣ none_left whole.left ∣₁ }

pub returns-then-not-self-clause-steps : goal.returns-then-not-self-clause-steps
returns-then-not-self-clause-steps c =
    let whole = whole_read (slice_sound c.args.self.now.reader) c.args.self.now.working c.remaining_len-length.result c.remaining_len-length.ensures (Ok c.in-Ok.octets.now) c.in-Ok.ensures.exact in
    let all : c.in-Ok.octets.now ≡ rest_of (slice_state c.args.self.now.reader) = (let same = whole.answered in cc) in
    whole_given c.args.self.now.left _ c.in-Ok.octets.now c.if-not-self.true all whole.left

pub returns-then-not-self-clause-goes : goal.returns-then-not-self-clause-goes
returns-then-not-self-clause-goes c = progress _ (λ _. tt) pieces_left (λ (x : Bor (List ℕ)). x.now) _ _ _ (returns-then-not-self-clause-steps c)

pub invariant_of-self-2 : goal.invariant_of-self-2
invariant_of-self-2 c =
    let n = next_left (λ (x : Bor (List ℕ)). x.now) c.next_piece.result (slice_state c.next_piece.new.reader) c.if-not-self.false c.args.self.now.left c.next_piece.ensures.working c.next_piece.ensures.gives in
    record { working = n.0; left = n.1 }

pub unreachable-requires-in-Err-next_piece : goal.unreachable-requires-in-Err-next_piece
unreachable-requires-in-Err-next_piece c =
    step_succeeds c.in-Err-next_piece.field-0 (λ pieces r. Stepped (λ (x : Bor (List ℕ)). x.now) pieces r (slice_state c.next_piece.new.reader)) c.if-not-self.false c.args.self.now.left c.in-Err-next_piece.ensures.gives

pub returns-clause-steps : goal.returns-clause-steps
returns-clause-steps c =
    steps_given (λ (x : Bor (List ℕ)). x.now) c.in-Ok-next_piece.piece (slice_state c.next_piece.new.reader) c.args.self.now.left _ c.if-not-self.false c.in-Ok-next_piece.ensures.gives

pub returns-clause-goes : goal.returns-clause-goes
returns-clause-goes c = progress _ (λ _. tt) pieces_left (λ (x : Bor (List ℕ)). x.now) _ _ _ (returns-clause-steps c)

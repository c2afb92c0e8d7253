use Rattle.std.proofs.Common.{◌≡◌, [], refl, sym, ◌∙◌, false, true, rules}
use Rattle.der.specs.Prelude.{rest_of, slice_state, definite_length}
use Rattle.der_asn1.proofs.OptionalReadLemmas.{rest_before_end}
use Rattle.der_asn1.proofs.SequenceOfLemmas.{slice_sound}
use Rattle.der_segments.proofs.WalkLemmas.{still_working, piece_next, piece_there, piece_taken, length_read}
use Rattle.der_segments.proofs.segments.walk.next_piece.Goals as goal

pub returns-in_err-length-clause-gives : goal.returns-in_err-length-clause-gives
returns-in_err-length-clause-gives c pieces h =
    let s = slice_state c.pass_marks.new.reader in
    let some : rest_of s ≡ [] → ⊥ = rest_before_end s (slice_sound c.pass_marks.new.reader) (λ e. absurd (let no = c.is_finished.ensures.1 e in let f = c.if-is_finished.false in let w : false ≡ true = search rules in cc)) in
    let p = piece_next c.in_ok-pass_marks.ensures.stops some c.in_ok-read_byte.ensures.exact (c.in_ok-pass_marks.ensures.keeps pieces h).1 in
    let l = length_read (still_working c.in_ok-pass_marks.ensures.working c.in_ok-read_byte.ensures.exact) c.decode_length.ensures _ _ p.small p.split in
    absurd (let wrong = sym c.in_err-length.was ∙ l.answered in cc)

pub returns-in_err-piece-clause-gives : goal.returns-in_err-piece-clause-gives
returns-in_err-piece-clause-gives c pieces h =
    let s = slice_state c.pass_marks.new.reader in
    let some : rest_of s ≡ [] → ⊥ = rest_before_end s (slice_sound c.pass_marks.new.reader) (λ e. absurd (let no = c.is_finished.ensures.1 e in let f = c.if-is_finished.false in let w : false ≡ true = search rules in cc)) in
    let p = piece_next c.in_ok-pass_marks.ensures.stops some c.in_ok-read_byte.ensures.exact (c.in_ok-pass_marks.ensures.keeps pieces h).1 in
    let l = length_read (still_working c.in_ok-pass_marks.ensures.working c.in_ok-read_byte.ensures.exact) c.decode_length.ensures _ _ p.small p.split in
    let is : c.in_ok-length.length ≡ definite_length _ = (let same = sym c.in_ok-length.was ∙ l.answered in cc) in
    absurd (piece_there p.contents p.more c.in_ok-length.length (slice_sound c.decode_length.new.reader) l.working l.left is (c.in_err-piece.ensures.exact refl))

pub returns-clause-gives : goal.returns-clause-gives
returns-clause-gives c pieces h =
    let s = slice_state c.pass_marks.new.reader in
    let some : rest_of s ≡ [] → ⊥ = rest_before_end s (slice_sound c.pass_marks.new.reader) (λ e. absurd (let no = c.is_finished.ensures.1 e in let f = c.if-is_finished.false in let w : false ≡ true = search rules in cc)) in
    let p = piece_next c.in_ok-pass_marks.ensures.stops some c.in_ok-read_byte.ensures.exact (c.in_ok-pass_marks.ensures.keeps pieces h).1 in
    let l = length_read (still_working c.in_ok-pass_marks.ensures.working c.in_ok-read_byte.ensures.exact) c.decode_length.ensures _ _ p.small p.split in
    let is : c.in_ok-length.length ≡ definite_length _ = (let same = sym c.in_ok-length.was ∙ l.answered in cc) in
    piece_taken p c.in_ok-length.length l.left is c.in_ok-piece.ensures.exact

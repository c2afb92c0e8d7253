use Rattle.std.proofs.Common.{refl, sym, ◌∙◌, subst}
use Rattle.der_segments.specs.Pieces.{InPieces}
use Rattle.der_segments.proofs.WalkLemmas.{octet_there, octet_read, still_working, mark_read, short_passed, long_passed, length_read, others_same}
use Rattle.der_segments.proofs.segments.walk.pass_mark.Goals as goal

pub returns-in_err-read_byte-clause-keeps : goal.returns-in_err-read_byte-clause-keeps
returns-in_err-read_byte-clause-keeps c pieces h =
    let p = short_passed (mark_read c.requires.mark c.in_ok-first.ensures.exact h) (c.is_short_mark.ensures.short c.if-is_short_mark.true) in
    absurd (octet_there p.0 p.1 (still_working c.requires.working c.in_ok-first.ensures.exact) p.2 (c.in_err-read_byte.ensures.exact refl))

pub returns-in_err-decode_length-clause-keeps : goal.returns-in_err-decode_length-clause-keeps
returns-in_err-decode_length-clause-keeps c pieces h =
    let p = long_passed (mark_read c.requires.mark c.in_ok-first.ensures.exact h) (c.is_short_mark.ensures.long c.if-is_short_mark.false) in
    let l = length_read (still_working c.requires.working c.in_ok-first.ensures.exact) c.decode_length.ensures p.0 p.1 p.2 p.3 in
    absurd (let wrong = sym c.in_err-decode_length.was ∙ l.answered in cc)

pub returns-in_ok-read_byte-clause-keeps : goal.returns-in_ok-read_byte-clause-keeps
returns-in_ok-read_byte-clause-keeps c pieces h =
    let p = short_passed (mark_read c.requires.mark c.in_ok-first.ensures.exact h) (c.is_short_mark.ensures.short c.if-is_short_mark.true) in
    (refl, subst (λ x. InPieces x pieces) (others_same (sym p.2 ∙ octet_read c.in_ok-read_byte.ensures.exact)) p.3)

pub returns-in_ok-decode_length-clause-keeps : goal.returns-in_ok-decode_length-clause-keeps
returns-in_ok-decode_length-clause-keeps c pieces h =
    let p = long_passed (mark_read c.requires.mark c.in_ok-first.ensures.exact h) (c.is_short_mark.ensures.long c.if-is_short_mark.false) in
    let l = length_read (still_working c.requires.working c.in_ok-first.ensures.exact) c.decode_length.ensures p.0 p.1 p.2 p.3 in
    (refl, subst (λ x. InPieces x pieces) (sym l.left) p.4)

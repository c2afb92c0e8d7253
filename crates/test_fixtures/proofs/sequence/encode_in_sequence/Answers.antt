use Rattle.std.proofs.Common.{arith, rules, ◌≡◌, ℕ, ◌+◌, ◌^◌, ◌<◌, true, false, List, length, length-append, refl, ap, ◌∙◌, Result, Err}
use Rattle.der.specs.Prelude.{number, header_octets, Sequence, Error, Appends, slice_writer_state}
use Rattle.der.specs.Writer.{WriterState, appended_state}
use Rattle.der.specs.Encode.{FitsCounted}
use Rattle.der.proofs.WriterLemmas.{filled_appends}
use Rattle.der.specs.WrittenSequence.{ClosesPart, forwarded, failed, unfilled, filled, part_state, headed_state}
use Rattle.test_fixtures.proofs.sequence.encode_in_sequence.Goals as goal

-- a part that is filled exactly is written without an error
not_refused : (s p q t : WriterState) (n : ℕ) (octets : List ℕ) (answer result : Result (Unit {0}) Error) (e : Error) → p ≡ part_state s n → length octets ≡ n → n < 2 ^ 32
    → FitsCounted p octets answer → Appends p octets answer q → ClosesPart s n q t answer result → result ≡ Err e → ⊥
not_refused s p q t n octets _ _ e over full few takes appends (forwarded f abandoned) is =
    let alive : p.failed ≡ false = ap (λ (u : WriterState). u.failed) over in
    let begin : length p.octets ≡ length s.octets = ap (λ (u : WriterState). length u.octets) over in
    let stop : p.stop ≡ length s.octets + n = ap (λ (u : WriterState). u.stop) over in
    let wrong : false ≡ true = takes (omega (arith, full, few)) alive (omega (arith, begin, full, stop)) in
    absurd cc
not_refused s p q t n octets _ _ e over full few takes appends (failed lost abandoned) is =
    let alive : p.failed ≡ false = ap (λ (u : WriterState). u.failed) over in
    let kept : q.failed ≡ p.failed = ap (λ (u : WriterState). u.failed) appends in
    absurd cc
not_refused s p q t n octets _ _ e over full few takes appends (unfilled alive short abandoned) is =
    let begin : length p.octets ≡ length s.octets = ap (λ (u : WriterState). length u.octets) over in
    let more : length q.octets ≡ length p.octets + length octets = ap (λ (u : WriterState). length u.octets) appends ∙ length-append p.octets octets in
    absurd (omega (arith, begin, more, full, short))
not_refused s p q t n octets _ _ e over full few takes appends (filled alive whole leaves) is = absurd cc

pub returns-in-Ok-clause-ok : goal.returns-in-Ok-clause-ok
returns-in-Ok-clause-ok g c =
    let did = c.in-Ok.ensures.ok in
    let appends : slice_writer_state did.after.now ≡ appended_state (slice_writer_state did.given.now) (g.T.Encode.encoding c.args.value.now) = (let ran = did.ran in search rules) in
    filled_appends (header_octets Sequence (number c.args.len)) (g.T.Encode.encoding c.args.value.now) (number c.args.len) (slice_writer_state c.args.writer.now)
    (slice_writer_state did.given.now) (slice_writer_state did.after.now) _ did.over_part appends did.leaves

pub returns-in-Err-clause-succeeds : goal.returns-in-Err-clause-succeeds
returns-in-Err-clause-succeeds g c can full alive space =
    let few : number c.args.len < 2 ^ 32 = omega arith in
    let did = c.in-Err.ensures.runs alive space in
    let takes : FitsCounted (slice_writer_state did.given.now) (g.T.Encode.encoding c.args.value.now) did.answer = (let ran = did.ran in search rules) in
    let appends : Appends (slice_writer_state did.given.now) (g.T.Encode.encoding c.args.value.now) did.answer (slice_writer_state did.after.now) = (let ran = did.ran in search rules) in
    absurd (not_refused (headed_state (slice_writer_state c.args.writer.now) (number c.args.len)) _ _ _ (number c.args.len) (g.T.Encode.encoding c.args.value.now) _ _ _ did.over_part full few takes appends did.closed refl)

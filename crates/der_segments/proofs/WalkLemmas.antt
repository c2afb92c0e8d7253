-- Lemmas on a walk over segments.
use Rattle.std.proofs.Common.{◌≡◌, ℕ, ◌^◌, ◌<◌, true, false, Result, Ok, Err, List, [], ◌∷◌, ◌++◌, length, take, refl, sym, ap, ◌∙◌, subst, length-append, arith}
use Rattle.std.proofs.lemmas.List.{take_at}
use Rattle.der_base.proofs.HeaderLemmas.{length_grammar}
use Rattle.der_base.proofs.LengthLemmas.{length_definite}
use Rattle.der_base.proofs.ScanLemmas.{body_fault_laws}
use Rattle.der_base.specs.HeaderGrammar.{LengthNext, LengthFault, definite}
use Rattle.der_base.specs.ScanGrammar.{BodyFault}
use Rattle.der_core.proofs.DecodeLemmas.{accepts}
use Rattle.der_core.proofs.StateLemmas.{by_front, byte_read, failed_on, length-rest, rest_after}
use Rattle.der_core.specs.Decode.{Decodes}
use Rattle.der_core.specs.Outcome.{Gives}
use Rattle.der_core.specs.Reader.{read_byte_outcome, next_octet_outcome, read_slice_outcome}
use Rattle.der_core.specs.ReaderState.{ReaderState, IsSound, advanced_state, rest_of}
use Rattle.der.proofs.RefusedSegmentLemmas.{slice_there}
use Rattle.der.specs.ErrorKinds.{Overlength}
use Rattle.der.specs.Length.{length_octets}
use Rattle.der.specs.Prelude.{Error, Length, definite_length, number}
use Rattle.der_asn1.proofs.ListAnswerLemmas.{slice_read}
use Rattle.der_segments.specs.Pieces.{InPieces}
use Rattle.der_segments.specs.PieceLemmas.{PiecesView, view_nothing, view_end, view_definite, view_indefinite, view_piece, pieces_view, first_same}
use Rattle.der_segments.specs.Walk.{IsAtMark, IsAtPiece, at_end, before_piece, IsShortMark, of_end, of_indefinite, GivesPiece}

-- reading an octet that is there does not fail
pub octet_there : {s t : ReaderState} {e : Error} (o : ℕ) (more : List ℕ) → s.failed ≡ false → rest_of s ≡ o ∷ more → Gives read_byte_outcome s (Err e) t → ⊥
octet_there {s} {t} {e} o more working split g =
    let front : (read_byte_outcome s).answer ≡ (next_octet_outcome s (rest_of s)).answer = ap (λ x. x.answer) (by_front s working) in
    let table : (next_octet_outcome s (rest_of s)).answer ≡ Ok o = ap (λ l. (next_octet_outcome s l).answer) split in
    absurd (let wrong : Err e ≡ Ok o = g.answered ∙ front ∙ table in cc)

pub octet_read : {s t : ReaderState} {o : ℕ} → Gives read_byte_outcome s (Ok o) t → rest_of s ≡ o ∷ rest_of t
octet_read g = (byte_read g).split

pub still_working : {s t : ReaderState} {o : ℕ} → s.failed ≡ false → Gives read_byte_outcome s (Ok o) t → t.failed ≡ false
still_working working g = failed_on (byte_read g) ∙ working

-- an octet that was seen is next
pub octet_seen : (s : ReaderState) {o : ℕ} → s.failed ≡ false → (read_byte_outcome s).answer ≡ Ok o → (more : List ℕ) × (rest_of s ≡ o ∷ more)
octet_seen s {o} working seen = go (rest_of s) refl
  where
    front : (next_octet_outcome s (rest_of s)).answer ≡ Ok o
    front = sym (ap (λ x. x.answer) (by_front s working)) ∙ seen

    go : (l : List ℕ) → rest_of s ≡ l → (more : List ℕ) × (rest_of s ≡ o ∷ more)
    go [] e = absurd (let wrong = sym (ap (λ x. (next_octet_outcome s x).answer) e) ∙ front in cc)
    go (p ∷ more) e = (let same : Ok p ≡ Ok o = sym (ap (λ x. (next_octet_outcome s x).answer) e) ∙ front in let one : p ≡ o = cc in (more, e ∙ ap (λ x. x ∷ more) one))

-- what follows the first octet of a mark
pub data MarkView (first : ℕ) (r : List ℕ) (ps : List (List ℕ)) : Type 0 where
  mark_end : (more : List ℕ) → first ≡ 0 → r ≡ 0 ∷ more → InPieces more ps → MarkView first r ps
  mark_indefinite : (more : List ℕ) → first ≡ 36 → r ≡ 128 ∷ more → InPieces more ps → MarkView first r ps
  mark_definite : (n : ℕ) (more : List ℕ) → first ≡ 36 → n < 2 ^ 32 → r ≡ length_octets n ++ more → InPieces more ps → MarkView first r ps

pub others_same : {a b : ℕ} {x y : List ℕ} → a ∷ x ≡ b ∷ y → x ≡ y
others_same e = cc

mark_view : {s r : List ℕ} {first : ℕ} {ps : List (List ℕ)} → (first ≡ 4 → ⊥) → s ≡ first ∷ r → PiecesView s ps → MarkView first r ps
mark_view other is (view_nothing e z) = absurd (cc)
mark_view other is (view_end more e h) = mark_end more (first_same (sym is ∙ e)) (others_same (sym is ∙ e)) h
mark_view other is (view_definite n more small e h) = mark_definite n more (first_same (sym is ∙ e)) small (others_same (sym is ∙ e)) h
mark_view other is (view_indefinite more e h) = mark_indefinite more (first_same (sym is ∙ e)) (others_same (sym is ∙ e)) h
mark_view other is (view_piece c more qs small e z h) = absurd (other (first_same (sym is ∙ e)))

pub mark_read : {s u : ReaderState} {first : ℕ} {ps : List (List ℕ)} → IsAtMark (rest_of s) → Gives read_byte_outcome s (Ok first) u → InPieces (rest_of s) ps → MarkView first (rest_of u) ps
mark_read m g h =
    let split = octet_read g in
    mark_view (λ e. m.other (first_same (sym m.split ∙ split) ∙ e)) split (pieces_view h)

pub short_passed : {first : ℕ} {r : List ℕ} {ps : List (List ℕ)} → MarkView first r ps → IsShortMark first r → (o : ℕ) × (more : List ℕ) × (r ≡ o ∷ more) × InPieces more ps
short_passed (mark_end more e q h) short = (0, more, q, h)
short_passed (mark_indefinite more e q h) short = (128, more, q, h)
short_passed (mark_definite n more e small q h) (of_end z) = absurd (omega (arith, e, z))
short_passed (mark_definite n more e small q h) (of_indefinite m z) = absurd (length_definite n more m (sym q ∙ z))

pub long_passed : {first : ℕ} {r : List ℕ} {ps : List (List ℕ)} → MarkView first r ps → (IsShortMark first r → ⊥) → (n : ℕ) × (more : List ℕ) × (n < 2 ^ 32) × (r ≡ length_octets n ++ more) × InPieces more ps
long_passed (mark_end more e q h) long = absurd (long (of_end e))
long_passed (mark_indefinite more e q h) long = absurd (long (of_indefinite more q))
long_passed (mark_definite n more e small q h) long = (n, more, small, q, h)

-- a length that is next is read
pub record LengthRead (s t : ReaderState) (n : ℕ) (more : List ℕ) (answer : Result Length Error) : Type 0 where
  pub answered : answer ≡ Ok (definite_length n)
  pub left : rest_of t ≡ more
  pub working : t.failed ≡ false

pub length_read : {s t : ReaderState} {answer : Result Length Error} → s.failed ≡ false → Decodes LengthNext (LengthFault BodyFault Overlength) true s answer t → (n : ℕ) (more : List ℕ) → n < 2 ^ 32 → rest_of s ≡ length_octets n ++ more → LengthRead s t n more answer
length_read {s} {t} {answer} working d n more small split =
    let next = subst (λ x. LengthNext (definite_length n) s.rules x (length (length_octets n))) (sym split) (definite n more small) in
    let r = accepts (length_grammar BodyFault body_fault_laws Overlength) s t answer (definite_length n) (length (length_octets n)) d working next in
    record { answered = r.0; left = ap rest_of r.1 ∙ rest_after s (length_octets n) more split; working = ap (λ (x : ReaderState). x.failed) r.1 ∙ working }

-- what follows the identifier of a primitive segment
pub record PieceNext (r : List ℕ) (ps : List (List ℕ)) : Type 0 where
  pub contents : List ℕ
  pub more : List ℕ
  pub others : List (List ℕ)
  pub small : length contents < 2 ^ 32
  pub split : r ≡ length_octets (length contents) ++ (contents ++ more)
  pub pieces : ps ≡ contents ∷ others
  pub left : InPieces more others

piece_view : {s r : List ℕ} {ps : List (List ℕ)} → s ≡ 4 ∷ r → PiecesView s ps → PieceNext r ps
piece_view is (view_nothing e z) = absurd (cc)
piece_view is (view_end more e h) = absurd (omega (arith, first_same (sym is ∙ e)))
piece_view is (view_definite n more small e h) = absurd (omega (arith, first_same (sym is ∙ e)))
piece_view is (view_indefinite more e h) = absurd (omega (arith, first_same (sym is ∙ e)))
piece_view is (view_piece c more qs small e z h) = record { contents = c; more = more; others = qs; small = small; split = others_same (sym is ∙ e); pieces = z; left = h }

pub piece_next : {s u : ReaderState} {o : ℕ} {ps : List (List ℕ)} → IsAtPiece (rest_of s) → (rest_of s ≡ [] → ⊥) → Gives read_byte_outcome s (Ok o) u → InPieces (rest_of s) ps → PieceNext (rest_of u) ps
piece_next (at_end e) some g h = absurd (some e)
piece_next {u = u} (before_piece more e) some g h = piece_view (octet_read g ∙ ap (λ x. x ∷ rest_of u) (first_same (sym (octet_read g) ∙ e))) (pieces_view h)

-- its contents are there
pub piece_there : {s t : ReaderState} {e : Error} (c more : List ℕ) (l : Length) → IsSound s → s.failed ≡ false → rest_of s ≡ c ++ more → l ≡ definite_length (length c) → Gives (read_slice_outcome (number l)) s (Err e) t → ⊥
piece_there {s} {t} {e} c more l sound working split is g =
    slice_there (number l) s t e working (omega (arith, ap number is, length-rest s sound, ap length split, length-append c more, sound.ordered)) g

-- they are read, and the other pieces are left
pub piece_taken : {s t : ReaderState} {octets r : List ℕ} {ps : List (List ℕ)} (p : PieceNext r ps) (l : Length) → rest_of s ≡ p.contents ++ p.more → l ≡ definite_length (length p.contents) → Gives (read_slice_outcome (number l)) s (Ok octets) t
    → GivesPiece ps octets t
piece_taken {s} {t} {octets} p l split is g =
    let r = slice_read g in
    let n : number l ≡ length p.contents = ap number is in
    let front : octets ≡ p.contents = r.front ∙ ap (take (number l)) split ∙ take_at p.contents p.more (number l) (sym n) in
    let left : rest_of t ≡ p.more = ap rest_of (r.leaves ∙ ap (advanced_state s) n) ∙ rest_after s p.contents p.more split in
    (p.others, p.pieces ∙ ap (λ x. x ∷ p.others) (sym front), subst (λ x. InPieces x p.others) (sym left) p.left)

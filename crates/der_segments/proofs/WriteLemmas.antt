-- Lemmas on pieces that are written or copied one after the other.
use Rattle.std.proofs.Common.{◌≡◌, ℕ, ◌+◌, ◌-◌, ◌≤◌, Bool, true, false, Ok, Err, List, [], ◌∷◌, ◌++◌, length, take, drop, refl, sym, ap, ◌∙◌, subst, append_assoc, append-nil, length-append, length-drop, length-take, arith}
use Rattle.std.proofs.lemmas.List.{take_at, drop_at, take-take, drop-drop, take-append-drop}
use Rattle.der_core.proofs.BeforeLemmas.{space_for_part, space_for_rest}
use Rattle.der_core.proofs.EncodeLemmas.{pieces_then, pieces_stop, one_piece, appended_both, space_after, has_space, space_suffices}
use Rattle.der_core.specs.Before.{IsAccepted}
use Rattle.der.specs.Prelude.{Error, Writes}
use Rattle.der.specs.Writer.{WriterState, WriterOutcome, Fits, HasSpace, Keeps, appended_state, chained_write, success_outcome, write_outcome, write_pieces}
use Rattle.der_segments.specs.Copied.{CopiesPieces}
use Rattle.der_segments.specs.Pieces.{joined_pieces}
use Rattle.der_segments.specs.Written.{WritesPieces}

pub joined_both : (ps qs : List (List ℕ)) → joined_pieces (ps ++ qs) ≡ joined_pieces ps ++ joined_pieces qs
joined_both [] qs = refl
joined_both (p ∷ ps) qs = ap (λ x. p ++ x) (joined_both ps qs) ∙ sym (append_assoc p (joined_pieces ps) (joined_pieces qs))

joined_push : (ps : List (List ℕ)) (p : List ℕ) → joined_pieces (ps ++ p ∷ []) ≡ joined_pieces ps ++ p
joined_push ps p = joined_both ps (p ∷ []) ∙ ap (λ x. joined_pieces ps ++ x) (append-nil p)

-- the octets of pieces, by those of a front, of the next and of the others
joined_length : (all done left : List (List ℕ)) (p : List ℕ) → all ≡ done ++ (p ∷ left) → length (joined_pieces all) ≡ length (joined_pieces done) + (length p + length (joined_pieces left))
joined_length all done left p split =
    omega (arith, ap (λ x. length (joined_pieces x)) split, ap length (joined_both done (p ∷ left)), length-append (joined_pieces done) (p ++ joined_pieces left), length-append p (joined_pieces left))

-- a writer that has appended octets keeps what a later call keeps
pub keeps_after : {s t u : WriterState} (x : List ℕ) → t ≡ appended_state s x → Keeps t u → Keeps s u
keeps_after {s} {t} {u} x e k =
    let o : t.octets ≡ s.octets ++ x = ap (λ (w : WriterState). w.octets) e in
    let f : t.following ≡ drop (length x) s.following = ap (λ (w : WriterState). w.following) e in
    let long : length t.octets ≤ length u.octets = omega (arith, ap length k.before, length-take (length t.octets) u.octets) in
    let sum : length t.octets ≡ length s.octets + length x = ap length o ∙ length-append s.octets x in
    let count : length x + (length u.octets - length t.octets) ≡ length u.octets - length s.octets = omega (arith, long, sum) in
    record {
      start = k.start ∙ ap (λ (w : WriterState). w.start) e;
      stop = k.stop ∙ ap (λ (w : WriterState). w.stop) e;
      capacity = k.capacity ∙ ap (λ (w : WriterState). w.capacity) e;
      reference = k.reference ∙ ap (λ (w : WriterState). w.reference) e;
      before = sym (take-take (length s.octets) (length t.octets) u.octets (omega (arith, sum))) ∙ ap (take (length s.octets)) (k.before ∙ o) ∙ take_at s.octets x (length s.octets) refl;
      following = k.following ∙ ap (drop (length u.octets - length t.octets)) f ∙ drop-drop (length u.octets - length t.octets) (length x) s.following ∙ ap (λ n. drop n s.following) count;
      fails = λ h. k.fails (ap (λ (w : WriterState). w.failed) e ∙ h);
    }

-- nothing was written yet
pub writes_none : (reliable : Bool) (all : List (List ℕ)) (s : WriterState) → s ≡ appended_state s [] → WritesPieces reliable all all s s
writes_none reliable all s same = record { done = []; split = refl; state = same; writes = λ _. record { answered = refl; leaves = refl } }

-- the next piece
module _ {reliable : Bool} {all left others : List (List ℕ)} {p : List ℕ} {s t : WriterState} (h : WritesPieces reliable all left s t) (next : left ≡ p ∷ others) where
  here : all ≡ h.done ++ (p ∷ others)
  here = h.split ∙ ap (λ x. h.done ++ x) next

  pub piece_written : {u : WriterState} → u ≡ appended_state t p → (reliable ≡ true → Writes (write_outcome p t) (Ok tt) u) → WritesPieces reliable all others s u
  piece_written {u} state exact =
      record {
        done = h.done ++ p ∷ [];
        split = here ∙ sym (append_assoc h.done (p ∷ []) others);
        state = state ∙ ap (λ x. appended_state x p) h.state ∙ appended_both s (joined_pieces h.done) p ∙ ap (appended_state s) (sym (joined_push h.done p));
        writes = λ r. pieces_then h.done (p ∷ []) s t u (Ok tt) (h.writes r) (one_piece p t u (Ok tt) (exact r));
      }

  pub piece_keeps : {u : WriterState} → Keeps t u → Keeps s u
  piece_keeps k = keeps_after (joined_pieces h.done) h.state k

  pub piece_unwritten : {u : WriterState} (e : Error) → reliable ≡ true → Writes (write_outcome p t) (Err e) u → Writes (write_pieces all s) (Err e) u
  piece_unwritten {u} e r w =
      subst (λ x. Writes (write_pieces x s) (Err e) u) (sym here) (pieces_then h.done (p ∷ others) s t u (Err e) (h.writes r) (pieces_stop (p ∷ []) others t u e (one_piece p t u (Err e) w)))

  pub piece_fits : (e : Error) → s.failed ≡ false → length s.octets + length (joined_pieces all) ≤ s.stop → Fits t p (Err e) → ⊥
  piece_fits e working room fits =
      let space = space_after (joined_pieces h.done) (length p) s t h.state working (omega (arith, room, joined_length all h.done others p here)) in
      absurd (let wrong : false ≡ true = fits space.0 space.1 in cc)

-- the next piece is copied
module _ {all left others : List (List ℕ)} {p old new : List ℕ} {at : ℕ} (h : CopiesPieces all left at old new) (next : left ≡ p ∷ others) where
  all_split : all ≡ h.done ++ (p ∷ others)
  all_split = h.split ∙ ap (λ x. h.done ++ x) next

  pub piece_has_room : length (joined_pieces all) ≤ length old → at + length p ≤ length new
  piece_has_room room = omega (arith, room, h.counted, joined_length all h.done others p all_split, ap length h.copied, length-append (joined_pieces h.done) (drop at old), length-drop at old)

  pub piece_copied : {end : ℕ} {after : List ℕ} → end ≡ at + length p → take end after ≡ take at new ++ p → drop end after ≡ drop end new → CopiesPieces all others end old after
  piece_copied {end} {after} is front back =
      let before : take at new ≡ joined_pieces h.done = ap (take at) h.copied ∙ take_at (joined_pieces h.done) (drop at old) at (sym h.counted) in
      let behind : drop at new ≡ drop at old = ap (drop at) h.copied ∙ drop_at (joined_pieces h.done) (drop at old) at (sym h.counted) in
      let rest : drop end new ≡ drop end old =
      ap (λ n. drop n new) is ∙ sym (drop-drop (length p) at new) ∙ ap (drop (length p)) behind ∙ drop-drop (length p) at old ∙ ap (λ n. drop n old) (sym is) in
      record {
        done = h.done ++ p ∷ [];
        split = all_split ∙ sym (append_assoc h.done (p ∷ []) others);
        counted = omega (arith, is, h.counted, ap length (joined_push h.done p), length-append (joined_pieces h.done) p);
        copied =
            sym (take-append-drop end after) ∙ ap (λ x. x ++ drop end after) (front ∙ ap (λ x. x ++ p) before ∙ sym (joined_push h.done p))
            ∙ ap (λ x. joined_pieces (h.done ++ p ∷ []) ++ x) (back ∙ rest);
      }

-- all pieces were copied
pub all_copied : {all : List (List ℕ)} {at : ℕ} {old new : List ℕ} → CopiesPieces all [] at old new → new ≡ joined_pieces all ++ drop (length (joined_pieces all)) old
all_copied {all} {at} {old} {new} h =
    let whole : joined_pieces all ≡ joined_pieces h.done = ap joined_pieces (h.split ∙ append-nil h.done) in
    h.copied ∙ ap (λ n. joined_pieces h.done ++ drop n old) h.counted ∙ ap (λ x. x ++ drop (length x) old) (sym whole)

-- pieces for which there is space are written
pub pieces_accepted : (ps : List (List ℕ)) → IsAccepted (λ s r t. Writes (write_pieces ps s) r t) (joined_pieces ps)
pieces_accepted [] s has = record { answered = refl; leaves = ap (λ l. record s { octets = l; following = s.following }) (append-nil s.octets) }
pieces_accepted (p ∷ ps) s has =
    let part = space_for_part (length p) (length (p ++ joined_pieces ps)) s (omega (arith, length-append p (joined_pieces ps))) has in
    let facts = has_space (length p) s part in
    let first : write_outcome p s ≡ success_outcome (appended_state s p) = space_suffices (length p) s (appended_state s p) facts.0 facts.1 facts.2 in
    let rest = pieces_accepted ps (appended_state s p) (space_for_rest p (joined_pieces ps) s has) in
    subst (λ (o : WriterOutcome). Writes (chained_write o.answer o.after (write_pieces ps)) (Ok tt) (appended_state s (p ++ joined_pieces ps))) (sym first)
    (subst (λ t. Writes (write_pieces ps (appended_state s p)) (Ok tt) t) (appended_both s p (joined_pieces ps)) rest)

-- Slice writers: space, reserved parts, and what follows them.
use Rattle.std.proofs.Common.{rules, arith, ◌≡◌, ℕ, ◌+◌, ◌-◌, ◌<◌, ◌≤◌, Bool, true, false, List, length, take, drop, ◌++◌, length-take, length-take-le, length-append, refl, sym, ap, ◌∙◌, subst, Result, Ok, Err, OnOk}
use Rattle.std.specs.Borrow.{MutBor}
use Rattle.std.proofs.lemmas.List.{take-append-drop, take-append-le, drop-drop}
use Rattle.std.proofs.Math.Seq.{take-append_seam, drop-append-add, drop-append_seam}
use Rattle.std.proofs.lemmas.Bool.Decides.{nat_tests}
use Rattle.der_base.specs.Error.{error_at}
use Rattle.der_base.specs.Length.{definite_length}
use Rattle.der_base.specs.declared.error.Error.{Error}
use Rattle.der_base.specs.declared.error.ErrorKind.TheVariants.{Failed, Length as IncorrectLength}
use Rattle.der_base.specs.declared.tag.Tag.TheVariants.{Sequence}
use Rattle.der_core.specs.Writer.{WriterState, Keeps, Writes, space_outcome, written_count, writer_position, appended_state}
use Rattle.der_core.specs.SliceWriter.{slice_writer_state}
use Rattle.der_core.specs.Encode.{header_outcome}
use Rattle.der_core.specs.WrittenSequence.{Condition, Run, part_state, outer_state, headed_state, RestoresWriter, Abandons, ClosesPart, forwarded, failed, unfilled, filled, IsFilledBy, Runs, PartAnswer, SequenceAnswer, with_header}
use Rattle.der_core.specs.declared.writer.slice.SliceWriter.{SliceWriter}
use Rattle.der_core.proofs.EncodeLemmas.{appended_both}

-- if there is space, the requested state is reached
pub granted : (n : ℕ) (s g t : WriterState) → Writes (space_outcome n s g) (Ok tt) t → ((space_outcome n s s).answer ≡ Ok tt) × (t ≡ g) × (s.failed ≡ false) × (length s.octets + n ≤ s.stop)
granted n s g t w =
    let a = w.answered in
    let l = w.leaves in
    (grind (rules, nat_tests), grind (rules, nat_tests), grind (rules, nat_tests), grind (arith, nat_tests))

-- if there is none, the requested state does not matter
pub refused_alike : (n : ℕ) (s g t : WriterState) (e : Error) → Writes (space_outcome n s g) (Err e) t → Writes (space_outcome n s s) (Err e) t
refused_alike n s g t e w =
    let a = w.answered in
    let l = w.leaves in
    record { answered = grind (rules, nat_tests); leaves = grind (rules, nat_tests) }

-- appending to a writer leaves the same writer
pub kept_appended : (s : WriterState) (octets : List ℕ) (t : WriterState) → t ≡ appended_state s octets → Keeps s t
kept_appended s octets t e =
    let more : length octets ≡ length (s.octets ++ octets) - length s.octets = omega (arith, length-append s.octets octets) in
    subst (Keeps s) (sym e) (record { start = refl; stop = refl; capacity = refl; reference = refl; before = take-append_seam s.octets octets; following = ap (λ k. drop k s.following) more; fails = λ failing. failing })

-- the position of a slice writer in its buffer
pub octets_written_at : (w : SliceWriter) → length (slice_writer_state w).octets ≡ w.start + w.position
octets_written_at w = length-take-le (w.start + w.position) w.bytes.now (omega (arith, w.ordered, w.within))

-- a writer over its previous part again, after a reserved one
abbrev pub following_part : SliceWriter → ℕ → ℕ → Bool → WriterState
following_part v start stop has_eoc =
    record { octets = take (start + (v.stop - start)) v.bytes.now; following = drop (start + (v.stop - start)) v.bytes.now; start = start; stop = stop; capacity = length v.bytes.now; failed = has_eoc; reference = v.bytes.ghost_name }

module _ (v : SliceWriter) (start stop : ℕ) (before : start ≤ v.start) (following : v.stop ≤ stop) (within : stop ≤ length v.bytes.now) where
  abbrev inner : WriterState
  inner = slice_writer_state v

  abbrev outer : WriterState
  outer = outer_state inner start stop

  abbrev size : ℕ
  size = v.stop - v.start

  whole : start + (v.stop - start) ≡ v.stop
  whole = omega (arith, before, v.ordered)

  begins : length outer.octets ≡ v.start
  begins = length-take-le v.start inner.octets (omega (arith, octets_written_at v))

  ends : (has_eoc : Bool) → length (following_part v start stop has_eoc).octets ≡ v.stop
  ends has_eoc = length-take-le (start + (v.stop - start)) v.bytes.now (omega (arith, whole, following, within)) ∙ whole

  abandoned : (t : WriterState) → t ≡ following_part v start stop true → Abandons outer size inner t
  abandoned t e = record {
    start = ap (λ (u : WriterState). u.start) e;
    stop = ap (λ (u : WriterState). u.stop) e;
    capacity = ap (λ (u : WriterState). u.capacity) e;
    reference = ap (λ (u : WriterState). u.reference) e;
    failed = ap (λ (u : WriterState). u.failed) e;
    passed = ap (λ (u : WriterState). length u.octets) e ∙ omega (arith, ends true, begins, v.ordered);
    buffer = ap (λ (u : WriterState). u.octets ++ u.following) e ∙ take-append-drop (start + (v.stop - start)) v.bytes.now ∙ sym (take-append-drop (v.start + v.position) v.bytes.now);
  }

  pub closed_refused : (answer : Result (Unit {0}) Error) (e : Error) → answer ≡ Err e → ClosesPart outer size inner (following_part v start stop true) answer (Err e)
  closed_refused answer e is = subst (λ a. ClosesPart outer size inner (following_part v start stop true) a (Err e)) (sym is) (forwarded e (abandoned _ refl))

  pub closed_failed : (answer : Result (Unit {0}) Error) (e : Error) → answer ≡ Ok tt → v.failed ≡ true → e ≡ error_at Failed (definite_length v.position)
      → ClosesPart outer size inner (following_part v start stop v.failed) answer (Err e)
  closed_failed answer e is failing reported =
      let walks_nothing : e ≡ error_at Failed (writer_position inner) = reported ∙ ap (λ k. error_at Failed (definite_length k)) (omega (arith, octets_written_at v)) in
      let gone = abandoned (following_part v start stop v.failed) (ap (following_part v start stop) failing) in
      subst (λ a. ClosesPart outer size inner (following_part v start stop v.failed) a (Err e)) (sym is)
      (subst (λ x. ClosesPart outer size inner (following_part v start stop v.failed) (Ok tt) (Err x)) (sym walks_nothing) (failed failing gone))

  pub closed_unfilled : (answer : Result (Unit {0}) Error) (e : Error) → answer ≡ Ok tt → v.failed ≡ false → v.position < v.stop - v.start
      → e ≡ error_at (IncorrectLength Sequence) (definite_length (v.stop - start)) → ClosesPart outer size inner (following_part v start stop true) answer (Err e)
  closed_unfilled answer e is alive short reported =
      let few : length inner.octets < length outer.octets + size = omega (arith, octets_written_at v, begins, short) in
      let place : v.stop - start ≡ length outer.octets - start + size = omega (arith, begins, before, v.ordered) in
      let error_after_read : e ≡ error_at (IncorrectLength Sequence) (definite_length (written_count outer + size)) = reported ∙ ap (λ k. error_at (IncorrectLength Sequence) (definite_length k)) place in
      subst (λ a. ClosesPart outer size inner (following_part v start stop true) a (Err e)) (sym is)
      (subst (λ x. ClosesPart outer size inner (following_part v start stop true) (Ok tt) (Err x)) (sym error_after_read) (unfilled alive few (abandoned _ refl)))

  pub closed_filled : (answer : Result (Unit {0}) Error) → answer ≡ Ok tt → v.failed ≡ false → v.stop - v.start ≤ v.position
      → ClosesPart outer size inner (following_part v start stop v.failed) answer (Ok tt)
  closed_filled answer is alive full =
      let held : length inner.octets ≡ length outer.octets + size = omega (arith, octets_written_at v, begins, v.ordered, full) in
      let octets : take (start + (v.stop - start)) v.bytes.now ≡ inner.octets = ap (λ k. take k v.bytes.now) (omega (arith, whole, v.ordered, full)) in
      let following : drop (start + (v.stop - start)) v.bytes.now ≡ inner.following = ap (λ k. drop k v.bytes.now) (omega (arith, whole, v.ordered, full)) in
      let leaves : following_part v start stop v.failed ≡ record outer { octets = inner.octets; following = inner.following } = cc in
      subst (λ a. ClosesPart outer size inner (following_part v start stop v.failed) a (Ok tt)) (sym is) (filled alive held leaves)

abandons_alike : (s : WriterState) (following : List ℕ) (q t : WriterState) (n : ℕ) → Abandons (record s { following = following }) n q t → Abandons s n q t
abandons_alike s following q t n gone =
    record { start = gone.start; stop = gone.stop; capacity = gone.capacity; reference = gone.reference; failed = gone.failed; passed = gone.passed; buffer = gone.buffer }

-- leaving a reserved part gives the writer before it was reserved, except for the octets after it
same_around : (s q : WriterState) (n : ℕ) → Keeps (part_state s n) q → s.failed ≡ false → outer_state q s.start s.stop ≡ record s { following = q.following }
same_around s q n kept alive =
    let octets : take q.start q.octets ≡ s.octets = ap (λ k. take k q.octets) kept.start ∙ kept.before in
    let capacity : q.capacity ≡ s.capacity = kept.capacity in
    let reference : q.reference ≡ s.reference = kept.reference in
    let same : outer_state q s.start s.stop ≡ record { octets = s.octets; following = q.following; start = s.start; stop = s.stop; capacity = s.capacity; failed = s.failed; reference = s.reference } = cc in
    same

-- what follows a reserved part does not depend on the octets that were after it
closed_alike : (s : WriterState) (following : List ℕ) (q t : WriterState) (n : ℕ) (a r : Result (Unit {0}) Error) → ClosesPart (record s { following = following }) n q t a r → ClosesPart s n q t a r
closed_alike s following q t n a r (forwarded e gone) = forwarded e (abandons_alike s following q t n gone)
closed_alike s following q t n a r (failed f gone) = failed f (abandons_alike s following q t n gone)
closed_alike s following q t n a r (unfilled alive few gone) = unfilled alive few (abandons_alike s following q t n gone)
closed_alike s following q t n a r (filled alive full leaves) = filled alive full leaves

-- a reserved part after which the writer is the same
pub writer_restored : (pre : Condition) (run : Run) (s : WriterState) (n : ℕ) (g : MutBor SliceWriter) (a : Result (Unit {0}) Error) (q : MutBor SliceWriter)
    → RestoresWriter pre run s n → slice_writer_state g.now ≡ part_state s n → run g a q → Keeps (part_state s n) (slice_writer_state q.now)
writer_restored pre run s n g a q hands over did = subst (λ p. Keeps p (slice_writer_state q.now)) over (hands.same g a q over did)

-- the closure ran over a reserved part
pub ran_over : (pre : Condition) (run : Run) (s t : WriterState) (n : ℕ) (g : MutBor SliceWriter) (a r : Result (Unit {0}) Error) (q : MutBor SliceWriter)
    → RestoresWriter pre run s n → s.failed ≡ false → slice_writer_state g.now ≡ part_state s n → run g a q
    → ClosesPart (outer_state (slice_writer_state q.now) s.start s.stop) (q.now.stop - q.now.start) (slice_writer_state q.now) t a r → Runs run s n r t
ran_over pre run s t n g a r q hands alive over did closes =
    let u : WriterState = slice_writer_state q.now in
    let kept = writer_restored pre run s n g a q hands over did in
    let start : q.now.start ≡ length s.octets = kept.start in
    let stop : q.now.stop ≡ length s.octets + n = kept.stop in
    let size : q.now.stop - q.now.start ≡ n = omega (arith, start, stop) in
    let ends = closed_alike s u.following u t n a r (subst (λ x. ClosesPart x n u t a r) (same_around s u n kept alive) (subst (λ m. ClosesPart (outer_state u s.start s.stop) m u t a r) size closes)) in
    record { given = g; answer = a; after = q; over_part = over; ran = did; closed = ends }

-- after a reserved part the writer is the same, and the buffer after the part is unchanged
module _ (s q t : WriterState) (n : ℕ) (kept : Keeps (part_state s n) q) (within : length q.octets ≤ length s.octets + n) where
  reached : length s.octets ≤ length q.octets
  reached = omega (arith, ap length kept.before, length-take (length s.octets) q.octets)

  kept_abandoned : Abandons s n q t → Keeps s t
  kept_abandoned gone =
      let more : length t.octets ≡ length q.octets + (length t.octets - length q.octets) = omega (arith, gone.passed, within) in
      record {
        start = gone.start;
        stop = gone.stop;
        capacity = gone.capacity;
        reference = gone.reference;
        before = sym (take-append-le (length s.octets) t.octets t.following (omega (arith, gone.passed))) ∙ ap (take (length s.octets)) gone.buffer
            ∙ take-append-le (length s.octets) q.octets q.following reached ∙ kept.before;
        following = sym (drop-append_seam t.octets t.following) ∙ ap (drop (length t.octets)) gone.buffer ∙ ap (λ k. drop k (q.octets ++ q.following)) more
            ∙ drop-append-add q.octets q.following (length t.octets - length q.octets) ∙ ap (drop (length t.octets - length q.octets)) kept.following
            ∙ drop-drop (length t.octets - length q.octets) (length q.octets - length s.octets) s.following ∙ ap (λ k. drop k s.following) (omega (arith, gone.passed, within, reached));
        fails = λ _. gone.failed;
      }

  kept_after : (a r : Result (Unit {0}) Error) → ClosesPart s n q t a r → Keeps s t
  kept_after a r (forwarded e gone) = kept_abandoned gone
  kept_after a r (failed f gone) = kept_abandoned gone
  kept_after a r (unfilled alive few gone) = kept_abandoned gone
  kept_after a r (filled alive full leaves) =
      subst (Keeps s) (sym leaves) (record { start = refl; stop = refl; capacity = refl; reference = refl; before = kept.before; following = kept.following; fails = λ failing. failing })

-- the writer is the same after a closure ran over the reserved part
pub kept_round : (pre : Condition) (run : Run) (s t : WriterState) (n : ℕ) (r : Result (Unit {0}) Error) → RestoresWriter pre run s n → Runs run s n r t → Keeps s t
kept_round pre run s t n r hands did =
    let v : SliceWriter = did.after.now in
    let kept = writer_restored pre run s n did.given did.answer did.after hands did.over_part did.ran in
    let stop : v.stop ≡ length s.octets + n = kept.stop in
    kept_after s (slice_writer_state v) t n kept (omega (arith, octets_written_at v, v.ordered, stop)) did.answer r did.closed

-- if it did not fail, it filled the reserved part
pub fills : (run : Run) (s t : WriterState) (n : ℕ) (r : Result (Unit {0}) Error) → Runs run s n r t → OnOk r (IsFilledBy run s n t)
fills run s t n r did = go did.given did.after did.answer r did.over_part did.ran did.closed
  where
    go : (g q : MutBor SliceWriter) (a r : Result (Unit {0}) Error) → slice_writer_state g.now ≡ part_state s n → run g a q
        → ClosesPart s n (slice_writer_state q.now) t a r → OnOk r (IsFilledBy run s n t)
    go g q a r over did (forwarded e gone) = tt
    go g q a r over did (failed f gone) = tt
    go g q a r over did (unfilled alive few gone) = tt
    go g q a r over did (filled alive full leaves) = record { given = g; after = q; over_part = over; ran = did; working = alive; full = full; leaves = leaves }

-- a reserved part after the header
pub following_header : (run : Run) (s t u : WriterState) (n : ℕ) (r : Result (Unit {0}) Error) → u ≡ headed_state s n → Writes (header_outcome Sequence n s) (Ok tt) u → PartAnswer run u n r t → SequenceAnswer run s n r t
following_header run s t u n r same wrote answer =
    with_header (subst (λ v. Writes (header_outcome Sequence n s) (Ok tt) v) same wrote) (subst (λ v. PartAnswer run v n r t) same answer)

-- octets that fill a reserved part after others are appended with them
pub filled_appends : (first octets : List ℕ) (n : ℕ) (s p q t : WriterState) → p ≡ part_state (appended_state s first) n → q ≡ appended_state p octets
    → t ≡ record (appended_state s first) { octets = q.octets; following = q.following } → t ≡ appended_state s (first ++ octets)
filled_appends first octets n s p q t over more leaves =
    let held : q.octets ≡ (s.octets ++ first) ++ octets = ap (λ (u : WriterState). u.octets) more ∙ ap (λ (u : WriterState). u.octets ++ octets) over in
    let following : q.following ≡ drop (length octets) (drop (length first) s.following) = ap (λ (u : WriterState). u.following) more ∙ ap (λ (u : WriterState). drop (length octets) u.following) over in
    let same : record (appended_state s first) { octets = q.octets; following = q.following } ≡ appended_state (appended_state s first) octets = cc in
    leaves ∙ same ∙ appended_both s first octets

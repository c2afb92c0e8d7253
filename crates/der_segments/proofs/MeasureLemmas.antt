-- Lemmas on counting the octets that segments are joined to.
use Rattle.std.proofs.Common.{◌≡◌, ℕ, ◌+◌, ◌^◌, ◌<◌, false, Result, Ok, Err, IfOk, IfErr, OnOk, List, [], ◌++◌, length, refl, sym, ap, ◌∙◌, subst, length-append, arith}
use Rattle.der_base.specs.Length.{number, is_indefinite}
use Rattle.der_base.specs.declared.length.Length.{Length}
use Rattle.der_base.specs.declared.error.Error.{Error}
use Rattle.der_core.specs.Header.{head_of}
use Rattle.der_core.specs.declared.header.Header.{Header}
use Rattle.der_core.specs.Nested.{ClosesValue}
use Rattle.der_core.specs.Outcome.{Gives}
use Rattle.der_core.specs.Reader.{read_slice_outcome}
use Rattle.der_core.specs.ReaderState.{ReaderState, IsSound, Same}
use Rattle.der_core.proofs.ContentsLemmas.{value_closed}
use Rattle.der_core.proofs.StateLemmas.{position_on, reads_none, reads_on}
use Rattle.der.specs.Joined.{Joined, none}
use Rattle.der.specs.Joining.{levels_left, AppendsJoined, PassesSegmentHeader, RefusesSegment, RefusesSegments}
use Rattle.der.specs.Prelude.{OctetString}
use Rattle.der.proofs.JoinedLemmas.{joined_more, joined_short}
use Rattle.der.proofs.JoiningLemmas.{levels_same, reads_next, AppendsSegment, octets_appended, segments_refuse}
use Rattle.der.proofs.NestedSegmentLemmas.{EntersSegment, nested_ok, nested_refused}
use Rattle.der_asn1.proofs.ListAnswerLemmas.{slice_read}
use Rattle.der_segments.specs.Measured.{Measures}

pub measures_none : (s : ReaderState) → Measures s 0 s
measures_none s = record { octets = []; out = []; reads = reads_none s; joined = none; counted = refl }

-- as what joining them appends to nothing
pub measures_appends : {s t : ReaderState} {n : ℕ} (m : Measures s n t) → AppendsJoined OctetString (levels_left s) s [] m.out t
measures_appends m = record { octets = m.octets; out = m.out; reads = m.reads; joined = m.joined; appended = refl }

pub appends_measures : {s t : ReaderState} {new : List ℕ} {n : ℕ} → AppendsJoined OctetString (levels_left s) s [] new t → n ≡ length new → Measures s n t
appends_measures a count = record { octets = a.octets; out = a.out; reads = a.reads; joined = a.joined; counted = count ∙ ap length a.appended }

-- segments after segments
pub measures_after : {s u t : ReaderState} {m n : ℕ} → Same s u → Measures s m u → Measures u n t → Measures s (m + n) t
measures_after {s} {u} {t} {m} {n} same f g =
    record {
      octets = f.octets ++ g.octets;
      out = f.out ++ g.out;
      reads = reads_on f.reads g.reads;
      joined = joined_more f.joined (subst (λ k. Joined OctetString k g.octets g.out) (levels_same s u same.rules same.depth) g.joined);
      counted = omega (arith, f.counted, g.counted, length-append f.out g.out);
    }

pub measures_as : {s t : ReaderState} {m n : ℕ} → n ≡ m → Measures s m t → Measures s n t
measures_as same m = record { octets = m.octets; out = m.out; reads = m.reads; joined = m.joined; counted = same ∙ m.counted }

-- the count is no greater than the input
pub measures_small : {s t : ReaderState} {n : ℕ} → Measures s n t → IsSound t → n < 2 ^ 32
measures_small m sound = omega (arith, m.counted, joined_short m.joined, position_on m.reads, sound.ordered, sound.in_input, sound.addressable)

-- one segment is read
pub record MeasuresSegment (s : ReaderState) (n : ℕ) (t : ReaderState) : Type 0 where
  pub measures : Measures s n t
  pub forward : s.position < t.position

segment_measured : {s t : ReaderState} {new : List ℕ} {n : ℕ} → AppendsSegment OctetString (levels_left s) s [] new t → n ≡ length new → MeasuresSegment s n t
segment_measured a count = record { measures = appends_measures a.appends count; forward = a.forward }

-- a primitive segment is read
pub piece_measured : {s u t : ReaderState} {octets : List ℕ} (h : Header) (l : Length) → PassesSegmentHeader OctetString h s u → (head_of h).constructed ≡ false → l ≡ (head_of h).length → IsSound u
    → Gives (read_slice_outcome (number l)) u (Ok octets) t → MeasuresSegment s (number l) t
piece_measured {s} {u} {t} h l p primitive is sound g =
    let r = slice_read g in
    segment_measured (octets_appended OctetString s u t h l p primitive is (levels_left s) sound (record { there = r.fits; appended = refl; leaves = r.leaves })) (sym (reads_next (number l) u t sound r.fits r.leaves).1)

-- the segments inside a constructed segment
module _ (s u i q t : ReaderState) (h : Header) (l : Length) (end depth : ℕ) (e : EntersSegment OctetString s u i h l end depth) {converts : Error → Error → Type 0} where
  pub nested_measured : (answer : Result ℕ Error) (n : ℕ) → IfOk answer (λ k. Measures i k q) → OnOk answer (q.end ≡ q.position) → ClosesValue converts answer q end depth (is_indefinite l) (Ok n) t → MeasuresSegment s n t
  nested_measured answer n inside ended closes =
      let k = value_closed closes in
      let m : Measures i n q = subst (λ a. IfOk a (λ x. Measures i x q)) k.answered inside in
      let at_end : q.end ≡ q.position = subst (λ a. OnOk a (q.end ≡ q.position)) k.answered ended in
      let closed = subst (λ a. ClosesValue converts a q end depth (is_indefinite l) (Ok n) t) k.answered closes in
      segment_measured (nested_ok s u i q t h l end depth e {old = []} {new = m.out} (Ok n) n (measures_appends m) at_end closed) m.counted

  pub nested_unmeasured : (answer : Result ℕ Error) (x : Error) → IfOk answer (λ k. Measures i k q) → OnOk answer (q.end ≡ q.position) → IfErr answer (λ y. RefusesSegments OctetString i y q)
      → ClosesValue converts answer q end depth (is_indefinite l) (Err x) t → RefusesSegment OctetString s x t
  nested_unmeasured (Ok n) x inside ended refused closes = nested_refused s u i q t h l end depth e [] inside.out (Ok n) x (measures_appends inside) ended refused closes
  nested_unmeasured (Err y) x inside ended refused closes = nested_refused s u i q t h l end depth e [] [] (Err y) x tt ended refused closes

-- octets are left after segments, and reading the next segment fails
pub measuring_refused : {s u t : ReaderState} {n : ℕ} {e : Error} → Measures s n u → IsSound u → (u.end ≡ u.position → ⊥) → RefusesSegment OctetString u e t → RefusesSegments OctetString s e t
measuring_refused m sound left r = segments_refuse (measures_appends m) sound left r

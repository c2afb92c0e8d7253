-- Values that are written from the end of a buffer.
use Rattle.std.proofs.Common.{arith, ◌≡◌, ℕ, ◌+◌, ◌^◌, ◌<◌, ◌≤◌, false, List, ◌++◌, length, take, drop, length-append, length-take-le, length-drop, append_assoc, refl, sym, ap, ◌∙◌, subst, Result, Ok, Err}
use Rattle.std.specs.Prelude.{Option, Some, None, IfSome}
use Rattle.std.specs.Option.{SomeIff}
use Rattle.std.proofs.Math.Nat.{le-min}
use Rattle.std.proofs.Math.Seq.{take-append_seam, drop-append_seam}
use Rattle.std.proofs.lemmas.List.{take-append-drop, take-take, drop-drop}
use Rattle.std.proofs.lemmas.Bool.{lt-ltb}
use Rattle.der_base.specs.Arithmetic.{checked_length, element_count}
use Rattle.der_base.specs.HeaderGrammar.{header_octets}
use Rattle.der_base.specs.Length.{number, definite_length, length_octets}
use Rattle.der_base.specs.Tag.{tag_octets}
use Rattle.der_base.specs.declared.length.Length.{Length}
use Rattle.der_base.specs.declared.error.Error.{Error}
use Rattle.der_base.specs.declared.tag.Tag.{Tag}
use Rattle.der_core.specs.Before.{IsAccepted, Certain, CertainIfSome, Placed, PlacedIfSpace, inner_state}
use Rattle.der_core.specs.Encode.{WriterAnswer, FitsCounted, ElementWritten, ThenAnswer, SliceAnswer, element_octets, element_size, header_outcome}
use Rattle.der_core.specs.Fields.{FieldsWritten, continues, fields_size}
use Rattle.der_core.specs.SliceWriter.{slice_writer_state}
use Rattle.der_core.specs.declared.writer.slice.SliceWriter.{SliceWriter}
use Rattle.der_core.specs.Writer.{WriterState, WriterOutcome, HasSpace, Writes, Appends, fresh_state, appended_state, written_count, write_outcome, success_outcome}
use Rattle.der_core.proofs.EncodeLemmas.{has_space, space_suffices, header_with_space, appended_both}

-- there is space for n octets if the writer has not failed and neither limit is exceeded
pub space_for : (n : ℕ) (s : WriterState) → s.failed ≡ false → length s.octets + n ≤ s.stop → written_count s + n < 2 ^ 32 → HasSpace s n
space_for n s alive space few = ap (λ (o : WriterOutcome). o.answer) (space_suffices n s s alive space few)

-- there is space for a part of the octets
pub space_for_part : (m n : ℕ) (s : WriterState) → m ≤ n → HasSpace s n → HasSpace s m
space_for_part m n s part has =
    let facts = has_space n s has in
    space_for m s facts.0 (omega (arith, facts.1, part)) (omega (arith, facts.2, part))

-- and for the rest, after that part was appended
pub space_for_rest : (first rest : List ℕ) (s : WriterState) → HasSpace s (length (first ++ rest)) → HasSpace (appended_state s first) (length rest)
space_for_rest first rest s has =
    let facts = has_space (length (first ++ rest)) s has in
    let sum : length (first ++ rest) ≡ length first + length rest = length-append first rest in
    let more : length (s.octets ++ first) ≡ length s.octets + length first = length-append s.octets first in
    space_for (length rest) (appended_state s first) facts.0 (omega (arith, facts.1, sum, more)) (omega (arith, facts.2, sum, more))

-- one write
pub write_accepted : (octets : List ℕ) → IsAccepted (λ s r t. Writes (write_outcome octets s) r t) octets
write_accepted octets s has =
    let facts = has_space (length octets) s has in
    let granted : write_outcome octets s ≡ success_outcome (appended_state s octets) = space_suffices (length octets) s (appended_state s octets) facts.0 facts.1 facts.2 in
    record { answered = sym (ap (λ (o : WriterOutcome). o.answer) granted); leaves = sym (ap (λ (o : WriterOutcome). o.after) granted) }

-- two values in sequence
pub fields_accepted : (first second : WriterAnswer) (xs ys : List ℕ) → IsAccepted first xs → IsAccepted second ys → IsAccepted (FieldsWritten first second) (xs ++ ys)
fields_accepted first second xs ys p q s has =
    let part = space_for_part (length xs) (length (xs ++ ys)) s (omega (arith, length-append xs ys)) has in
    let rest = q (appended_state s xs) (space_for_rest xs ys s has) in
    subst (λ t. FieldsWritten first second s (Ok tt) t) (appended_both s xs ys) (continues (appended_state s xs) (p s part) rest)

-- an element
pub element_accepted : (t : Tag) (l : Length) (answers : WriterAnswer) (contents : List ℕ) → number l ≡ length contents → IsAccepted answers contents
    → IsAccepted (ElementWritten t (Ok l) answers) (element_octets t contents)
element_accepted t l answers contents same accepted s has =
    let header : List ℕ = header_octets t (length contents) in
    let part = space_for_part (length header) (length (header ++ contents)) s (omega (arith, length-append header contents)) has in
    let outcome : header_outcome t (number l) s ≡ success_outcome (appended_state s header) = ap (λ n. header_outcome t n s) same ∙ header_with_space t (length contents) s part in
    let rest = accepted (appended_state s header) (space_for_rest header contents s has) in
    subst (λ (o : WriterOutcome). ThenAnswer o.answer o.after answers s (Ok tt) (appended_state s (header ++ contents))) (sym outcome)
    (subst (λ u. answers (appended_state s header) (Ok tt) u) (appended_both s header contents) rest)

-- a number of octets that a length can represent
pub counted_length : (n : ℕ) → n < 2 ^ 32 → checked_length n ≡ Ok (definite_length n)
counted_length n few = rw (lt-ltb n (2 ^ 32) few)

-- octets that a length can count are certain
pub octets_certain : (octets : List ℕ) (n : ℕ) → n ≡ length octets → n < 2 ^ 32
    → Certain (Unit {0}) (checked_length (length octets)) (λ s r t. Writes (write_outcome octets s) r t) octets n
octets_certain octets n count few = record {
  encodable = tt;
  counted = count;
  sized = subst (λ m. checked_length m ≡ Ok (definite_length n)) count (counted_length n few);
  accepted = write_accepted octets;
}

-- two fields are certain
pub fields_certain : (e f : Type 0) (m n : Result Length Error) (first second : WriterAnswer) (xs ys : List ℕ) (j k : ℕ) → j + k < 2 ^ 32
    → Certain e m first xs j → Certain f n second ys k → Certain (e × f) (fields_size m n) (FieldsWritten first second) (xs ++ ys) (j + k)
fields_certain e f m n first second xs ys j k few p q = record {
  encodable = (p.encodable, q.encodable);
  counted = omega (arith, p.counted, q.counted, length-append xs ys);
  sized = rw (p.sized, q.sized) (counted_length (j + k) few);
  accepted = fields_accepted first second xs ys p.accepted q.accepted;
}

-- an element is certain
pub element_certain : (e : Type 0) (t : Tag) (size : Result Length Error) (answers : WriterAnswer) (contents : List ℕ) (k n : ℕ) → n ≡ element_count t k → n < 2 ^ 32
    → Certain e size answers contents k → Certain e (element_size t size) (ElementWritten t size answers) (element_octets t contents) n
element_certain e t size answers contents k n count few p = record {
  encodable = p.encodable;
  counted =
      count ∙ ap (element_count t) p.counted
      ∙ sym (length-append (header_octets t (length contents)) contents ∙ ap (λ m. m + length contents) (length-append (tag_octets t) (length_octets (length contents))));
  sized = rw (p.sized) (subst (λ m. checked_length m ≡ Ok (definite_length n)) count (counted_length n few));
  accepted = subst (λ r. IsAccepted (ElementWritten t r answers) (element_octets t contents)) (sym p.sized) (element_accepted t (definite_length k) answers contents p.counted p.accepted);
}

-- two fields are certain if a length can represent their sum
pub fields_certain_if_some : (e f : Type 0) (m n : Result Length Error) (first second : WriterAnswer) (xs ys : List ℕ) (j k : ℕ) (sum : Option ℕ)
    → SomeIff sum (j + k < 2 ^ 32) (j + k) → Certain e m first xs j → Certain f n second ys k → CertainIfSome (e × f) (fields_size m n) (FieldsWritten first second) (xs ++ ys) sum
fields_certain_if_some e f m n first second xs ys j k None is p q = tt
fields_certain_if_some e f m n first second xs ys j k (Some v) is p q =
    subst (Certain (e × f) (fields_size m n) (FieldsWritten first second) (xs ++ ys)) (sym is.1) (fields_certain e f m n first second xs ys j k is.0 p q)

-- an element is certain if a length can represent its number of octets
pub element_certain_if_some : (e : Type 0) (t u : Tag) (size : Result Length Error) (answers : WriterAnswer) (contents : List ℕ) (k : ℕ) (sum : Option ℕ)
    → u ≡ t → IfSome sum (λ n. n ≡ element_count u k) → IfSome sum (λ n. n < 2 ^ 32) → Certain e size answers contents k
    → CertainIfSome e (element_size t size) (ElementWritten t size answers) (element_octets t contents) sum
element_certain_if_some e t u size answers contents k None same count few p = tt
element_certain_if_some e t u size answers contents k (Some n) same count few p = element_certain e t size answers contents k n (count ∙ ap (λ w. element_count w k) same) few p

-- octets in front of other octets
pub placed_both : (xs ys : List ℕ) (start middle stop : ℕ) (old mid new : List ℕ) → Placed ys middle stop old mid → Placed xs start middle mid new → Placed (xs ++ ys) start stop old new
placed_both xs ys start middle stop old mid new p q =
    let inside : start ≤ middle = omega (arith, q.ends) in
    record {
      ends = omega (arith, p.ends, q.ends, length-append xs ys);
      before = q.before ∙ sym (take-take start middle mid inside) ∙ ap (take start) p.before ∙ take-take start middle old inside;
      placed = q.placed ∙ ap (λ l. xs ++ l) p.placed ∙ sym (append_assoc xs ys (drop stop old));
      as_long = q.as_long ∙ p.as_long;
    }

-- and if both fit
pub placed_both_if_space : (xs ys : List ℕ) (start middle stop : ℕ) (old mid new : List ℕ) → PlacedIfSpace ys middle stop old mid → PlacedIfSpace xs start middle mid new
    → PlacedIfSpace (xs ++ ys) start stop old new
placed_both_if_space xs ys start middle stop old mid new p q fits within =
    let long : length (xs ++ ys) ≡ length xs + length ys = length-append xs ys in
    let rest = p (omega (arith, long, fits)) within in
    placed_both xs ys start middle stop old mid new rest (q (omega (arith, long, fits, rest.ends)) (omega (arith, rest.ends, rest.as_long, within)))

-- a header in front of contents, whose number is known only once they are placed
pub placed_element : (t u : Tag) (contents : List ℕ) (k start middle stop : ℕ) (old mid new : List ℕ) → u ≡ t → (middle + length contents ≡ stop → k ≡ length contents)
    → PlacedIfSpace contents middle stop old mid → PlacedIfSpace (header_octets u k) start middle mid new → PlacedIfSpace (element_octets t contents) start stop old new
placed_element t u contents k start middle stop old mid new same counts p q fits within =
    let rest = p (omega (arith, length-append (header_octets t (length contents)) contents, fits)) within in
    let header : header_octets u k ≡ header_octets t (length contents) = ap (λ v. header_octets v k) same ∙ ap (header_octets t) (counts rest.ends) in
    placed_both_if_space (header_octets t (length contents)) contents start middle stop old mid new p (subst (λ l. PlacedIfSpace l start middle mid new) header q) fits within

-- the octets that a writer appended inside a buffer
appended_inside : (octets old : List ℕ) (start n reference : ℕ) (w : SliceWriter) → slice_writer_state w ≡ appended_state (inner_state old reference start n) octets
    → n ≡ length octets → start + n ≤ length old → Placed octets start (start + n) old w.bytes.now
appended_inside octets old start n reference w appended count within =
    let before : length (take start old) ≡ start = length-take-le start old (omega (arith, within)) in
    let new : w.bytes.now ≡ (take start old ++ octets) ++ drop (length octets) (drop start old) =
    sym (take-append-drop (w.start + w.position) w.bytes.now) ∙ ap (λ (s : WriterState). s.octets ++ s.following) appended in
    let seam : w.bytes.now ≡ take start old ++ (octets ++ drop (length octets) (drop start old)) = new ∙ append_assoc (take start old) octets (drop (length octets) (drop start old)) in
    let rest : drop (length octets) (drop start old) ≡ drop (start + n) old = drop-drop (length octets) start old ∙ ap (λ k. drop (start + k) old) (sym count) in
    record {
      ends = ap (λ k. start + k) (sym count);
      before = ap (take start) seam ∙ ap (λ k. take k (take start old ++ (octets ++ drop (length octets) (drop start old)))) (sym before)
          ∙ take-append_seam (take start old) (octets ++ drop (length octets) (drop start old));
      placed = ap (drop start) seam ∙ ap (λ k. drop k (take start old ++ (octets ++ drop (length octets) (drop start old)))) (sym before)
          ∙ drop-append_seam (take start old) (octets ++ drop (length octets) (drop start old)) ∙ ap (λ l. octets ++ l) rest;
      as_long = omega (arith, ap length new, length-append (take start old ++ octets) (drop (length octets) (drop start old)), length-append (take start old) octets, length-drop (length octets) (drop start old), length-drop start old, before, count, within);
    }

-- and the buffer after the writer ended, which has its octets if it was the writer's to the end
pub placed_by_writer : (octets old new : List ℕ) (start n stop reference : ℕ) (r : Result (Unit {0}) Error) (s : WriterState) (w : SliceWriter)
    → (reference ≡ w.bytes.ghost_name → new ≡ w.bytes.now) → s ≡ inner_state old reference start n → Appends s octets r (slice_writer_state w) → FitsCounted s octets r
    → n ≡ length octets → n < 2 ^ 32 → start + n ≡ stop → stop ≤ length old → Placed octets start stop old new
placed_by_writer octets old new start n stop reference (Ok x) s w ends begun appended fits count few sum within =
    let all : slice_writer_state w ≡ appended_state (inner_state old reference start n) octets = appended ∙ ap (λ t. appended_state t octets) begun in
    subst (λ l. Placed octets start stop old l) (sym (ends (sym (ap (λ (t : WriterState). t.reference) all))))
    (subst (λ k. Placed octets start k old w.bytes.now) sum (appended_inside octets old start n reference w all count (omega (arith, sum, within))))
placed_by_writer octets old new start n stop reference (Err e) s w ends begun appended fits count few sum within =
    let before : length s.octets ≡ start = ap (λ (t : WriterState). length t.octets) begun ∙ length-take-le start old (omega (arith, sum, within)) in
    let limit : s.stop ≡ start + n = ap (λ (t : WriterState). t.stop) begun in
    let wrong = fits (omega (arith, count, few)) (ap (λ (t : WriterState). t.failed) begun) (omega (arith, before, limit, count)) in
    cc

-- a new writer over a buffer that is long enough accepts the octets
pub fresh_accepted : (e : Type 0) (size : Result Length Error) (answers : WriterAnswer) (octets old : List ℕ) (n : ℕ) → Certain e size answers octets n → n ≤ length old → n < 2 ^ 32
    → answers (fresh_state old 0) (Ok tt) (appended_state (fresh_state old 0) octets)
fresh_accepted e size answers octets old n p within few =
    p.accepted (fresh_state old 0) (space_for (length octets) (fresh_state old 0) refl (le-min (omega (arith, p.counted, within)) (omega (arith, p.counted, few))) (omega (arith, p.counted, few)))

-- a buffer whose start is a whole encoding
pub written_whole : (e : Type 0) (size : Result Length Error) (answers : WriterAnswer) (octets old new : List ℕ) (n start : ℕ)
    → Certain e size answers octets n → n ≤ length old → n < 2 ^ 32 → (e → PlacedIfSpace octets start n old new) → SliceAnswer answers old (Ok (take n new))
written_whole e size answers octets old new n start p within few places =
    let done = places p.encodable (omega (arith, p.counted)) within in
    let none : start ≡ 0 = omega (arith, done.ends, p.counted) in
    let all : new ≡ octets ++ drop n old = ap (λ k. drop k new) (sym none) ∙ done.placed in
    let front : take n new ≡ octets = ap (λ k. take k new) p.counted ∙ ap (take (length octets)) all ∙ take-append_seam octets (drop n old) in
    (0, Ok tt, appended_state (fresh_state old 0) octets, fresh_accepted e size answers octets old n p within few, ap Ok front)

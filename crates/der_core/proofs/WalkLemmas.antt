-- A walk over octets by an index, as a reader at that index.
use Rattle.std.proofs.Common.{◌≡◌, ℕ, ◌+◌, ◌-◌, ◌^◌, ◌<◌, ◌≤◌, Bool, true, false, IsTrue, List, [], ◌++◌, length, take, drop, replicate, Result, Ok, Err, refl, sym, ap, ◌∙◌, subst, length-append, length-drop, if◌then◌else◌, arith}
use Rattle.std.proofs.Math.Seq.{drop-append-add}
use Rattle.std.proofs.lemmas.List.{take_all, length-replicate}
use Rattle.der_base.specs.Length.{definite_length}
use Rattle.der_base.specs.Error.{Refusal, end_refusal}
use Rattle.der_base.specs.ScanGrammar.{BodyNext, BodyFault, short_refusal}
use Rattle.der_base.specs.declared.error.Error.{Error}
use Rattle.der_base.specs.declared.length.Length.{Length}
use Rattle.der_base.specs.declared.encoding_rules.EncodingRules.TheVariants.{Ber}
use Rattle.der_core.specs.ReaderState.{ReaderState, rest_of, stopped_state, state_after, advanced_state, IsSound, Same, Reads}
use Rattle.der_core.specs.Outcome.{Gives}
use Rattle.der_core.specs.Reader.{drain_outcome}
use Rattle.der_core.specs.Decode.{Passes, IsRefusedBy, has_failed, at_fault}
use Rattle.der_core.specs.Scan.{ScansNext}
use Rattle.der_core.specs.AfterFirstOctet.{IsErrorOf}
use Rattle.der_core.specs.Walk.{walked_state, walk_state}
use Rattle.der_core.specs.declared.length.indefinite.walk.Walk.{Walk}
use Rattle.der_core.proofs.StateLemmas.{ByteRefused, byte_cut, position_on, failed_on, same_trans, length-rest}
use Rattle.der_core.proofs.DecodeLemmas.{decoded_ok, decoded_err}
use Rattle.der_core.proofs.TurnLemmas.{drain_refused}

-- the remaining octets
pub walked_rest : (octets : List ℕ) (start index : ℕ) → rest_of (walked_state octets start index) ≡ drop index octets
walked_rest octets start index =
    let following : drop (start + index) (replicate start 0 ++ octets) ≡ drop index octets =
    ap (λ n. drop (n + index) (replicate start 0 ++ octets)) (sym (length-replicate start 0)) ∙ drop-append-add (replicate start 0) octets index in
    ap (take (start + length octets - (start + index))) following ∙ take_all (start + length octets - (start + index)) (drop index octets) (omega (arith, length-drop index octets))

pub walked_sound : (octets : List ℕ) (start index : ℕ) → index ≤ length octets → start + length octets < 2 ^ 32 → IsSound (walked_state octets start index)
walked_sound octets start index within small =
    let long : length (replicate start 0 ++ octets) ≡ start + length octets = length-append (replicate start 0) octets ∙ ap (λ n. n + length octets) (length-replicate start 0) in
    record { ordered = omega (arith, within); in_input = omega (arith, long); addressable = omega (arith, long, small); shallow = omega arith; failure_kept = λ failed. refl }

pub walk_sound : (w : Walk) → IsSound (walk_state w)
walk_sound w = walked_sound w.octets.now w.start w.index w.within w.addressable

-- reading octets leaves the same reader
pub reads_same : {a b : ReaderState} {x : List ℕ} → IsSound b → Reads a b x → Same a b
reads_same {a} {b} sound h =
    record {
      input = ap (λ (s : ReaderState). s.input) h.state;
      rules = ap (λ (s : ReaderState). s.rules) h.state;
      end = ap (λ (s : ReaderState). s.end) h.state;
      depth = ap (λ (s : ReaderState). s.depth) h.state;
      keeps_failure = ap (λ (s : ReaderState). s.keeps_failure) h.state;
      forward = omega (arith, position_on h);
      within = sound.ordered;
      failed = λ f. subst IsTrue (sym (failed_on h)) f;
    }

-- a failure leaves the same reader, if its position is within the end
pub after_same : (s : ReaderState) → IsSound s → (r : Refusal) → s.position ≤ r.position → r.position ≤ s.end → Same s (state_after s r)
after_same s sound r forward within = record { input = refl; rules = refl; end = refl; depth = refl; keeps_failure = refl; forward = forward; within = within; failed = kept r.fails }
  where
    kept : (fails : Bool) → IsTrue s.failed → IsTrue (if fails then s.keeps_failure else s.failed)
    kept true f = sound.failure_kept f
    kept false f = f

-- no octet is left
pub missing_octet_error : (w : Walk) {e : Error} → rest_of (walk_state w) ≡ [] → e ≡ (end_refusal (walk_state w).position).error → IsErrorOf ByteRefused (walk_state w) e
missing_octet_error w none reported =
    let s = walk_state w in
    let sound = walk_sound w in
    (state_after s (end_refusal s.position), after_same s sound (end_refusal s.position) (omega arith) sound.ordered, byte_cut refl none (record { reported = reported; leaves = refl }))

-- an error after octets that were read is an error of the walk before them
pub error_after_read : (Q R : ReaderState → Error → ReaderState → Type 0) {a : ReaderState} {x : List ℕ} {e : Error} (w : Walk) → Reads a (walk_state w) x → IsErrorOf Q (walk_state w) e
    → ((t : ReaderState) → Q (walk_state w) e t → R a e t) → IsErrorOf R a e
error_after_read Q R w h reported f = (reported.0, same_trans (reads_same (walk_sound w) h) reported.1, f reported.0 reported.2)

pub error_at_walk : (R : ReaderState → Error → ReaderState → Type 0) {a : ReaderState} {x : List ℕ} {e : Error} (w : Walk) → Reads a (walk_state w) x
    → R a e (stopped_state (walk_state w) (walk_state w).position) → IsErrorOf R a e
error_at_walk R w h refused =
    let s = walk_state w in
    let sound = walk_sound w in
    (stopped_state s s.position, same_trans (reads_same sound h) (record { input = refl; rules = refl; end = refl; depth = refl; keeps_failure = refl; forward = omega arith; within = sound.ordered; failed = sound.failure_kept }), refused)

-- too few octets are left for contents
pub truncated_contents_error : (w : Walk) (n : ℕ) {e : Error} → Err e ≡ (drain_outcome (definite_length n) (walk_state w)).answer → IsErrorOf (λ s e t. Gives (drain_outcome (definite_length n)) s (Err e) t) (walk_state w) e
truncated_contents_error w n {e} reported =
    let s = walk_state w in
    let sound = walk_sound w in
    let gives : Gives (drain_outcome (definite_length n)) s (Err e) (drain_outcome (definite_length n) s).after = record { answered = reported; leaves = refl } in
    let r = drain_refused s n sound refl gives in
    let left = length-rest s sound in
    let same : Same s (state_after s (short_refusal n (length (rest_of s)) s.position)) =
    after_same s sound (short_refusal n (length (rest_of s)) s.position) (omega arith) (omega (arith, left, sound.ordered)) in
    ((drain_outcome (definite_length n) s).after, subst (Same s) (sym r.1.leaves) same, gives)

-- a scan of the remaining octets of a reader is a scan of its next body
pub scans_rest : (s : ReaderState) (reliable : Bool) (result : Result Length Error) → IsSound s → s.failed ≡ false → s.rules ≡ Ber
    → ScansNext true (walked_state (rest_of s) s.position 0) result → ScansNext reliable s result
scans_rest s reliable (Ok l) sound working ber (t, h) =
    let w = walked_state (rest_of s) s.position 0 in
    let all : rest_of w ≡ rest_of s = walked_rest (rest_of s) s.position 0 in
    let m = h.ok.octets in
    let there : m ≤ length (rest_of s) = omega (arith, h.ok.there, ap length all) in
    let next : BodyNext l s.rules (rest_of s) m = subst (λ q. BodyNext l s.rules q m) all (subst (λ rules. BodyNext l rules (rest_of w) m) (sym ber) h.ok.next) in
    let passes : Passes (BodyNext l) s (advanced_state s m) = record { octets = m; working = working; next = next; there = there; leaves = refl } in
    let same : Same s (advanced_state s m) = record { input = refl; rules = refl; end = refl; depth = refl; keeps_failure = refl; forward = omega arith; within = omega (arith, there, length-rest s sound, sound.ordered); failed = λ f. f } in
    (advanced_state s m, decoded_ok same passes)
scans_rest s reliable (Err e) sound working ber (t, h) = refused_so (h.refused refl)
  where
    w : ReaderState
    w = walked_state (rest_of s) s.position 0

    refused_so : IsRefusedBy (λ rules. BodyFault) w e t → ScansNext reliable s (Err e)
    refused_so (has_failed f reported leaves) = absurd (let no : false ≡ true = f in cc)
    refused_so (at_fault r w' fault reported leaves) =
        let all : rest_of w ≡ rest_of s = walked_rest (rest_of s) s.position 0 in
        let here : w.position ≡ s.position = omega arith in
        let there : t.position ≡ r.position = ap (λ (x : ReaderState). x.position) leaves in
        let end : t.end ≡ s.position + length (rest_of s) = h.same.end in
        let same : Same s (state_after s r) = after_same s sound r (omega (arith, h.same.forward, there)) (omega (arith, h.same.within, there, end, length-rest s sound, sound.ordered)) in
        let is_next : BodyFault s.position (rest_of s) r = subst (λ q. BodyFault s.position q r) all (subst (λ n. BodyFault n (rest_of w) r) here fault) in
        (state_after s r, decoded_err same (λ reliable. at_fault r working is_next reported refl))

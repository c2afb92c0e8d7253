-- How reading proceeds.
use Rattle.std.proofs.Common.{◌≡◌, ℕ, ◌+◌, ◌-◌, ◌≤◌, Bool, true, false, Ok, Err, List, [], ◌∷◌, ◌++◌, length, take, drop, refl, sym, ap, ◌∙◌, subst, append_assoc, length-append, length-take, length-take-le, length-drop, drop-drop, add-zero, arith}
use Rattle.std.proofs.lemmas.List.{drop-take}
use Rattle.der_base.specs.Error.{error_at, Refusal, refusal, end_refusal, missing_refusal}
use Rattle.der_base.specs.declared.error.Error.{Error}
use Rattle.der_base.specs.declared.error.ErrorKind.{ErrorKind}
use Rattle.der_base.specs.declared.error.ErrorKind.TheVariants.{Failed}
use Rattle.der_core.specs.ReaderState.{ReaderState, rest_of, reader_position, advanced_state, stopped_state, state_after, IsSound, Same, Reads}
use Rattle.der_core.specs.Outcome.{Gives}
use Rattle.der_core.specs.Reader.{next_octet_outcome, short_outcome, read_byte_outcome}
use Rattle.der_core.specs.AfterFirstOctet.{Stops}

pub reads_none : (s : ReaderState) → Reads s s []
reads_none s = record { split = refl; state = ap (λ p. record s { position = p }) (sym (add-zero s.position)) }

pub reads_on : {a b c : ReaderState} {x y : List ℕ} → Reads a b x → Reads b c y → Reads a c (x ++ y)
reads_on {a} {b} {c} {x} {y} h g =
    let sum : a.position + length x + length y ≡ a.position + length (x ++ y) = omega (arith, length-append x y) in
    record {
      split = h.split ∙ ap (λ l. x ++ l) g.split ∙ sym (append_assoc x y (rest_of c));
      state = g.state ∙ ap (λ s. advanced_state s (length y)) h.state ∙ ap (λ p. record a { position = p }) sum;
    }

pub position_on : {a b : ReaderState} {x : List ℕ} → Reads a b x → b.position ≡ a.position + length x
position_on h = ap (λ (s : ReaderState). s.position) h.state

pub failed_on : {a b : ReaderState} {x : List ℕ} → Reads a b x → b.failed ≡ a.failed
failed_on h = ap (λ (s : ReaderState). s.failed) h.state

pub rules_on : {a b : ReaderState} {x : List ℕ} → Reads a b x → b.rules ≡ a.rules
rules_on h = ap (λ (s : ReaderState). s.rules) h.state

pub left_on : {a b : ReaderState} {x : List ℕ} → Reads a b x → (r : Refusal) → state_after b r ≡ state_after a r
left_on h r = ap (λ s. state_after s r) h.state

pub stops_on : {a b t : ReaderState} {x : List ℕ} {r : Refusal} {e : Error} → Reads a b x → Stops b r e t → Stops a r e t
stops_on {r = r} h g = record { reported = g.reported; leaves = g.leaves ∙ left_on h r }

-- the outcome of `error`
pub error_stops : (s t : ReaderState) (k : ErrorKind) (e : Error) → e ≡ error_at k (reader_position s) → t ≡ stopped_state s s.position → Stops s (refusal k s.position) e t
error_stops s t k e reported leaves = record { reported = reported; leaves = leaves }

pub same_trans : {a b c : ReaderState} → Same a b → Same b c → Same a c
same_trans p q =
    record {
      input = q.input ∙ p.input;
      rules = q.rules ∙ p.rules;
      end = q.end ∙ p.end;
      depth = q.depth ∙ p.depth;
      keeps_failure = q.keeps_failure ∙ p.keeps_failure;
      forward = omega (arith, p.forward, q.forward);
      within = q.within;
      failed = λ f. q.failed (p.failed f);
    }

pub same_here : (s : ReaderState) → IsSound s → Same s s
same_here s sound = record { input = refl; rules = refl; end = refl; depth = refl; keeps_failure = refl; forward = omega arith; within = sound.ordered; failed = λ f. f }

pub length-rest : (s : ReaderState) → IsSound s → length (rest_of s) ≡ s.end - s.position
length-rest s h = length-take-le (s.end - s.position) (drop s.position s.input) (omega (arith, length-drop s.position s.input, h.in_input))

drop-span : (n m p : ℕ) (xs : List ℕ) → n ≤ m → drop n (take m (drop p xs)) ≡ take (m - n) (drop (p + n) xs)
drop-span n m p xs h =
    let e : m ≡ n + (m - n) = omega arith in
    ap (λ k. drop n (take k (drop p xs))) e ∙ (drop-take n (m - n) (drop p xs) ∙ ap (λ ys. take (m - n) ys) (drop-drop n p xs))

-- the remaining octets after the next octets
pub rest_after : (s : ReaderState) (x more : List ℕ) → rest_of s ≡ x ++ more → rest_of (advanced_state s (length x)) ≡ more
rest_after s x more e =
    let long : length x ≤ s.end - s.position = omega (arith, length-take (s.end - s.position) (drop s.position s.input), ap length e, length-append x more) in
    let less : s.end - (s.position + length x) ≡ (s.end - s.position) - length x = omega arith in
    ap (λ k. take k (drop (s.position + length x) s.input)) less ∙ (sym (drop-span (length x) (s.end - s.position) s.position s.input long) ∙ ap (drop (length x)) e ∙ drop_append x more)
  where
    drop_append : (xs ys : List ℕ) → drop (length xs) (xs ++ ys) ≡ ys
    drop_append [] ys = refl
    drop_append (z ∷ zs) ys = drop_append zs ys

pub reads_front : (s : ReaderState) (x more : List ℕ) → rest_of s ≡ x ++ more → Reads s (advanced_state s (length x)) x
reads_front s x more e = record { split = e ∙ ap (λ l. x ++ l) (sym (rest_after s x more e)); state = refl }

-- the next octet
first_read : (s t : ReaderState) (o : ℕ) (q : List ℕ) → rest_of s ≡ q → Gives (λ x. next_octet_outcome x q) s (Ok o) t → Reads s t (o ∷ [])
first_read s t o [] e h = absurd (let no = h.answered in grind arith)
first_read s t o (p ∷ more) e h =
    let same : p ≡ o = (let a = h.answered in cc) in
    subst (λ x. Reads s x (o ∷ [])) (sym h.leaves) (reads_front s (o ∷ []) more (e ∙ ap (λ x. x ∷ more) same))

first_refused : (s t : ReaderState) (e : Error) (q : List ℕ) → Gives (λ x. next_octet_outcome x q) s (Err e) t → (q ≡ []) × Gives (λ x. short_outcome ℕ x 1) s (Err e) t
first_refused s t e [] h = (refl, record { answered = h.answered; leaves = h.leaves })
first_refused s t e (p ∷ more) h = absurd (let no = h.answered in cc)

pub by_front : (s : ReaderState) → s.failed ≡ false → read_byte_outcome s ≡ next_octet_outcome s (rest_of s)
by_front s w = grind arith

pub byte_working : (s t : ReaderState) (o : ℕ) → Gives read_byte_outcome s (Ok o) t → s.failed ≡ false
byte_working s t o h = grind arith

pub byte_read : {s t : ReaderState} {o : ℕ} → Gives read_byte_outcome s (Ok o) t → Reads s t (o ∷ [])
byte_read {s} {t} {o} h =
    let front = by_front s (byte_working s t o h) in
    first_read s t o (rest_of s) refl (record { answered = h.answered ∙ ap (λ x. x.answer) front; leaves = h.leaves ∙ ap (λ x. x.after) front })

-- reading one octet fails on a failed reader, which is unchanged, and at the end
pub data ByteRefused (s : ReaderState) (e : Error) (t : ReaderState) : Type 0 where
  byte_failed : s.failed ≡ true → e ≡ error_at Failed (reader_position s) → t ≡ s → ByteRefused s e t
  byte_cut : s.failed ≡ false → rest_of s ≡ [] → Stops s (end_refusal s.position) e t → ByteRefused s e t

cut_here : (s t : ReaderState) (e : Error) → IsSound s → rest_of s ≡ [] → Gives (λ x. short_outcome ℕ x 1) s (Err e) t → Stops s (end_refusal s.position) e t
cut_here s t e sound none h =
    let end : s.end ≡ s.position = omega (arith, length-rest s sound, ap length none, sound.ordered) in
    let same : missing_refusal (s.position + 1) s.end s.position ≡ end_refusal s.position = ap (λ n. missing_refusal (s.position + 1) n s.position) end in
    let reported : e ≡ (missing_refusal (s.position + 1) s.end s.position).error = (let a = h.answered in cc) in
    record { reported = reported ∙ ap (λ (r : Refusal). r.error) same; leaves = h.leaves ∙ ap (state_after s) same }

refused_as : (s t : ReaderState) (e : Error) (failed : Bool) → s.failed ≡ failed → IsSound s → Gives read_byte_outcome s (Err e) t → ByteRefused s e t
refused_as s t e true f sound h = byte_failed f (let a = h.answered in grind arith) (let l = h.leaves in grind arith)
refused_as s t e false f sound h =
    let front = by_front s f in
    let r = first_refused s t e (rest_of s) (record { answered = h.answered ∙ ap (λ x. x.answer) front; leaves = h.leaves ∙ ap (λ x. x.after) front }) in
    byte_cut f r.0 (cut_here s t e sound r.0 r.1)

pub byte_refused : {s t : ReaderState} {e : Error} → IsSound s → Gives read_byte_outcome s (Err e) t → ByteRefused s e t
byte_refused {s} {t} {e} sound h = refused_as s t e s.failed refl sound h

pub cut_refused : {s t : ReaderState} {e : Error} → s.failed ≡ false → ByteRefused s e t → (rest_of s ≡ []) × Stops s (end_refusal s.position) e t
cut_refused w (byte_failed f reported leaves) = absurd (let no : false ≡ true = sym w ∙ f in cc)
cut_refused w (byte_cut f none stops) = (none, stops)

-- One turn of a scan.
use Rattle.std.proofs.Common.{◌≡◌, ◌≢◌, ℕ, ◌+◌, ◌-◌, ◌^◌, ◌<◌, ◌≤◌, ◌==◌, ◌&&◌, nat_le, if◌then◌else◌, min, Bool, true, false, Result, Ok, Err, List, [], ◌∷◌, ◌++◌, length, take, drop, refl, ⊎_elim, sym, ap, ◌∙◌, subst, append_assoc, length-append, length-take-le, arith}
use Rattle.std.proofs.lemmas.List.{take-append-drop}
use Rattle.std.proofs.lemmas.Bool.{le-leb, lt-leb, ne_eqb, cases_lt, cases_eq}
use Rattle.std.proofs.Math.Nat.{min-eq_left, min-eq_right}
use Rattle.der_base.specs.Error.{error_at, Refusal, refusal, end_refusal, missing_refusal}
use Rattle.der_base.specs.Length.{definite_length, length_octets}
use Rattle.der_base.specs.Tag.{IsIdentifier, IdentifierFault, cut, refused}
use Rattle.der_base.specs.Body.{IsLevel, Item, definite}
use Rattle.der_base.specs.HeaderGrammar.{LengthFault, nothing as no_octet}
use Rattle.der_base.specs.ScanGrammar.{NoBodyFault, short_refusal, ScanFault, nothing, half_eoc, no_eoc, refused_identifier, cut_identifier, primitive, too_deep, no_length, short}
use Rattle.der_base.specs.declared.length.Length.{Length}
use Rattle.der_base.specs.declared.tag.Tag.{Tag}
use Rattle.der_base.specs.declared.error.Error.{Error}
use Rattle.der_base.specs.declared.error.ErrorKind.TheVariants.{Failed, IndefiniteLength, NestingDepth, Length as IncorrectLength}
use Rattle.der_base.specs.declared.encoding_rules.EncodingRules.TheVariants.{Ber}
use Rattle.der_core.specs.ReaderState.{ReaderState, rest_of, reader_position, advanced_state, stopped_state, IsSound, Reads}
use Rattle.der_core.specs.Outcome.{Gives, outcome_of, refused_outcome}
use Rattle.der_core.specs.Reader.{drain_outcome, emptied_outcome, read_slice_outcome, short_outcome, whole_steps}
use Rattle.der_core.specs.Decode.{at_fault, has_failed}
use Rattle.der_core.specs.AfterFirstOctet.{RefusesIdentifier, RefusesLongLength, Stops}
use Rattle.der_core.specs.Turn.{PartRead, RefusesPart}
use Rattle.der_core.specs.declared.length.indefinite.Part.TheVariants.{Ends, Passes, Opens}
use Rattle.der_core.proofs.EocLemmas.{ZeroOctet, zero_read, zero_cut, other_read}
use Rattle.der_core.proofs.StateLemmas.{reads_on, reads_front, position_on, failed_on, rules_on, stops_on, error_stops, length-rest, ByteRefused, byte_failed, byte_cut, cut_refused}

-- too few octets for a slice
slice_short : (t : ReaderState) (k : ℕ) → t.failed ≡ false → t.end < t.position + k → read_slice_outcome k t ≡ short_outcome (List ℕ) t k
slice_short t k f l = rw f (rw (lt-leb (t.position + k) t.end l) refl)

-- the outcome of skipping octets: none, this many, or too many
drain_none : (s : ReaderState) (n : ℕ) → n ≡ 0 → drain_outcome (definite_length n) s ≡ outcome_of (Ok tt) s
drain_none s n none = rw none refl

drain_enough : (s : ReaderState) (n : ℕ) → s.failed ≡ false → n ≢ 0 → s.position + n ≤ s.end → drain_outcome (definite_length n) s ≡ outcome_of (Ok tt) (advanced_state s n)
drain_enough s n working some l = rw (ne_eqb n 0 some) (rw working (rw (le-leb (s.position + n) s.end l) refl))

step_missing : (s : ReaderState) (n : ℕ) → IsSound s → s.end < s.position + n → s.end < s.position + whole_steps s + min 16 (n - whole_steps s)
step_missing s n sound l =
    ⊎_elim (λ large. let all : 16 ≤ n - whole_steps s = omega arith in let is : min 16 (n - whole_steps s) ≡ 16 = min-eq_left all in omega arith)
    (λ small. let is : min 16 (n - whole_steps s) ≡ n - whole_steps s = min-eq_right small in omega (arith, sound.ordered))
    (cases_lt 16 (n - whole_steps s))

drain_step : (s : ReaderState) (n : ℕ) → s.failed ≡ false → n ≢ 0 → s.end < s.position + n
    → drain_outcome (definite_length n) s ≡ emptied_outcome (read_slice_outcome (min 16 (n - whole_steps s)) (advanced_state s (whole_steps s)))
drain_step s n working some l = working_table s n working ∙ rw (ne_eqb n 0 some) (rw (lt-leb (s.position + n) s.end l) refl)
  where
    working_table : (s : ReaderState) (n : ℕ) → s.failed ≡ false
        → drain_outcome (definite_length n) s ≡ (if (n == 0) && true then outcome_of (Ok tt) s else if nat_le (s.position + n) s.end then outcome_of (Ok tt) (advanced_state s n) else emptied_outcome (read_slice_outcome (min 16 (n - whole_steps s)) (advanced_state s (whole_steps s))))
    working_table s n working = ap (λ b. if (n == 0) && true then outcome_of (Ok tt) s else if b then outcome_of (Err (error_at Failed (reader_position s))) s else if nat_le (s.position + n) s.end then outcome_of (Ok tt) (advanced_state s n) else emptied_outcome (read_slice_outcome (min 16 (n - whole_steps s)) (advanced_state s (whole_steps s)))) working

drain_short : (s : ReaderState) (n : ℕ) → IsSound s → s.failed ≡ false → n ≢ 0 → s.end < s.position + n
    → drain_outcome (definite_length n) s ≡ refused_outcome (Unit {0}) s (short_refusal n (length (rest_of s)) s.position)
drain_short s n sound working some l =
    let w = whole_steps s in
    let k = min 16 (n - whole_steps s) in
    let refused_so : emptied_outcome (read_slice_outcome k (advanced_state s w)) ≡ refused_outcome (Unit {0}) s (missing_refusal (s.position + w + k) s.end (s.position + w)) =
    ap emptied_outcome (slice_short (advanced_state s w) k working (step_missing s n sound l)) in
    let end : s.end ≡ s.position + (s.end - s.position) = omega (arith, sound.ordered) in
    drain_step s n working some l ∙ refused_so ∙ ap (λ e. refused_outcome (Unit {0}) s (missing_refusal (s.position + w + k) e (s.position + w))) end
    ∙ ap (λ m. refused_outcome (Unit {0}) s (short_refusal n m s.position)) (sym (length-rest s sound))

module _ (s : ReaderState) (n : ℕ) (sound : IsSound s) (working : s.failed ≡ false) where
  pub drain_refused : {t : ReaderState} {e : Error} → Gives (drain_outcome (definite_length n)) s (Err e) t → (length (rest_of s) < n) × Stops s (short_refusal n (length (rest_of s)) s.position) e t
  drain_refused {t} {e} h =
      ⊎_elim (λ none. absurd (let a = h.answered ∙ ap (λ o. o.answer) (drain_none s n none) in cc)) (λ some. ⊎_elim
      (λ few. let table = drain_short s n sound working some few in
      let reported : Err e ≡ Err (short_refusal n (length (rest_of s)) s.position).error = h.answered ∙ ap (λ o. o.answer) table in
      (omega (arith, length-rest s sound), record { reported = cc; leaves = h.leaves ∙ ap (λ o. o.after) table }))
      (λ enough. absurd (let a = h.answered ∙ ap (λ o. o.answer) (drain_enough s n working some enough) in cc))
      (cases_lt s.end (s.position + n))) (cases_eq n 0)

  drain_passed : {t : ReaderState} {v : Unit {0}} → Gives (drain_outcome (definite_length n)) s (Ok v) t → (n ≤ length (rest_of s)) × (t ≡ advanced_state s n)
  drain_passed {t} h =
      ⊎_elim (λ none. (omega arith, h.leaves ∙ ap (λ o. o.after) (drain_none s n none) ∙ ap (λ p. record s { position = p }) (omega arith))) (λ some. ⊎_elim
      (λ few. absurd (let a = h.answered ∙ ap (λ o. o.answer) (drain_short s n sound working some few) in cc))
      (λ enough. (omega (arith, length-rest s sound), h.leaves ∙ ap (λ o. o.after) (drain_enough s n working some enough)))
      (cases_lt s.end (s.position + n))) (cases_eq n 0)

-- a drain by a length with this number is a drain by the number
drained_as : {l : Length} {n : ℕ} {s t : ReaderState} {answer : Result (Unit {0}) Error} → l ≡ definite_length n → Gives (drain_outcome l) s answer t → Gives (drain_outcome (definite_length n)) s answer t
drained_as {s = s} {t} {answer} e h = subst (λ l. Gives (drain_outcome l) s answer t) e h

-- an error in an identifier
identifier_stops : {level at : ℕ} {q left : List ℕ} {o : ℕ} {r : Refusal} → o ≢ 0 → IdentifierFault Ber at q r → q ≡ o ∷ left → ScanFault level at q r
identifier_stops other (cut [] h) e = absurd (cc)
identifier_stops other (cut (p ∷ s) h) e = cut_identifier p s h
identifier_stops other (refused [] p q h never) e = refused_identifier [] p q (λ z. other (let f : p ∷ [] ≡ 0 ∷ [] = z in cc)) h never
identifier_stops other (refused (x ∷ s) p q h never) e = refused_identifier (x ∷ s) p q (λ z. other (let f : x ∷ (s ++ p ∷ []) ≡ 0 ∷ [] = z in cc)) h never

-- an identifier was read by a reader that had not failed
pub record IdentifierPassed (a c : ReaderState) (id : List ℕ) (x : Tag) (bit : Bool) : Type 0 where
  pub ber : a.rules ≡ Ber
  pub working : a.failed ≡ false
  pub is : IsIdentifier Ber id x bit
  pub read : Reads a c id

pub identifier_passed : {a b c : ReaderState} {o : ℕ} {l : List ℕ} {x : Tag} {bit : Bool} → a.rules ≡ Ber → a.failed ≡ false → Reads a b (o ∷ []) → IsIdentifier b.rules (o ∷ l) x bit → Reads b c l
    → IdentifierPassed a c (o ∷ l) x bit
identifier_passed {o = o} {l} {x} {bit} ber working h d g = record { ber = ber; working = working; is = subst (λ rules. IsIdentifier rules (o ∷ l) x bit) (rules_on h ∙ ber) d; read = reads_on h g }

-- octets up to a length were also read
pub record LengthPassed (a k : ReaderState) (id : List ℕ) (n : ℕ) (x : Tag) (bit : Bool) : Type 0 where
  pub working : a.failed ≡ false
  pub is : IsIdentifier Ber id x bit
  pub few : n < 2 ^ 32
  pub read : Reads a k (id ++ length_octets n)

pub length_passed : {a c f k : ReaderState} {id m : List ℕ} {octet n : ℕ} {x : Tag} {bit : Bool} → IdentifierPassed a c id x bit → Reads c f (octet ∷ []) → length_octets n ≡ octet ∷ m → Reads f k m → n < 2 ^ 32
    → LengthPassed a k id n x bit
length_passed {a} {k = k} {id = id} i j sized g few = record { working = i.working; is = i.is; few = few; read = subst (λ q. Reads a k (id ++ q)) (sym sized) (reads_on i.read (reads_on j g)) }

module _ (level : ℕ) {a : ReaderState} where
  -- a fault that is returned
  stops_at : {t : ReaderState} {e : Error} {q : List ℕ} {r : Refusal} → a.failed ≡ false → rest_of a ≡ q → ScanFault level a.position q r → Stops a r e t → RefusesPart level a e t
  stops_at {r = r} working octets fault stops = at_fault r working (subst (λ l. ScanFault level a.position l r) (sym octets) fault) stops.reported stops.leaves

  -- a fault that is returned at the position of a reader after some of the octets
  stops_there : {b t : ReaderState} {x : List ℕ} {e : Error} {q : List ℕ} {n : ℕ} (f : ℕ → Refusal) → a.failed ≡ false → Reads a b x → n ≡ b.position → rest_of a ≡ q
      → ScanFault level a.position q (f n) → Stops b (f b.position) e t → RefusesPart level a e t
  stops_there {t = t} {e = e} f working h here octets fault stops = stops_at working octets fault (subst (λ k. Stops a (f k) e t) (sym here) (stops_on h stops))

  -- nothing follows
  pub part_nothing : {t : ReaderState} {e : Error} → ByteRefused a e t → RefusesPart level a e t
  part_nothing (byte_failed f reported leaves) = has_failed f reported leaves
  part_nothing (byte_cut working none stops) = stops_at working none nothing stops

  -- a zero octet
  module _ {b : ReaderState} {o : ℕ} (working : a.failed ≡ false) (h : Reads a b (o ∷ [])) where
    pub token_eoc : {t : ReaderState} {v : Unit {0}} → o ≡ 0 → ZeroOctet b (Ok v) t → PartRead level Ends a t
    token_eoc {t} is (zero_read w g) = record { octets = o ∷ 0 ∷ []; working = working; is_part = ap (λ x. x ∷ 0 ∷ []) is; reads = reads_on h g }

    pub token_invalid_eoc : {t : ReaderState} {e : Error} → o ≡ 0 → ZeroOctet b (Err e) t → RefusesPart level a e t
    token_invalid_eoc is (zero_cut cannot) =
        let r = cut_refused (failed_on h ∙ working) cannot in
        stops_there end_refusal working h (sym (position_on h)) (h.split ∙ ap (λ l. o ∷ l) r.0 ∙ ap (λ x. x ∷ []) is) half_eoc r.1
    token_invalid_eoc is (other_read {c = c} second w g other stops) =
        let both = reads_on h g in
        stops_there (refusal IndefiniteLength) working both (sym (position_on both)) (both.split ∙ ap (λ x. x ∷ second ∷ rest_of c) is) (no_eoc second (rest_of c) other) stops

    -- a nonzero octet that begins no identifier
    pub part_refused : {t : ReaderState} {e : Error} → a.rules ≡ Ber → o ≢ 0 → RefusesIdentifier o b e t → RefusesPart level a e t
    part_refused {t} {e} ber other n =
        let r = n a.position (position_on h) (failed_on h ∙ working) in
        let fault : IdentifierFault Ber a.position (o ∷ rest_of b) r.0 = subst (λ rules. IdentifierFault rules a.position (o ∷ rest_of b) r.0) (rules_on h ∙ ber) r.1 in
        stops_at working h.split (identifier_stops other fault refl) (stops_on h r.2)

  -- after an identifier
  module _ {c : ReaderState} {id : List ℕ} {x : Tag} {bit : Bool} (i : IdentifierPassed a c id x bit) where
    pub part_no_length : {t : ReaderState} {e : Error} → ByteRefused c e t → RefusesPart level a e t
    part_no_length cannot =
        let r = cut_refused (failed_on i.read ∙ i.working) cannot in
        stops_there end_refusal i.working i.read (sym (position_on i.read)) (i.read.split ∙ ap (λ q. id ++ q) r.0) (no_length i.is no_octet) r.1

    -- after an identifier and octet `0x80`
    module _ {f : ReaderState} {octet : ℕ} (j : Reads c f (octet ∷ [])) (opens : octet ≡ 128) where
      pub part_primitive : {t : ReaderState} {e : Error} → bit ≡ false → e ≡ error_at IndefiniteLength (reader_position f) → t ≡ stopped_state f f.position → RefusesPart level a e t
      part_primitive {t} {e} plain reported leaves =
          stops_there (refusal IndefiniteLength) i.working (reads_on i.read j) (omega (arith, position_on i.read, position_on j)) (i.read.split ∙ ap (λ q. id ++ q) (j.split ∙ ap (λ p. p ∷ rest_of f) opens))
          (primitive (rest_of f) (subst (IsIdentifier Ber id x) plain i.is)) (error_stops f t IndefiniteLength e reported leaves)

      pub part_too_deep : {t : ReaderState} {e : Error} → bit ≡ true → level ≡ 64 → e ≡ error_at NestingDepth (reader_position f) → t ≡ stopped_state f f.position → RefusesPart level a e t
      part_too_deep {t} {e} constructed deep reported leaves =
          stops_there (refusal NestingDepth) i.working (reads_on i.read j) (omega (arith, position_on i.read, position_on j)) (i.read.split ∙ ap (λ q. id ++ q) (j.split ∙ ap (λ p. p ∷ rest_of f) opens))
          (too_deep (rest_of f) deep (subst (IsIdentifier Ber id x) constructed i.is)) (error_stops f t NestingDepth e reported leaves)

      pub part_opens : bit ≡ true → level < 64 → PartRead level Opens a f
      part_opens constructed few =
          record { octets = id ++ octet ∷ []; working = i.working; is_part = (id, x, subst (IsIdentifier Ber id x) constructed i.is, ap (λ p. id ++ p ∷ []) opens, few); reads = reads_on i.read j }

    -- a length that is not encoded as required
    pub part_wrong_length : {f t : ReaderState} {octet : ℕ} {e : Error} → Reads c f (octet ∷ []) → RefusesLongLength (IncorrectLength x) octet f e t → RefusesPart level a e t
    part_wrong_length {f} {octet = octet} j n =
        let whole = reads_on i.read j in
        let r = n c.position (position_on j) (failed_on whole ∙ i.working) in
        let fault : LengthFault NoBodyFault (IncorrectLength x) Ber c.position (octet ∷ rest_of f) r.0 = subst (λ rules. LengthFault NoBodyFault (IncorrectLength x) rules c.position (octet ∷ rest_of f) r.0) (rules_on whole ∙ i.ber) r.1 in
        stops_at i.working (i.read.split ∙ ap (λ q. id ++ q) j.split) (no_length i.is (subst (λ p. LengthFault NoBodyFault (IncorrectLength x) Ber p (octet ∷ rest_of f) r.0) (position_on i.read) fault)) (stops_on whole r.2)

  -- after a definite length
  module _ {k : ReaderState} {id : List ℕ} {n : ℕ} {x : Tag} {bit : Bool} (i : LengthPassed a k id n x bit) where
    pub part_short : {t : ReaderState} {l : Length} {e : Error} → l ≡ definite_length n → IsSound k → Gives (drain_outcome l) k (Err e) t → RefusesPart level a e t
    part_short {t} {l} {e} is sound h =
        let r = drain_refused k n sound (failed_on i.read ∙ i.working) (drained_as is h) in
        let there : a.position + length id + length (length_octets n) ≡ k.position = omega (arith, position_on i.read, length-append id (length_octets n)) in
        stops_there (short_refusal n (length (rest_of k))) i.working i.read there (i.read.split ∙ append_assoc id (length_octets n) (rest_of k)) (short n (rest_of k) i.is i.few r.0) r.1

    pub part_passes : {t : ReaderState} {l : Length} {v : Unit {0}} → l ≡ definite_length n → IsLevel level → IsSound k → Gives (drain_outcome l) k (Ok v) t → PartRead level Passes a t
    part_passes {t} is at sound h =
        let r = drain_passed k n sound (failed_on i.read ∙ i.working) (drained_as is h) in
        let contents = take n (rest_of k) in
        let long : length contents ≡ n = length-take-le n (rest_of k) r.0 in
        let passed : Reads k t contents = subst (λ u. Reads k u contents) (ap (advanced_state k) long ∙ sym r.1) (reads_front k contents (drop n (rest_of k)) (sym (take-append-drop n (rest_of k)))) in
        let item : Item level 1 (id ++ (length_octets n ++ contents)) = subst (λ q. Item level 1 (id ++ (length_octets q ++ contents))) long (definite at i.is contents (omega (arith, long, i.few))) in
        record { octets = id ++ (length_octets n ++ contents); working = i.working; is_part = item; reads = subst (Reads a t) (append_assoc id (length_octets n) contents) (reads_on i.read passed) }

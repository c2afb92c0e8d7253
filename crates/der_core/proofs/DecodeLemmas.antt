-- The remaining octets after a value, and the guarantees for a value that is next.
use Rattle.std.proofs.Common.{◌≡◌, ℕ, ◌+◌, ◌≤◌, ◌^◌, ◌<◌, Bool, true, false, Result, Ok, Err, List, length, take, ◌-◌, refl, sym, ap, ◌∙◌, subst, inl, inr, arith}
use Rattle.std.proofs.lemmas.List.{take_all}
use Rattle.std.specs.Result.{is_ok}
use Rattle.der_base.specs.Error.{error_at, Refusal}
use Rattle.der_base.specs.declared.error.Error.{Error}
use Rattle.der_base.specs.declared.error.ErrorKind.TheVariants.{Failed}
use Rattle.der_base.specs.declared.encoding_rules.EncodingRules.{EncodingRules}
use Rattle.der_core.specs.ReaderState.{ReaderState, rest_of, reader_position, advanced_state, initial_state, Same}
use Rattle.der_core.specs.Reader.{remaining_answer}
use Rattle.der_core.specs.Decode.{Passes, Decodes, Accepts, IsRefusedBy, has_failed, at_fault, ReadsOrLacks, grammar_levels, PartialAnswer, decoded}
use Rattle.der_core.specs.Outcome.{IsBinding}
use Rattle.der_base.specs.Laws.{IsGrammar}

pub remaining_ok : (t : ReaderState) (x : List ℕ) → Ok x ≡ remaining_answer t → (t.failed ≡ false) × (x ≡ rest_of t)
remaining_ok t x h = go t.failed refl h
  where
    go : (f : Bool) → t.failed ≡ f → Ok x ≡ remaining_answer t → (t.failed ≡ false) × (x ≡ rest_of t)
    go true e h = absurd (grind arith)
    go false e h = (e, grind arith)

pub remaining_err : (t : ReaderState) (e : Error) → Err e ≡ remaining_answer t → (t.failed ≡ true) × (e ≡ error_at Failed (reader_position t))
remaining_err t e h = go t.failed refl h
  where
    go : (f : Bool) → t.failed ≡ f → Err e ≡ remaining_answer t → (t.failed ≡ true) × (e ≡ error_at Failed (reader_position t))
    go true f h = (f, grind arith)
    go false f h = absurd (grind arith)

-- an error means that the decoder allocates and that an allocation failed
pub lacks_only : {E : Type 0} (A : Type 0) (oom : E → Bool) {takes : Bool} (s t : ReaderState) (m : ℕ) {e : E} → ReadsOrLacks {A = A} oom takes s m (Err e) t
    → (takes ≡ true) × (oom e ≡ true)
lacks_only A oom s t m (inl h) = absurd (let no : false ≡ true = h.0 in cc)
lacks_only A oom s t m (inr h) = h

pub read_on : {A : Type 0} (E : Type 0) (oom : E → Bool) {takes : Bool} (s : ReaderState) {t : ReaderState} (m : ℕ) (v : A) → ReadsOrLacks {E = E} oom takes s m (Ok v) t
    → t ≡ advanced_state s m
read_on E oom s m v (inl h) = h.1
read_on E oom s m v (inr h) = absurd h.1

module _ {A : Type 0} {Next : A → EncodingRules → List ℕ → ℕ → Type 0} {Fault : EncodingRules → ℕ → List ℕ → Refusal → Type 0} where
  -- a value that was read, and an error
  pub decoded_ok : {reliable : Bool} {s t : ReaderState} {v : A} → Same s t → Passes (Next v) s t → Decodes Next Fault reliable s (Ok v) t
  decoded_ok same read = record { same = same; ok = read; refused = λ _. tt }

  pub decoded_err : {reliable : Bool} {s t : ReaderState} {e : Error} → Same s t → (reliable ≡ true → IsRefusedBy Fault s e t) → Decodes Next Fault reliable s (Err e) t
  decoded_err same refused = record { same = same; ok = tt; refused = refused }

  -- the outcome on a reliable reader
  pub decodes_reliably : {reliable : Bool} {s t : ReaderState} {answer : Result A Error} → reliable ≡ true → Decodes Next Fault reliable s answer t → Decodes Next Fault true s answer t
  decodes_reliably is h = record { same = h.same; ok = h.ok; refused = λ _. h.refused is }

  -- a binding result satisfies what a reliable reader guarantees
  pub decodes_bound : {s t : ReaderState} (reliable : Bool) (answer : Result A Error) → IsBinding reliable answer → Decodes Next Fault reliable s answer t → Decodes Next Fault true s answer t
  decodes_bound reliable (Ok v) owed h = record { same = h.same; ok = h.ok; refused = λ _. tt }
  decodes_bound reliable (Err e) owed h = decodes_reliably owed h

  -- a value that is next is not an error
  pub not_refused : IsGrammar Next Fault → {s t : ReaderState} {e : Error} {v : A} {m : ℕ} → IsRefusedBy Fault s e t → s.failed ≡ false → Next v s.rules (rest_of s) m → ⊥
  not_refused laws (has_failed f reported leaves) working next = (let no : true ≡ false = sym f ∙ working in cc)
  not_refused laws {s} {v = v} {m = m} (at_fault r w fault reported leaves) working next = laws.never_both s.rules s.position (rest_of s) v m r next fault

  -- a value that is next is read
  pub accepts : IsGrammar Next Fault → Accepts Next Fault
  accepts laws s t (Ok w) v m h working next =
      let one = laws.one s.rules (rest_of s) w v h.ok.octets m h.ok.next next in
      (ap Ok one.0, h.ok.leaves ∙ ap (advanced_state s) one.1)
  accepts laws s t (Err e) v m h working next = absurd (not_refused laws (h.refused refl) working next)

  -- a value that is next is read, by a decoder that may fail to allocate
  pub reads : IsGrammar Next Fault → {reliable : Bool} {s t : ReaderState} {answer : Result A Error} (oom : Error → Bool) (takes : Bool) (v : A) (m : ℕ) → Decodes Next Fault reliable s answer t → reliable ≡ true → s.failed ≡ false
      → Next v s.rules (rest_of s) m → s.depth + grammar_levels s.rules ≤ 64 → ReadsOrLacks oom takes s m answer t
  reads laws {s = s} {t} {answer} oom takes v m h reliable working next enough =
      let read = accepts laws s t answer v m (decodes_reliably reliable h) working next in
      inl (ap is_ok read.0, read.1)

pub rest-beginning : (rules : EncodingRules) (octets : List ℕ) → rest_of (initial_state rules octets) ≡ octets
rest-beginning rules octets = let e : length octets - 0 ≡ length octets = omega arith in ap (λ n. take n octets) e ∙ take_all (length octets) octets (omega arith)

-- the guarantees for a reader at the start
module _ {A E : Type 0} (rules : EncodingRules) (Next : A → EncodingRules → List ℕ → ℕ → Type 0) (levels : EncodingRules → ℕ) (oom : E → Bool) (takes : Bool) where
  pub promised : (octets : List ℕ) (s t : ReaderState) (v : A) (m : ℕ) (result : Result A E) → s ≡ initial_state rules octets → Next v rules octets m → levels rules ≤ 64
      → (s.failed ≡ false → Next v s.rules (rest_of s) m → s.depth + levels s.rules ≤ 64 → ReadsOrLacks oom takes s m result t) → ReadsOrLacks oom takes s m result t
  promised octets s t v m result e next enough complete =
      let working : s.failed ≡ false = ap (λ (x : ReaderState). x.failed) e in
      let same_rules : s.rules ≡ rules = ap (λ (x : ReaderState). x.rules) e in
      let depth : s.depth ≡ 0 = ap (λ (x : ReaderState). x.depth) e in
      let left : rest_of s ≡ octets = ap rest_of e ∙ rest-beginning rules octets in
      let there : Next v s.rules (rest_of s) m = subst (λ r. Next v r (rest_of s) m) (sym same_rules) (subst (λ l. Next v rules l m) (sym left) next) in
      let few : s.depth + levels s.rules ≤ 64 = omega (arith, depth, ap levels same_rules) in
      complete working there few

  -- the remaining octets after a guaranteed value are available
  pub not_lost : (octets : List ℕ) (s t : ReaderState) (v w : A) (m : ℕ) (e : Error) → s ≡ initial_state rules octets → Next v rules octets m → levels rules ≤ 64
      → (s.failed ≡ false → Next v s.rules (rest_of s) m → s.depth + levels s.rules ≤ 64 → ReadsOrLacks oom takes s m (Ok w) t) → Err e ≡ remaining_answer t → ⊥
  not_lost octets s t v w m e begun next enough complete lost =
      let there : t ≡ advanced_state s m = read_on E oom s m w (promised octets s t v m (Ok w) begun next enough complete) in
      let working : t.failed ≡ false = ap (λ (x : ReaderState). x.failed) there ∙ ap (λ (x : ReaderState). x.failed) begun in
      let failed = remaining_err t e lost in
      (let no : false ≡ true = sym working ∙ failed.0 in cc)

-- the first step that fails, or none
module _ {A E : Type 0} (rules : EncodingRules) (answers : ReaderState → Result A E → ReaderState → Type 0) (converts : Error → E → Type 0) (octets : List ℕ) (s t : ReaderState) where
  at_beginning : {a : Result A E} → s ≡ initial_state rules octets → answers s a t → answers (initial_state rules octets) a t
  at_beginning {a} e h = subst (λ x. answers x a t) e h

  pub partial_err : (e : E) → length octets < 2 ^ 32 → s ≡ initial_state rules octets → answers s (Err e) t → PartialAnswer rules answers converts octets (Err e)
  partial_err e small begun h = decoded (Err e) t small (at_beginning begun h) refl

  pub partial_lost : (v : A) (e : Error) (f : E) → length octets < 2 ^ 32 → s ≡ initial_state rules octets → answers s (Ok v) t → Err e ≡ remaining_answer t → converts e f
      → PartialAnswer rules answers converts octets (Err f)
  partial_lost v e f small begun h lost reported =
      let failed = remaining_err t e lost in
      decoded (Ok v) t small (at_beginning begun h) (inr (failed.0, subst (λ x. converts x f) failed.1 reported))

  pub partial_ok : (v : A) (left : List ℕ) → length octets < 2 ^ 32 → s ≡ initial_state rules octets → answers s (Ok v) t → Ok left ≡ remaining_answer t
      → PartialAnswer rules answers converts octets (Ok (v, left))
  partial_ok v left small begun h is =
      let there = remaining_ok t left is in
      decoded (Ok v) t small (at_beginning begun h) (inl (there.0, ap (λ l. Ok (v, l)) there.1))

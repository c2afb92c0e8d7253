-- Values that are all of the octets.
use Rattle.std.proofs.Common.{◌≡◌, ℕ, ◌-◌, ◌^◌, ◌<◌, ◌≤◌, ◌⊎◌, inl, inr, Bool, true, false, Result, Ok, Err, List, length, refl, sym, ap, ◌∙◌, subst, arith}
use Rattle.std.proofs.lemmas.Bool.{lt-ltb, le-ltb, cases_lt}
use Rattle.der_base.specs.Error.{error_at}
use Rattle.der_base.specs.Length.{definite_length}
use Rattle.der_base.specs.declared.error.Error.{Error}
use Rattle.der_base.specs.declared.error.ErrorKind.TheVariants.{Failed, TrailingData}
use Rattle.der_base.specs.declared.encoding_rules.EncodingRules.{EncodingRules}
use Rattle.der_core.specs.ReaderState.{ReaderState, rest_of, reader_position, advanced_state, initial_state}
use Rattle.der_core.specs.Reader.{finish_answer}
use Rattle.der_core.specs.Decode.{Passes, Whole, WholeAnswer, decoded}
use Rattle.der_core.proofs.DecodeLemmas.{rest-beginning}

-- a reader that was finished without an error had not failed, and nothing was left
pub finish_ok : (t : ReaderState) → finish_answer t ≡ Ok tt → (t.failed ≡ false) × (t.end ≤ t.position)
finish_ok t h = go t.failed refl (cases_lt t.position t.end)
  where
    go : (f : Bool) → t.failed ≡ f → (t.position < t.end) ⊎ (t.end ≤ t.position) → (t.failed ≡ false) × (t.end ≤ t.position)
    go true f l = absurd (let no : finish_answer t ≡ Err (error_at Failed (reader_position t)) = rw f refl in let w : Err (error_at Failed (reader_position t)) ≡ Ok tt = sym no ∙ h in cc)
    go false f (inl l) = absurd (let no : finish_answer t ≡ Err (error_at (TrailingData (reader_position t) (definite_length (t.end - t.position))) (reader_position t)) = rw f (rw (lt-ltb t.position t.end l) refl) in let w : Err (error_at (TrailingData (reader_position t) (definite_length (t.end - t.position))) (reader_position t)) ≡ Ok tt = sym no ∙ h in cc)
    go false f (inr l) = (f, l)

pub finishes : (t : ReaderState) → t.failed ≡ false → t.end ≤ t.position → finish_answer t ≡ Ok tt
finishes t f l = rw f (rw (le-ltb t.position t.end l) refl)

-- all of the octets
module _ (rules : EncodingRules) (octets : List ℕ) (s t : ReaderState) (begun : s ≡ initial_state rules octets) where
  pub wholly : {A : Type 0} (Next : A → EncodingRules → List ℕ → ℕ → Type 0) (v : A) → (s.failed ≡ false → t.failed ≡ false → Passes (Next v) s t) → finish_answer t ≡ Ok tt
      → Whole (Next v) rules octets
  wholly {A} Next v ok finished =
      let f = finish_ok t finished in
      let passed = ok (ap (λ (x : ReaderState). x.failed) begun) f.0 in
      let left : rest_of s ≡ octets = ap rest_of begun ∙ rest-beginning rules octets in
      let here : Next v rules octets passed.octets = subst (λ l. Next v rules l passed.octets) left (subst (λ r. Next v r (rest_of s) passed.octets) (ap (λ (x : ReaderState). x.rules) begun) passed.next) in
      let all : passed.octets ≡ length octets =
      omega (arith, f.1, passed.there, ap length left, ap (λ (x : ReaderState). x.position) passed.leaves, ap (λ (x : ReaderState). x.end) passed.leaves, ap (λ (x : ReaderState). x.position) begun, ap (λ (x : ReaderState). x.end) begun) in
      subst (Next v rules octets) all here

  pub whole_finishes : t ≡ advanced_state s (length octets) → finish_answer t ≡ Ok tt
  whole_finishes there =
      finishes t (ap (λ (x : ReaderState). x.failed) there ∙ ap (λ (x : ReaderState). x.failed) begun)
      (omega (arith, ap (λ (x : ReaderState). x.position) there, ap (λ (x : ReaderState). x.end) there, ap (λ (x : ReaderState). x.position) begun, ap (λ (x : ReaderState). x.end) begun))

  -- the first step that fails, or none
  module _ {A E : Type 0} (answers : ReaderState → Result A E → ReaderState → Type 0) (converts : Error → E → Type 0) where
    from_beginning : {a : Result A E} → answers s a t → answers (initial_state rules octets) a t
    from_beginning {a} h = subst (λ x. answers x a t) begun h

    pub whole_err : (e : E) → length octets < 2 ^ 32 → answers s (Err e) t → WholeAnswer rules answers converts octets (Err e)
    whole_err e small h = decoded (Err e) t small (from_beginning h) refl

    pub whole_left : (v : A) (e : Error) (f : E) → length octets < 2 ^ 32 → answers s (Ok v) t → Err e ≡ finish_answer t → converts e f → WholeAnswer rules answers converts octets (Err f)
    whole_left v e f small h left reported = decoded (Ok v) t small (from_beginning h) (inr (e, sym left, reported))

    pub whole_ok : (v : A) → length octets < 2 ^ 32 → answers s (Ok v) t → finish_answer t ≡ Ok tt → WholeAnswer rules answers converts octets (Ok v)
    whole_ok v small h finished = decoded (Ok v) t small (from_beginning h) (inl (finished, refl))

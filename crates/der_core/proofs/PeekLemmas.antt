-- Results on a fork, and what follows them.
use Rattle.std.proofs.Common.{◌≡◌, ℕ, ◌+◌, ◌-◌, ◌^◌, ◌<◌, ◌≤◌, Bool, true, false, Result, Ok, Err, List, refl, sym, ap, ◌∙◌, subst, ⊎_elim, arith}
use Rattle.std.proofs.lemmas.Bool.{lt-ltb, le-ltb, cases_lt}
use Rattle.der_base.specs.Error.{error_of_kind, Refusal}
use Rattle.der_base.specs.Length.{number, definite_length}
use Rattle.der_base.specs.declared.length.Length.{Length}
use Rattle.der_base.specs.declared.error.Error.{Error}
use Rattle.der_base.specs.declared.error.ErrorKind.TheVariants.{Overflow}
use Rattle.der_base.specs.declared.encoding_rules.EncodingRules.{EncodingRules}
use Rattle.der_core.specs.ReaderState.{ReaderState, rest_of}
use Rattle.der_base.specs.Arithmetic.{checked_length}
use Rattle.der_core.specs.Outcome.{Outcome, Gives, Meets, IsBinding, map_ok}
use Rattle.der_core.specs.Reader.{read_slice_outcome, tlv_outcome}
use Rattle.der_core.specs.Header.{head_of, HeaderNext}
use Rattle.der_core.specs.Decode.{Passes, Decodes, Peeks, TlvAnswer, with_header}
use Rattle.der_core.specs.declared.header.Header.{Header}
use Rattle.der_core.proofs.DecodeLemmas.{decodes_bound}

-- the result of decoding on a fork
pub peeks : {A : Type 0} {Next : A → EncodingRules → List ℕ → ℕ → Type 0} {Fault : EncodingRules → ℕ → List ℕ → Refusal → Type 0} {reliable : Bool} {s f t : ReaderState} {answer : Result A Error}
    → f ≡ s → Decodes Next Fault reliable f answer t → Peeks Next Fault reliable s answer
peeks {Next = Next} {Fault} {reliable} {t = t} {answer} same h = (t, subst (λ x. Decodes Next Fault reliable x answer t) same h)

-- a binding result of a peek satisfies what a reliable reader guarantees
pub peeks_reliably : {A : Type 0} {Next : A → EncodingRules → List ℕ → ℕ → Type 0} {Fault : EncodingRules → ℕ → List ℕ → Refusal → Type 0} {reliable : Bool} {s : ReaderState} (answer : Result A Error)
    → IsBinding reliable answer → Peeks Next Fault reliable s answer → Peeks Next Fault true s answer
peeks_reliably {reliable = reliable} answer owed h = (h.0, decodes_bound reliable answer owed h.1)

-- whole elements
tlv_near : (n : ℕ) (s : ReaderState) → n < 2 ^ 32 → tlv_outcome n s ≡ read_slice_outcome n s
tlv_near n s l = rw (lt-ltb n (2 ^ 32) l) refl

module _ (s f t : ReaderState) (h : Header) (same : f ≡ s) (p : Passes (HeaderNext h) f t) where
  here : HeaderNext h s.rules (rest_of s) p.octets
  here = subst (λ x. HeaderNext h x.rules (rest_of x) p.octets) same p.next

  working : s.failed ≡ false
  working = ap (λ (x : ReaderState). x.failed) (sym same) ∙ p.working

  pub header_octets_are : t.position - s.position ≡ p.octets
  header_octets_are = omega (arith, ap (λ (x : ReaderState). x.position) p.leaves, ap (λ (x : ReaderState). x.position) same)

  pub tlv_read : (n : ℕ) (answer : Result (List ℕ) Error) (u : ReaderState) → n ≡ p.octets + number (head_of h).length → n < 2 ^ 32 → Gives (read_slice_outcome n) s answer u
      → TlvAnswer s answer u
  tlv_read n answer u sum small g =
      let near : read_slice_outcome n s ≡ tlv_outcome (p.octets + number (head_of h).length) s = sym (tlv_near n s small) ∙ ap (λ k. tlv_outcome k s) sum in
      with_header h p.octets here working
      (record { answered = g.answered ∙ ap (λ x. x.answer) near; leaves = g.leaves ∙ ap (λ x. x.after) near })

  pub tlv_far : (n : ℕ) (e : Error) → n ≡ p.octets + number (head_of h).length → 2 ^ 32 ≤ n → e ≡ error_of_kind Overflow → TlvAnswer s (Err e) s
  tlv_far n e sum far reported =
      let over : tlv_outcome (p.octets + number (head_of h).length) s ≡ record { answer = Err (error_of_kind Overflow); after = s } = ap (λ k. tlv_outcome k s) (sym sum) ∙ rw (le-ltb n (2 ^ 32) far) refl in
      with_header h p.octets here working (record { answered = ap Err reported ∙ sym (ap (λ x. x.answer) over); leaves = sym (ap (λ x. x.after) over) })

-- a binding result has the outcome of its table
pub owed_gives : {A B : Type 0} (reliable : Bool) (f : A → B) (table : ReaderState → Outcome B) (s t : ReaderState) (r : Result A Error) → IsBinding reliable r → Meets reliable table s (map_ok f r) t → Gives table s (map_ok f r) t
owed_gives reliable f table s t (Ok a) owed h = h
owed_gives reliable f table s t (Err e) owed h = h owed

-- a sum of octets that 32 bits can represent, or not
pub counted_ok : (n : ℕ) (l : Length) → Ok l ≡ checked_length n → (n < 2 ^ 32) × (l ≡ definite_length n)
counted_ok n l h = ⊎_elim (λ small. (small, (let e : Ok l ≡ Ok (definite_length n) = h ∙ rw (lt-ltb n (2 ^ 32) small) refl in cc))) (λ far. absurd (let e : Ok l ≡ Err (error_of_kind Overflow) = h ∙ rw (le-ltb n (2 ^ 32) far) refl in cc)) (cases_lt n (2 ^ 32))

pub counted_err : (n : ℕ) (e : Error) → Err e ≡ checked_length n → (2 ^ 32 ≤ n) × (e ≡ error_of_kind Overflow)
counted_err n e h = ⊎_elim (λ small. absurd (let q : Err e ≡ Ok (definite_length n) = h ∙ rw (lt-ltb n (2 ^ 32) small) refl in cc)) (λ far. (far, (let q : Err e ≡ Err (error_of_kind Overflow) = h ∙ rw (le-ltb n (2 ^ 32) far) refl in cc))) (cases_lt n (2 ^ 32))

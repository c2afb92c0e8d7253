-- What reading an element implies about the input.
use Rattle.std.proofs.Common.{◌≡◌, ℕ, ◌+◌, ◌^◌, ◌<◌, ◌≤◌, if◌then◌else◌, Bool, true, Result, Ok, Err, IfOk, IfErr, List, length, take, refl, sym, ap, ◌∙◌, subst, ⊎_elim, arith}
use Rattle.std.proofs.lemmas.Bool.{lt-ltb, le-ltb, cases_lt, lt-leb, le-leb}
use Rattle.der.specs.Prelude.{error_of_kind, number, Head, HeadNext, Error, EncodingRules, ReaderState, rest_of, map_ok, read_slice_outcome, head_of}
use Rattle.der.specs.Error.{missing_refusal}
use Rattle.der.specs.ErrorKinds.{Overflow}
use Rattle.der.specs.ReaderState.{initial_state, advanced_state}
use Rattle.der.specs.Outcome.{outcome_of, IsBinding}
use Rattle.der.specs.Reader.{short_outcome, tlv_outcome}
use Rattle.der.specs.Decode.{TlvAnswer}
use Rattle.der.proofs.DecodeLemmas.{rest-beginning}
use Rattle.der_tool_lib.specs.Answer.{IsFirstElement, NoElement}
use Rattle.der_tool_lib.proofs.HeaderLemmas.{fault_refused}

-- the result for these octets: their element, or why there is none
abbrev ElementSays : EncodingRules → List ℕ → Result (List ℕ) Error → Type 0
ElementSays rules octets (Ok element) = IsFirstElement rules octets element
ElementSays rules octets (Err e) = NoElement rules octets e

module _ (rules : EncodingRules) (octets : List ℕ) where
  abbrev begun : ReaderState
  begun = initial_state rules octets

  left : rest_of begun ≡ octets
  left = rest-beginning rules octets

  -- the result for an element of n octets, which two tests choose: whether n fits a length, and
  -- whether there are n octets
  abbrev whole_answer : ℕ → Result (List ℕ) Error
  whole_answer n = (tlv_outcome n begun).answer

  abbrev counted : ℕ → Bool → Result (List ℕ) Error
  counted n near = (if near then read_slice_outcome n begun else outcome_of (Err (error_of_kind Overflow)) begun).answer

  abbrev borrowed : ℕ → Bool → Result (List ℕ) Error
  borrowed n there = (if there then outcome_of (Ok (take n (rest_of begun))) (advanced_state begun n) else short_outcome (List ℕ) begun n).answer

  far_answer : (n : ℕ) → 2 ^ 32 ≤ n → whole_answer n ≡ Err (error_of_kind Overflow)
  far_answer n far = ap (counted n) (le-ltb n (2 ^ 32) far)

  from_zero : (n : ℕ) → 0 + n ≡ n
  from_zero n = omega arith

  there_answer : (n : ℕ) → n < 2 ^ 32 → n ≤ length octets → whole_answer n ≡ Ok (take n octets)
  there_answer n near there = ap (counted n) (lt-ltb n (2 ^ 32) near) ∙ ap (borrowed n) (le-leb (0 + n) (length octets) (omega (arith, there))) ∙ ap (λ o. Ok (take n o)) left

  short_answer : (n : ℕ) → n < 2 ^ 32 → length octets < n → whole_answer n ≡ Err (missing_refusal n (length octets) 0).error
  short_answer n near few =
      ap (counted n) (lt-ltb n (2 ^ 32) near) ∙ ap (borrowed n) (lt-leb (0 + n) (length octets) (omega (arith, few)))
      ∙ ap (λ k. Err (missing_refusal k (length octets) 0).error) (from_zero n)

  whole_says : (r : Result (List ℕ) Error) (h : Head) (m : ℕ) → length octets < 2 ^ 32 → HeadNext h rules octets m → r ≡ whole_answer (m + number h.length) → ElementSays rules octets r
  whole_says r h m small next is =
      let n = m + number h.length in
      ⊎_elim
      (λ near. ⊎_elim
      (λ few. subst (ElementSays rules octets) (sym (is ∙ short_answer n near few)) (NoElement.contents_missing h m next near few))
      (λ there. subst (ElementSays rules octets) (sym (is ∙ there_answer n near there)) record { countable = small; head = h; count = m; next = next; there = there; whole = refl })
      (cases_lt (length octets) n))
      (λ far. subst (ElementSays rules octets) (sym (is ∙ far_answer n far)) (NoElement.past_every_length h m small next far))
      (cases_lt n (2 ^ 32))

  begun_says : (r : Result (List ℕ) Error) (t : ReaderState) → length octets < 2 ^ 32 → TlvAnswer begun r t → ElementSays rules octets r
  begun_says r t small (TlvAnswer.no_header e peeked is same) = subst (ElementSays rules octets) (sym is) (NoElement.no_header (fault_refused rules octets e small (peeked.1.refused refl)))
  begun_says r t small (TlvAnswer.with_header h m next working gives) =
      whole_says r (head_of h) m small (subst (λ o. HeadNext (head_of h) rules o m) left next) gives.answered

  element_says : (s t : ReaderState) (r : Result (List ℕ) Error) → length octets < 2 ^ 32 → s ≡ begun → TlvAnswer s r t → ElementSays rules octets r
  element_says s t r small e h = begun_says r t small (subst (λ x. TlvAnswer x r t) e h)

  -- the slice that a reliable reader returns, or its error
  pub slice_is_element : {B : Type 0} (now : B → List ℕ) (s t : ReaderState) (r : Result B Error) → length octets < 2 ^ 32 → s ≡ begun → (IsBinding true r → TlvAnswer s (map_ok now r) t)
      → IfOk r (λ e. IsFirstElement rules octets (now e))
  slice_is_element now s t (Ok e) small is h = element_says s t (Ok (now e)) small is (h tt)
  slice_is_element now s t (Err e) small is h = tt

  pub error_is_no_element : {B : Type 0} (now : B → List ℕ) (s t : ReaderState) (r : Result B Error) → length octets < 2 ^ 32 → s ≡ begun → (IsBinding true r → TlvAnswer s (map_ok now r) t)
      → IfErr r (NoElement rules octets)
  error_is_no_element now s t (Ok e) small is h = tt
  error_is_no_element now s t (Err e) small is h = element_says s t (Err e) small is (h refl)

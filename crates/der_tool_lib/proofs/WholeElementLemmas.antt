-- What reading a whole element, or failing to, implies about the input.
use Rattle.std.proofs.Common.{◌≡◌, ℕ, ◌+◌, ◌-◌, ◌^◌, ◌<◌, ◌≤◌, ◌++◌, Bool, true, false, Result, Ok, Err, List, length, take, drop, refl, sym, ap, ◌∙◌, subst, inl, inr, take-take, length-drop, nat_lt, arith}
use Rattle.std.proofs.lemmas.Bool.{lt-ltb, le-leb, cases_lt}
use Rattle.std.proofs.lemmas.List.{take_all, drop_at}
use Rattle.der.specs.Arithmetic.{sans_eoc}
use Rattle.der.specs.Prelude.{error_of_kind, Head, HeadNext, header_octets, number, definite_length, Error, Length, Der, element_octets, head_of, HeaderNext, Gives, map_ok, read_slice_outcome, ReaderState, rest_of, Header}
use Rattle.der.specs.Error.{end_refusal}
use Rattle.der.specs.ErrorKinds.{Overflow}
use Rattle.der.specs.Decode.{Passes}
use Rattle.der.specs.Nested.{Closes, forwarded, left_over, whole, ClosesValue, part_refused, without_eoc, with_eoc, eoc_failed, ValueAnswer, not_opened, opened}
use Rattle.der.specs.Reader.{enter_nested_outcome, finish_answer}
use Rattle.der.specs.ReaderState.{initial_state, advanced_state, nested_state}
use Rattle.der.proofs.ContentsLemmas.{closes_ok}
use Rattle.der.proofs.DecodeLemmas.{rest-beginning}
use Rattle.der.proofs.DerLemmas.{HeaderRead, header_read}
use Rattle.der.proofs.WholeLemmas.{finish_ok, finishes}
use Rattle.der_tool_lib.specs.Answer.{IsWholeElement, NoWholeElement, trailing_error}

-- the state after n of the octets
abbrev following : List ℕ → ℕ → ReaderState
following octets n = record (initial_state Der octets) { position = n }

-- the result of reading contents of this length with a closure that returns that many octets
abbrev ReadsWithClosure : {B : Type 0} → (Error → Error → Type 0) → (B → List ℕ) → Length → ReaderState → Result B Error → ReaderState → Type 0
ReadsWithClosure converts octets_of l = ValueAnswer converts (λ s r q. Gives (read_slice_outcome (number l)) s (map_ok octets_of r) q) (λ p. p) (λ q. q) l

-- the octets begin with a header
module _ (octets : List ℕ) (h : Head) (m : ℕ) (small : length octets < 2 ^ 32) (next : HeadNext h Der octets m) where
  abbrev n : ℕ
  n = number h.length

  -- contents that cannot be entered are truncated, or end after octet 2^32 - 1
  not_entered : (e : Error) (t : ReaderState) → Gives (enter_nested_outcome n) (following octets m) (Err e) t → NoWholeElement octets e
  not_entered e t gives = go (nat_lt (m + n) (2 ^ 32)) (nat_lt (length octets) (m + n)) refl refl
    where
      go : (near few : Bool) → nat_lt (m + n) (2 ^ 32) ≡ near → nat_lt (length octets) (m + n) ≡ few → NoWholeElement octets e
      go false few p q =
          let is : e ≡ error_of_kind Overflow = (let a = gives.answered in grind arith) in
          subst (NoWholeElement octets) (sym is) (NoWholeElement.past_every_length h m small next (grind arith))
      go true true p q =
          let is : e ≡ (end_refusal (length octets)).error = (let a = gives.answered in grind arith) in
          subst (NoWholeElement octets) (sym is) (NoWholeElement.contents_missing h m next (grind arith) (grind arith))
      go true false p q = absurd (let a = gives.answered in grind arith)

  -- octets left after the element are reported
  not_finished : (e : Error) → Err e ≡ finish_answer (following octets (m + n)) → NoWholeElement octets e
  not_finished e reported =
      elim (cases_lt (m + n) (length octets)) [
        | inl less ↦
            let says : Err e ≡ Err (trailing_error (m + n) (length octets)) = reported ∙ rw (lt-ltb (m + n) (length octets) less) refl in
            let is : e ≡ trailing_error (m + n) (length octets) = cc in
            subst (NoWholeElement octets) (sym is) (NoWholeElement.left_after h m small next less)
        | inr none_left ↦
            let says : Err e ≡ Ok tt = reported ∙ finishes (following octets (m + n)) refl none_left in
            absurd (cc)
      ]

  -- inside the contents, all of their octets are there
  abbrev inside : ReaderState
  inside = nested_state (following octets m) n

  borrowed : (r : Result (List ℕ) Error) (q : ReaderState) → Gives (read_slice_outcome n) inside r q → (r ≡ Ok (take n (drop m octets))) × (q ≡ advanced_state inside n)
  borrowed r q gives =
      let there = le-leb (m + n) (m + n) (omega arith) in
      let some : take n (take (m + n - m) (drop m octets)) ≡ take n (drop m octets) = take-take n (m + n - m) (drop m octets) (omega arith) in
      (gives.answered ∙ rw there (ap Ok some), gives.leaves ∙ rw there refl)

  record ContentsRead (contents : List ℕ) (t : ReaderState) : Type 0 where
    pub fits : m + n ≤ length octets
    pub borrowed : contents ≡ take n (drop m octets)
    pub leaves : t ≡ following octets (m + n)

  module _ {B : Type 0} (octets_of : B → List ℕ) {converts : Error → Error → Type 0} (handed : (e f : Error) → converts e f → f ≡ e) where
    abbrev ContentsSay : Result B Error → ReaderState → Type 0
    ContentsSay (Ok v) t = ContentsRead (octets_of v) t
    ContentsSay (Err e) t = NoWholeElement octets e

    -- contents that were read are closed
    module _ (answer : Result B Error) (q t : ReaderState) (answered : map_ok octets_of answer ≡ Ok (take n (drop m octets))) (left : q ≡ advanced_state inside n) where
      none_refused : {r : Result B Error} (e : Error) → Closes converts answer q (length octets) 0 r t → r ≡ Err e → ⊥
      none_refused e (forwarded f a r l) is = (let no : map_ok octets_of (Err f) ≡ Ok (take n (drop m octets)) = subst (λ x. map_ok octets_of x ≡ Ok (take n (drop m octets))) a answered in cc)
      none_refused e (left_over v f a less c r l) is = omega (arith, less, ap (λ (x : ReaderState). x.position) left, ap (λ (x : ReaderState). x.end) left)
      none_refused e (whole v a at r l) is = (let no : Ok v ≡ Err e = sym r ∙ is in cc)

      closed : (result : Result B Error) → m + n ≤ length octets → ClosesValue converts answer q (length octets) 0 false result t → ContentsSay result t
      closed result fits (part_refused e c is) = absurd (none_refused e c refl)
      closed result fits (without_eoc v c definite is) =
          let k = closes_ok c in
          let some : Ok (octets_of v) ≡ Ok (take n (drop m octets)) = subst (λ x. map_ok octets_of x ≡ Ok (take n (drop m octets))) k.0 answered in
          subst (λ r. ContentsSay r t) (sym is) record { fits = fits; borrowed = cc; leaves = k.2 ∙ ap (λ (x : ReaderState). record x { end = length octets; depth = 0 }) left }
      closed result fits (with_eoc v u c has_eoc g is) = absurd (cc)
      closed result fits (eoc_failed v u e f c has_eoc g reported is) = absurd (cc)

    -- the contents are read by a closure, or are truncated
    read : (result : Result B Error) (t : ReaderState) → ReadsWithClosure converts octets_of (definite_length n) (following octets m) result t → ContentsSay result t
    read result t (not_opened e f gives reported is) = subst (λ r. ContentsSay r t) (sym is) (subst (NoWholeElement octets) (sym (handed e f reported)) (not_entered e t gives))
    read result t (opened p answer q can there ran closes) =
        let k = borrowed (map_ok octets_of answer) q (subst (λ s. Gives (read_slice_outcome n) s (map_ok octets_of answer) q) there ran) in
        closed answer q t k.0 k.1 result can.0 closes

    is_definite : h.length ≡ definite_length n
    is_definite =
        let is : h.length ≡ definite_length (header_read next).count = ap (λ (x : Head). x.length) (header_read next).says in
        is ∙ ap definite_length (sym (ap number is))

    contents_say : (result : Result B Error) (t : ReaderState) → ReadsWithClosure converts octets_of (sans_eoc h.length) (following octets m) result t → ContentsSay result t
    contents_say result t h = read result t (subst (λ l. ReadsWithClosure converts octets_of l (following octets m) result t) (ap sans_eoc is_definite) h)

  -- an element with nothing after it is all of the octets
  whole_of : (contents : List ℕ) (t : ReaderState) → ContentsRead contents t → finish_answer t ≡ Ok tt → m + n ≡ length octets
  whole_of contents t c finished =
      let none_left = (finish_ok t finished).1 in
      omega (arith, c.fits, none_left, ap (λ (x : ReaderState). x.position) c.leaves, ap (λ (x : ReaderState). x.end) c.leaves)

  whole_octets : (contents : List ℕ) → contents ≡ take n (drop m octets) → m + n ≡ length octets → element_octets h.tag contents ≡ octets
  whole_octets contents is all =
      let r : HeaderRead octets h m = header_read next in
      let count : r.count ≡ n = sym (ap (λ (x : Head). number x.length) r.says) in
      let split : octets ≡ header_octets h.tag n ++ r.following = r.split ∙ ap (λ k. header_octets h.tag k ++ r.following) count in
      let passed : m ≡ length (header_octets h.tag n) = r.octets ∙ ap (λ k. length (header_octets h.tag k)) count in
      let left : drop m octets ≡ r.following = ap (λ k. drop k octets) passed ∙ ap (drop (length (header_octets h.tag n))) split ∙ drop_at (header_octets h.tag n) r.following (length (header_octets h.tag n)) refl in
      let long : length (drop m octets) ≡ n = omega (arith, length-drop m octets, all) in
      let contents_are : contents ≡ drop m octets = is ∙ take_all n (drop m octets) (omega (arith, long)) in
      ap (λ c. header_octets h.tag (length c) ++ c) contents_are ∙ ap (λ k. header_octets h.tag k ++ drop m octets) long ∙ ap (λ c. header_octets h.tag n ++ c) left ∙ sym split

  is_whole : m + n ≡ length octets → IsWholeElement octets
  is_whole all = record { countable = small; head = h; count = m; next = next; whole = all }

-- a reader of the octets consumes a header, and its contents
module _ (octets : List ℕ) (s u t : ReaderState) (h : Header) {B : Type 0} (octets_of : B → List ℕ) {converts : Error → Error → Type 0} (handed : (e f : Error) → converts e f → f ≡ e)
    (begun : s ≡ initial_state Der octets) (small : length octets < 2 ^ 32) (passed : Passes (HeaderNext h) s u) where
  before : HeadNext (head_of h) Der octets passed.octets
  before =
      let at_front : HeadNext (head_of h) Der (rest_of (initial_state Der octets)) passed.octets = subst (λ (x : ReaderState). HeadNext (head_of h) x.rules (rest_of x) passed.octets) begun passed.next in
      subst (λ o. HeadNext (head_of h) Der o passed.octets) (rest-beginning Der octets) at_front

  state_after_header : u ≡ following octets passed.octets
  state_after_header =
      let from_zero : 0 + passed.octets ≡ passed.octets = omega arith in
      passed.leaves ∙ ap (λ (x : ReaderState). advanced_state x passed.octets) begun ∙ ap (following octets) from_zero

  said : (result : Result B Error) → ReadsWithClosure converts octets_of (sans_eoc (head_of h).length) u result t → ContentsSay octets (head_of h) passed.octets small before octets_of handed result t
  said result reads_slices = contents_say octets (head_of h) passed.octets small before octets_of handed result t (subst (λ x. ReadsWithClosure converts octets_of (sans_eoc (head_of h).length) x result t) state_after_header reads_slices)

  -- the error of truncated contents, and that of octets that are left after contents
  pub contents_refused : (e : Error) → ReadsWithClosure converts octets_of (sans_eoc (head_of h).length) u (Err e) t → NoWholeElement octets e
  contents_refused e reads_slices = said (Err e) reads_slices

  pub finish_refused : (v : B) (e : Error) → ReadsWithClosure converts octets_of (sans_eoc (head_of h).length) u (Ok v) t → Err e ≡ finish_answer t → NoWholeElement octets e
  finish_refused v e reads_slices reported = not_finished octets (head_of h) passed.octets small before e (reported ∙ ap finish_answer (said (Ok v) reads_slices).leaves)

  -- an element that is all of the octets, and its encoding
  pub whole_read : (v : B) → ReadsWithClosure converts octets_of (sans_eoc (head_of h).length) u (Ok v) t → finish_answer t ≡ Ok tt → IsWholeElement octets × (element_octets (head_of h).tag (octets_of v) ≡ octets)
  whole_read v reads_slices finished =
      let c = said (Ok v) reads_slices in
      let all = whole_of octets (head_of h) passed.octets small before (octets_of v) t c finished in
      (is_whole octets (head_of h) passed.octets small before all, whole_octets octets (head_of h) passed.octets small before (octets_of v) c.borrowed all)

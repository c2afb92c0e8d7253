-- Lemmas on reading lists, from the results of their elements.
use Rattle.std.proofs.Common.{◌+◌, ◌<◌, ◌≤◌, ◌^◌, ◌∙◌, inl, inr, Bool, true, false, not, nat_le, leb-true, if◌then◌else◌, take, length, length-take, refl, sym, ap, arith, ◌≡◌, Result, Ok, Err, IfOk, subst, List, ℕ, [], ◌++◌}
use Rattle.der.specs.Prelude.{Head, Length, Error, EncodingRules, Der, Ber, ReaderState, rest_of, IsBefore}
use Rattle.der.specs.Prelude.{Gives, read_slice_outcome, number, definite_length, map_ok}
use Rattle.der.specs.Decode.{SucceedsOrLacks}
use Rattle.der.specs.DecodeValue.{EndsOrLacks, IsAtEnd, IsInside}
use Rattle.std.proofs.lemmas.List.{take_all}
use Rattle.der.specs.Outcome.{Outcome}
use Rattle.der.specs.ReaderState.{advanced_state, resumed_state, IsSound}
use Rattle.der.proofs.StateLemmas.{length-rest}
use Rattle.der_core.proofs.ContentsLemmas.{rest_inside}
use Rattle.der_asn1.specs.ListAnswers.{ContentsWalked, IsPart, ItemAnswer, ListRead, part_state, WalkAnswer, SetAnswer}
use Rattle.der_asn1.specs.SequenceOf.{IsAtItem}
use Rattle.der_asn1.proofs.SequenceOfLemmas.{lacks_merely}

-- what is known after n octets were read as a slice
pub record IsSliceRead (n : ℕ) (s t : ReaderState) (octets : List ℕ) : Type 0 where
  pub working : s.failed ≡ false
  pub fits : s.position + n ≤ s.end
  pub front : octets ≡ take n (rest_of s)
  pub leaves : t ≡ advanced_state s n

taken_branch : {A : Type 0} (f b : Bool) (x y z : A) → f ≡ false → b ≡ true → (if f then x else (if b then y else z)) ≡ y
taken_branch true b x y z e h = absurd (cc)
taken_branch false true x y z e h = refl
taken_branch false false x y z e h = absurd (cc)

pub slice_read : {n : ℕ} {s t : ReaderState} {octets : List ℕ} → Gives (read_slice_outcome n) s (Ok octets) t → IsSliceRead n s t octets
slice_read {n} {s} {t} {octets} g = go s.failed refl (nat_le (s.position + n) s.end) refl
  where
    go : (f : Bool) → s.failed ≡ f → (b : Bool) → nat_le (s.position + n) s.end ≡ b → IsSliceRead n s t octets
    go true e b h = absurd (let a = rw e at g.answered in cc)
    go false e false h = absurd (let a = rw (e, h) at g.answered in cc)
    go false e true h =
        let a : Ok octets ≡ Ok (take n (rest_of s)) = rw (e, h) at g.answered in
        let one : octets ≡ take n (rest_of s) = cc in
        record { working = e; fits = leb-true (s.position + n) s.end h; front = one; leaves = g.leaves ∙ ap (λ (o : Outcome (List ℕ)). o.after) (taken_branch s.failed (nat_le (s.position + n) s.end) _ _ _ e h) }

-- the length of a slice returned by a reader fits in a `Length`
pub slice_fits_length : (n : ℕ) (s t : ReaderState) (octets : List ℕ) → n < 2 ^ 32 → Gives (read_slice_outcome n) s (Ok octets) t → length octets < 2 ^ 32
slice_fits_length n s t octets few g = omega (arith, ap length (slice_read g).front, length-take n (rest_of s), few)

-- the part with these octets
module _ {n : ℕ} {s t : ReaderState} {octets : List ℕ} (read : IsSliceRead n s t octets) where
  pub ends_after : t.position ≡ s.position + n
  ends_after = ap (λ (x : ReaderState). x.position) read.leaves

  pub part_octets : rest_of (part_state s n) ≡ octets
  part_octets = rest_inside s n read.fits ∙ sym read.front

  -- a reader before the octets whose end is the position after them, outside all nested parts
  pub is_part : (u : ReaderState) (end : Length) → u ≡ s → end ≡ definite_length t.position → n < 2 ^ 32 → IsPart s n (resumed_state u (number end) 0) octets
  is_part u end same at few =
      let state : resumed_state u (number end) 0 ≡ part_state s n =
      subst (λ x. resumed_state x (number end) 0 ≡ part_state s n) (sym same) (ap (λ k. resumed_state s k 0) (ap number at ∙ ends_after)) in
      record {
        state = state;
        all = ap rest_of state ∙ part_octets;
        at = λ der. subst IsAtItem (sym state) (record { der = der; working = read.working; outside = refl });
        short = omega (arith, ap length read.front, length-take n (rest_of s), few);
      }

  pub part_in_input : IsSound s → t.position ≤ length s.input
  part_in_input sound = omega (arith, ends_after, read.fits, sound.in_input)

  pub part_is_whole : IsSound s → IsInside s n → IsAtEnd t × (octets ≡ rest_of s)
  part_is_whole sound inside =
      let sum : length (rest_of s) ≡ n = inside.sized in
      let end : t.end ≡ s.end = ap (λ (x : ReaderState). x.end) read.leaves in (
        record {
          at_end = omega (arith, ends_after, end, read.fits, sum, length-rest s sound);
          working = ap (λ (x : ReaderState). x.failed) read.leaves ∙ read.working;
        },
        read.front ∙ take_all n (rest_of s) (omega (arith, sum)),
      )

pub not_both : (b : Bool) → b ≡ true → not b ≡ true → ⊥
not_both true e h = absurd (let no : false ≡ true = h in cc)
not_both false e h = absurd (let no : false ≡ true = e in cc)

pub first_of : {A E : Type 0} (P Q : A → Type 0) (result : Result A E) → IfOk result (λ v. P v × Q v) → IfOk result P
first_of P Q (Ok v) h = h.0
first_of P Q (Err e) h = h

-- the rules are BER if they are not DER
pub is_ber : (r : EncodingRules) → (r ≡ Der → ⊥) → r ≡ Ber
is_ber Der other = absurd (other refl)
is_ber Ber other = refl

pub walked_inside : {E : Type 0} (inside : Result (Unit {0}) E → ReaderState → Type 0) (alone : Result (Unit {0}) E → List ℕ → Type 0) (s : ReaderState) (n : ℕ) (octets : List ℕ) (result : Result (Unit {0}) E)
    → s.rules ≡ Der → inside result (part_state s n) → ContentsWalked inside alone s.rules s n octets result
walked_inside inside alone s n octets result der w = subst (λ r. ContentsWalked inside alone r s n octets result) (sym der) w

-- the result of reading the contents alone
pub list_alone : {B E : Type 0} (converts : Error → E → Type 0) (inside : Result (Unit {0}) E → ReaderState → Type 0) (alone : Result (Unit {0}) E → List ℕ → Type 0) (octets_of : B → List ℕ) (h : Head) (s t : ReaderState) (octets : List ℕ) (result : Result B E)
    → Gives (read_slice_outcome (number h.length)) s (Ok octets) t → (s.rules ≡ Der → ⊥) → alone (map_ok (λ _. tt) result) octets → IfOk result (λ v. octets_of v ≡ octets)
    → ListRead converts inside alone octets_of h s result t
list_alone {B} {E} converts inside alone octets_of h s t octets (Ok v) g other w same =
    ListRead.list_read v (subst (λ x. Gives (read_slice_outcome (number h.length)) s (Ok x) t) (sym same) g)
    (subst (λ r. ContentsWalked inside alone r s (number h.length) (octets_of v) (Ok tt)) (sym (is_ber s.rules other)) (subst (alone (Ok tt)) (sym same) w)) refl
list_alone {B} {E} converts inside alone octets_of h s t octets (Err e) g other w same =
    ListRead.list_refused octets e g (subst (λ r. ContentsWalked inside alone r s (number h.length) octets (Err e)) (sym (is_ber s.rules other)) w) refl

-- contents whose items were read, or for which an allocation failed
pub ends_or_lacks : {A E : Type 0} (oom : E → Bool) (allocates : Bool) (result : Result A E) (t : ReaderState) → IsAtEnd t → SucceedsOrLacks oom allocates result → EndsOrLacks oom allocates result t
ends_or_lacks oom allocates result t at (inl ok) = inl (ok, at)
ends_or_lacks oom allocates result t at (inr lacks) = inr lacks

pub merely_succeeds : {A E P : Type 0} (oom : E → Bool) (allocates : Bool) (result : Result A E) → ∥ P ∥₁ → (P → SucceedsOrLacks oom allocates result) → SucceedsOrLacks oom allocates result
merely_succeeds oom allocates (Ok v) there f = inl refl
merely_succeeds oom allocates (Err e) there f = inr (lacks_merely oom allocates e there f)

-- a result for the elements after those read so far is a result for all
pub record IsWholeWalk {T E : Type 0} (converts : Error → E → Type 0)
    (reads : ReaderState → Result T E → ReaderState → Type 0) (first s : ReaderState) : Type 0 where
  pub whole : (result : Result (Unit {0}) E) → WalkAnswer converts reads result s
      → WalkAnswer converts reads result first

pub record IsWholeSet {T E : Type 0} (converts : Error → E → Type 0)
    (reads : ReaderState → Result T E → ReaderState → Type 0) (first : ReaderState) (next : List ℕ) (s : ReaderState) : Type 0 where
  pub whole : (result : Result (Unit {0}) E) → SetAnswer converts reads result next s
      → SetAnswer converts reads result [] first

module _ {T E : Type 0} {converts : Error → E → Type 0} {reads : ReaderState → Result T E → ReaderState → Type 0} where
  pub whole_begins : (first s : ReaderState) → s ≡ first → IsWholeWalk converts reads first s
  whole_begins first s e = record { whole = λ result w. subst (WalkAnswer converts reads result) e w }

  pub whole_on : (first s t : ReaderState) (v : T) → IsWholeWalk converts reads first s → (s.end ≡ s.position → ⊥) → ItemAnswer converts reads s (Ok v) t → IsWholeWalk converts reads first t
  whole_on first s t v w some item = record { whole = λ result rest. w.whole result (WalkAnswer.items_continue t v some item rest) }

  pub whole_set_begins : (first s : ReaderState) → s ≡ first → IsWholeSet converts reads first [] s
  whole_set_begins first s e = record { whole = λ result w. subst (SetAnswer converts reads result []) e w }

  pub whole_set_on : (first s t : ReaderState) (next element : List ℕ) (v : T) → IsWholeSet converts reads first next s → (s.end ≡ s.position → ⊥) → ItemAnswer converts reads s (Ok v) t → rest_of s ≡ element ++ rest_of t → (IsBefore element next → ⊥)
      → IsWholeSet converts reads first element t
  whole_set_on first s t next element v w some item split order = record { whole = λ result rest. w.whole result (SetAnswer.set_continues element t v some item split order rest) }

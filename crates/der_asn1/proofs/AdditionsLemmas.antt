-- Lemmas on reading the elements at an extension insertion point.
use mathlib.Core.Logic.{∥∥₁_elim}
use Rattle.std.proofs.Common.{◌≡◌, ℕ, ◌+◌, ◌-◌, ◌^◌, ◌<◌, arith, Bool, true, false, inl, inr, Ok, Err, Result, List, [], ◌∷◌, ◌++◌, length, take, refl, sym, ap, subst, ◌∙◌, append_assoc, length-append}
use Rattle.std.specs.Coded.{Coded-set, coded_ℕ}
use Rattle.std.proofs.lemmas.Grind.{not_there}
use Rattle.std.proofs.lemmas.List.{take_all, take_at}
use Rattle.der.specs.Prelude.{Error, Length, ReaderState, definite_length, number, rest_of}
use Rattle.der.specs.Decode.{Passes, SucceedsOrLacks}
use Rattle.der.specs.Outcome.{Gives}
use Rattle.der.specs.Reader.{read_slice_outcome}
use Rattle.der.specs.ReaderState.{advanced_state, IsSound}
use Rattle.der.proofs.StateLemmas.{length-rest}
use Rattle.der_asn1.specs.Additions.{AdditionsNext, AreAdditions, EndsUnknown, IsUnknown, any_octets, start_next}
use Rattle.der_asn1.specs.AnyElement.{AnyElementRead}
use Rattle.der_asn1.specs.AnyRef.{AnyRead, IsAny, any_contents}
use Rattle.der_asn1.specs.FollowLemmas.{starts_append}
use Rattle.der_asn1.specs.Item.{IsElement}
use Rattle.der_asn1.specs.ListAnswers.{IsPart, part_state}
use Rattle.der_asn1.specs.SequenceOf.{AllValid, joined_encodings}
use Rattle.der_asn1.specs.UnknownWalk.{AdditionsCounted, IsLeft, IsUnknownFront, UnknownCounted}
use Rattle.der_asn1.specs.declared.elements.any.AnyRef.{AnyRef}
use Rattle.der_asn1.proofs.ListAnswerLemmas.{slice_read}
use Rattle.der_asn1.proofs.SequenceOfLemmas.{same_front}
use Rattle.der_asn1.proofs.UnknownWalkLemmas.{not_ended}

never : {E : Type 0} (oom : E → Bool) {e : E} → SucceedsOrLacks {A = Length} oom false (Err e) → ⊥
never oom (inl h) = (let f : false ≡ true = h in cc)
never oom (inr h) = (let f : false ≡ true = h.0 in cc)

-- all octets that are left, as a part
pub is_left : {s p t part : ReaderState} {left : Length} {rest : List ℕ} → IsSound s → p ≡ s → left ≡ definite_length (s.end - s.position) → IsPart p (number left) part rest → Gives (read_slice_outcome (number left)) p (Ok rest) t → IsLeft s part rest
is_left {s} {p} {t} {part} {left} {rest} sound same size is g =
    let read = slice_read (subst (λ x. Gives (read_slice_outcome (number left)) x (Ok rest) t) same g) in
    record {
      working = read.working;
      state = is.state ∙ ap (λ x. part_state x (number left)) same ∙ ap (λ n. part_state s n) (ap number size);
      all = is.all;
      rest = read.front ∙ take_all (number left) (rest_of s) (omega (arith, ap number size, length-rest s sound));
      at = λ der. is.at (sym (ap (λ (x : ReaderState). x.rules) is.state) ∙ der);
      short = is.short;
    }

module _ (known : List (ℕ × ℕ)) where
  abbrev Front : List ℕ → List ℕ → Type 0
  Front = IsUnknownFront known IsAny any_octets

  abbrev All : List AnyRef → Type 0
  All vs = AllValid (IsUnknown known IsAny any_octets) vs

  element : (v : AnyRef) → IsElement (any_octets v)
  element v = record { tag = v.tag; contents = any_contents v; whole = refl }

  -- elements do not follow where elements have ended
  none_more : (w : AnyRef) (ws : List AnyRef) (x y : List ℕ) → All (w ∷ ws) → x ≡ joined_encodings any_octets (w ∷ ws) ++ y → EndsUnknown known x → ⊥
  none_more w ws x y are e ends =
      let start = starts_append (any_octets w) (joined_encodings any_octets ws ++ y) are.0.1 in
      not_ended known (start_next start) start.among (subst (EndsUnknown known) (e ∙ append_assoc (any_octets w) (joined_encodings any_octets ws) y) ends)

  same_elements : (vs ws : List AnyRef) (x y : List ℕ) → All vs → All ws → joined_encodings any_octets vs ++ x ≡ joined_encodings any_octets ws ++ y → EndsUnknown known x → EndsUnknown known y → joined_encodings any_octets vs ≡ joined_encodings any_octets ws
  same_elements [] [] x y are those e ends_x ends_y = refl
  same_elements [] (w ∷ ws) x y are those e ends_x ends_y = absurd (none_more w ws x y those e ends_x)
  same_elements (v ∷ vs) [] x y are those e ends_x ends_y = absurd (none_more v vs y x are (sym e) ends_y)
  same_elements (v ∷ vs) (w ∷ ws) x y are those e ends_x ends_y =
      let a = joined_encodings any_octets vs in
      let b = joined_encodings any_octets ws in
      let front = same_front (any_octets v) (any_octets w) (a ++ x) (b ++ y) (element v) (element w)
      (sym (append_assoc (any_octets v) a x) ∙ e ∙ append_assoc (any_octets w) b y) in
      ap (λ z. z ++ a) front.0 ∙ ap (λ z. any_octets w ++ z) (same_elements vs ws x y are.1 those.1 front.1 ends_x ends_y)

  -- octets have one such front
  pub one_front : {octets a b : List ℕ} → Front octets a → Front octets b → a ≡ b
  one_front {octets} {a} {b} f g =
      f.are.joined ∙ same_elements f.are.items g.are.items f.following g.following f.are.are_valid g.are.are_valid
      (ap (λ z. z ++ f.following) (sym f.are.joined) ∙ sym f.split ∙ g.split ∙ ap (λ z. z ++ g.following) g.are.joined) f.ends g.ends ∙ sym g.are.joined

  module _ {B : Type 0} (octets_of : B → List ℕ) where
    -- the value that is next is the front
    pub front_of : (b : B) (s : ReaderState) {m : ℕ} → AdditionsNext known octets_of b s.rules (rest_of s) m → AreAdditions known (octets_of b) → Front (rest_of s) (octets_of b)
    front_of b s next are = record { following = next.following; are = are; split = next.split; ends = next.ends }

    pub front_refused : (b : B) (s : ReaderState) {m : ℕ} {E : Type 0} (oom : E → Bool) {e : E} → AdditionsNext known octets_of b s.rules (rest_of s) m
        → ((front : List ℕ) → Front (rest_of s) front → SucceedsOrLacks {A = Length} oom false (Err e)) → ⊥
    front_refused b s oom next owed = not_there next.are (λ are. never oom (owed (octets_of b) (front_of b s next are)))

    -- the slice of counted octets is the front
    module _ {s t : ReaderState} {octets : List ℕ} (n : Length) (front : List ℕ) (f : Front (rest_of s) front) (count : number n ≡ length front) (g : Gives (read_slice_outcome (number n)) s (Ok octets) t) where
      pub slice_is_front : octets ≡ front
      slice_is_front = (slice_read g).front ∙ ap (λ x. take (number n) x) f.split ∙ take_at front f.following (number n) (sym count)

      pub slice_short : length (rest_of s) < 2 ^ 32 → length octets < 2 ^ 32
      slice_short few = omega (arith, few, ap length f.split, length-append front f.following, ap length slice_is_front)

      pub slice_passed : (b : B) → octets_of b ≡ octets → length octets < 2 ^ 32 → Passes (AdditionsNext known octets_of b) s t
      slice_passed b same few =
          let whole = same ∙ slice_is_front in
          let read = slice_read g in
          record {
            octets = number n;
            working = read.working;
            next = record {
              are = ∣ subst (AreAdditions known) (sym whole) f.are ∣₁;
              short = subst (λ x. length x < 2 ^ 32) (sym same) few;
              following = f.following;
              split = f.split ∙ ap (λ x. x ++ f.following) (sym whole);
              whole = count ∙ ap length (sym whole);
              ends = f.ends;
            };
            there = omega (arith, count, ap length f.split, length-append front f.following);
            leaves = read.leaves;
          }

      pub slice_there : (b : B) {m : ℕ} → AdditionsNext known octets_of b s.rules (rest_of s) m → t ≡ advanced_state s m
      slice_there b {m} next =
          (slice_read g).leaves ∙ ap (advanced_state s)
          (∥∥₁_elim next.are (Coded-set coded_ℕ (number n) m) (λ are. count ∙ ap length (one_front f (front_of b s next are)) ∙ sym next.whole))

  -- counted in the part that is left
  pub counted_in : {s part : ReaderState} {rest : List ℕ} (result : Result (Unit {0}) Error) → IsLeft s part rest
      → UnknownCounted known (λ e f. f ≡ e) (AnyElementRead (λ e f. f ≡ e) AnyRead) (AnyElementRead (λ e f. f ≡ e) AnyRead) result part.rules part rest → AdditionsCounted known s result
  counted_in {s} {part} {rest} result left w =
      subst (λ x. UnknownCounted known (λ e f. f ≡ e) (AnyElementRead (λ e f. f ≡ e) AnyRead) (AnyElementRead (λ e f. f ≡ e) AnyRead) result s.rules (part_state s (s.end - s.position)) x) left.rest
      (subst (λ x. UnknownCounted known (λ e f. f ≡ e) (AnyElementRead (λ e f. f ≡ e) AnyRead) (AnyElementRead (λ e f. f ≡ e) AnyRead) result x.rules x rest) left.state w)

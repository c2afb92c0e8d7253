-- Lemmas on an iterator over segments.
use mathlib.Core.Logic.{∥∥₁_elim, ∥∥₁_map}
use Rattle.std.proofs.Common.{◌≡◌, ℕ, ◌-◌, ◌<◌, Bool, true, false, Result, Ok, Err, Option, Some, None, MatchOption, IsOkAnd, OnOk, List, [], ◌∷◌, length, refl, sym, ap, ◌∙◌, subst, append-nil, arith}
use Rattle.std.proofs.lemmas.List.{take_all}
use Rattle.std.specs.Iterator.{MakesProgress, item_count}
use Rattle.der_core.proofs.StateLemmas.{length-rest, rest_after}
use Rattle.der_core.specs.Outcome.{Meets}
use Rattle.der_core.specs.Reader.{read_slice_outcome}
use Rattle.der_core.specs.ReaderState.{ReaderState, IsSound, advanced_state, rest_of}
use Rattle.der.proofs.RefusedSegmentLemmas.{slice_there}
use Rattle.der.specs.Prelude.{Error, Length, definite_length, number}
use Rattle.der_asn1.proofs.ListAnswerLemmas.{slice_read}
use Rattle.der_segments.specs.Pieces.{InPieces, nothing, ArePieces, HasPieces}
use Rattle.der_segments.specs.PieceLemmas.{pieces_prop, pieces_in, pieces_in_are}
use Rattle.der_segments.specs.Walk.{GivesPiece}

-- all octets that are left are read
pub record WholeRead (s t : ReaderState) (r : Result (List ℕ) Error) : Type 0 where
  pub answered : r ≡ Ok (rest_of s)
  pub left : rest_of t ≡ []
  pub working : t.failed ≡ false

pub whole_read : {s t : ReaderState} → IsSound s → s.failed ≡ false → (l : Length) → l ≡ definite_length (s.end - s.position) → (r : Result (List ℕ) Error) → Meets true (read_slice_outcome (number l)) s r t → WholeRead s t r
whole_read {s} {t} sound working l is (Err e) g = absurd (slice_there (number l) s t e working (omega (arith, ap number is, sound.ordered)) (g refl))
whole_read {s} {t} sound working l is (Ok x) g =
    let r = slice_read g in
    let n : number l ≡ length (rest_of s) = ap number is ∙ sym (length-rest s sound) in
    let all : x ≡ rest_of s = r.front ∙ take_all (number l) (rest_of s) (omega (arith, n)) in
    let at : t ≡ advanced_state s (length (rest_of s)) = r.leaves ∙ ap (advanced_state s) n in
    record { answered = ap Ok all; left = ap rest_of at ∙ rest_after s (rest_of s) [] (sym (append-nil (rest_of s))); working = ap (λ (y : ReaderState). y.failed) at ∙ working }

-- nothing left has no pieces
pub none_left : {octets : List ℕ} → octets ≡ [] → HasPieces true octets
none_left e = record { pieces = []; are_pieces = subst (λ x. InPieces x []) (sym e) nothing }

-- the piece of primitive contents was given
pub whole_given : {constructed : Bool} {octets more : List ℕ} (l : ∥ HasPieces constructed octets ∥₁) (k : ∥ HasPieces true more ∥₁) (piece : List ℕ) → constructed ≡ false → piece ≡ octets → more ≡ [] → (pieces_in l).0 ≡ piece ∷ (pieces_in k).0
whole_given {constructed} {octets} {more} l k piece form same none =
    let before : (pieces_in l).0 ≡ octets ∷ [] = pieces_in_are l (subst (λ b. ArePieces b octets (octets ∷ [])) (sym form) refl) in
    let after : (pieces_in k).0 ≡ [] = pieces_in_are k (subst (λ x. InPieces x []) (sym none) nothing) in
    before ∙ ap (λ x. x ∷ []) (sym same) ∙ ap (λ x. piece ∷ x) (sym after)

-- what a step over segments gives
abbrev pub Stepped : {A : Type 0} → (A → List ℕ) → List (List ℕ) → Option A → ReaderState → Type 0
Stepped now pieces r t = MatchOption r ((pieces ≡ []) × InPieces (rest_of t) []) (λ x. GivesPiece pieces (now x) t)

stepped_left : {A : Type 0} (now : A → List ℕ) (r : Option A) (pieces : List (List ℕ)) (t : ReaderState) → Stepped now pieces r t → HasPieces true (rest_of t)
stepped_left now None pieces t h = record { pieces = []; are_pieces = h.1 }
stepped_left now (Some x) pieces t h = record { pieces = h.0; are_pieces = h.2 }

-- pieces are left after a step
pub left_after : {A : Type 0} (now : A → List ℕ) (r : Option A) {constructed : Bool} {octets : List ℕ} (t : ReaderState) → constructed ≡ true → ∥ HasPieces constructed octets ∥₁
    → ((pieces : List (List ℕ)) → InPieces octets pieces → Stepped now pieces r t) → ∥ HasPieces constructed (rest_of t) ∥₁
left_after now r {constructed} {octets} t form l step =
    subst (λ b. ∥ HasPieces b (rest_of t) ∥₁) (sym form) (∥∥₁_map (subst (λ b. ∥ HasPieces b octets ∥₁) form l) (λ h. stepped_left now r h.pieces t (step h.pieces h.are_pieces)))

-- the pieces that are left before a step and after it
pub steps_given : {A : Type 0} (now : A → List ℕ) (r : Option A) {constructed : Bool} {octets : List ℕ} (t : ReaderState) (l : ∥ HasPieces constructed octets ∥₁) (k : ∥ HasPieces constructed (rest_of t) ∥₁) → constructed ≡ true
    → ((pieces : List (List ℕ)) → InPieces octets pieces → Stepped now pieces r t)
    → MatchOption r (((pieces_in l).0 ≡ []) × ((pieces_in k).0 ≡ [])) (λ x. (pieces_in l).0 ≡ now x ∷ (pieces_in k).0)
steps_given now None {constructed} {octets} t l k form step = (
  ∥∥₁_elim (pieces_in l).1 (pieces_prop (pieces_in l).0 []) (λ a. (step (pieces_in l).0 (subst (λ b. ArePieces b octets (pieces_in l).0) form a)).0),
  ∥∥₁_elim (pieces_in l).1 (pieces_prop (pieces_in k).0 []) (λ a. pieces_in_are k (subst (λ b. ArePieces b (rest_of t) []) (sym form) (step (pieces_in l).0 (subst (λ b. ArePieces b octets (pieces_in l).0) form a)).1)),
)
steps_given now (Some x) {constructed} {octets} t l k form step =
    ∥∥₁_elim (pieces_in l).1 (pieces_prop (pieces_in l).0 (now x ∷ (pieces_in k).0))
    (λ a. (let g = step (pieces_in l).0 (subst (λ b. ArePieces b octets (pieces_in l).0) form a) in
    let after : (pieces_in k).0 ≡ g.0 = pieces_in_are k (subst (λ b. ArePieces b (rest_of t) g.0) (sym form) g.2) in
    g.1 ∙ ap (λ y. now x ∷ y) (sym after)))

-- the pieces that are left are segments, so a step does not fail
pub step_succeeds : {E B : Type 0} {constructed : Bool} {octets : List ℕ} (e : E) (P : List (List ℕ) → B → Type 0) → constructed ≡ true → ∥ HasPieces constructed octets ∥₁
    → ((pieces : List (List ℕ)) → InPieces octets pieces → IsOkAnd {T = B} (Err e) (P pieces)) → ⊥
step_succeeds {octets = octets} e P form l gives = ∥∥₁_elim (subst (λ b. ∥ HasPieces b octets ∥₁) form l) (λ x y. absurd x) (λ h. gives h.pieces h.are_pieces)

pub next_left : {A E : Type 0} (now : A → List ℕ) (result : Result (Option A) E) {constructed : Bool} {octets : List ℕ} (t : ReaderState) → constructed ≡ true → ∥ HasPieces constructed octets ∥₁ → OnOk result (t.failed ≡ false)
    → ((pieces : List (List ℕ)) → InPieces octets pieces → IsOkAnd result (λ r. Stepped now pieces r t)) → (t.failed ≡ false) × ∥ HasPieces constructed (rest_of t) ∥₁
next_left now (Ok r) t form l working gives = (working, left_after now r t form l gives)
next_left now (Err e) t form l working gives = absurd (step_succeeds e (λ pieces r. Stepped now pieces r t) form l gives)

-- a step that gives an item leaves fewer
pub progress : {S A : Type 0} (can : S → Type 0) → ((s : S) → can s) → (left : S → List (List ℕ)) (now : A → List ℕ) (r : Option A) (s t : S)
    → MatchOption r ((left s ≡ []) × (left t ≡ [])) (λ x. left s ≡ now x ∷ left t) → MakesProgress can (item_count left) s r t
progress can always left now None s t h = record { on = λ _. tt; keeps = tt; rests = λ _. tt }
progress can always left now (Some x) s t h = record { on = λ _. (always t, tt, subst (λ l. length (left t) < length l) (sym h) (omega arith)); keeps = always t; rests = λ _. tt }

-- Lemmas on decoding the contents of an element of any tag.
use Rattle.std.proofs.Common.{◌≡◌, ℕ, ◌+◌, ◌≤◌, ◌||◌, inl, inr, Bool, true, false, Result, Ok, List, length, refl, sym, ap, ◌∙◌, subst, arith}
use Rattle.der.specs.Decode.{SucceedsOrLacks}
use Rattle.der.specs.DecodeValue.{IsInside, ContentsNext, EndsOrLacks}
use Rattle.der.specs.HeaderGrammar.{head}
use Rattle.der.specs.Prelude.{EncodingRules, Gives, Head, Length, ReaderState, Tag, definite_length, is_indefinite, number, rest_of}
use Rattle.der.specs.Reader.{enter_nested_outcome, finish_answer}
use Rattle.der.specs.ReaderState.{initial_state, nested_state}
use Rattle.der.specs.Tag.{label}
use Rattle.der.specs.Lawful.{definite_head}
use Rattle.der.proofs.DecodeLemmas.{rest-beginning}
use Rattle.der.proofs.NestedLemmas.{enter_ok}
use Rattle.der.proofs.WholeLemmas.{finishes}
use Rattle.der_asn1.specs.AnyRef.{any_contents}
use Rattle.der_asn1.specs.DecodesAs.{any_head, inside_state}
use Rattle.der_asn1.specs.declared.elements.any.AnyRef.{AnyRef}

-- the header that is made has the constructed bit of its tag
pub made_head : (t : Tag) (n : ℕ) {l : Length} {h : Head} → l ≡ definite_length n → h ≡ head t l ((label t).constructed || is_indefinite l) → h ≡ definite_head t n
made_head t n {l} {h} definite made = made ∙ ap (λ x. head t x ((label t).constructed || is_indefinite x)) definite ∙ bit (label t).constructed
  where
    bit : (b : Bool) → head t (definite_length n) (b || false) ≡ head t (definite_length n) b
    bit true = refl
    bit false = refl

-- all of the octets are entered
pub inside_all : (rules : EncodingRules) (octets : List ℕ) {s t : ReaderState} {l : Length} {end depth : ℕ} → s ≡ initial_state rules octets → l ≡ definite_length s.end
    → Gives (enter_nested_outcome (number l)) s (Ok (end, depth)) t → t ≡ inside_state rules octets
inside_all rules octets {s} {t} {l} begun counted entered =
    let size : number l ≡ length octets = ap number counted ∙ ap (λ (x : ReaderState). x.end) begun in
    (enter_ok entered).state ∙ ap (λ n. nested_state s n) size ∙ ap (λ x. nested_state x (length octets)) begun

pub rest_inside_all : (rules : EncodingRules) (octets : List ℕ) → rest_of (inside_state rules octets) ≡ octets
rest_inside_all rules octets =
    let end : 0 + length octets ≡ length octets = omega arith in
    ap (λ n. rest_of (record (initial_state rules octets) { end = n; depth = 1 })) end ∙ rest-beginning rules octets

-- a reader that entered all of the octets is inside them
pub inside_is_next : (rules : EncodingRules) (octets : List ℕ) → IsInside (inside_state rules octets) (length octets)
inside_is_next rules octets = record { working = refl; nested = omega arith; sized = ap length (rest_inside_all rules octets) }

pub ends_so_succeeds : {A E : Type 0} (oom : E → Bool) (allocates : Bool) (r : Result A E) (t : ReaderState) → EndsOrLacks oom allocates r t → SucceedsOrLacks oom allocates r
ends_so_succeeds oom allocates r t (inl h) = inl h.0
ends_so_succeeds oom allocates r t (inr h) = inr h

-- a value that was read to its end is finished
pub ended_so_finishes : {A E : Type 0} (oom : E → Bool) (allocates : Bool) (v : A) (t : ReaderState) → EndsOrLacks {E = E} oom allocates (Ok v) t → finish_answer t ≡ Ok tt
ended_so_finishes oom allocates v t (inl h) = finishes t h.1.working (omega (arith, h.1.at_end))
ended_so_finishes oom allocates v t (inr h) = absurd (h.1)

-- a reader inside the contents of an element of any tag, and the header that was made for them
module _ (any : AnyRef) (rules : EncodingRules) {s : ReaderState} {h : Head} (inside : s ≡ inside_state rules (any_contents any)) (made : h ≡ any_head any) where
  pub contents_ready : {A : Type 0} (takes : A → EncodingRules → Head → List ℕ → Type 0) (v : A) → takes v rules (any_head any) (any_contents any) → ContentsNext (takes v) h s
  contents_ready takes v taken =
      subst (λ x. ContentsNext (takes v) x s) (sym made)
      (subst (ContentsNext (takes v) (any_head any)) (sym inside)
      (record { is_next = inside_is_next rules (any_contents any); taken = subst (takes v rules (any_head any)) (sym (rest_inside_all rules (any_contents any))) taken }))

  pub answers_inside : {A E : Type 0} (answers : Head → ReaderState → Result A E → ReaderState → Type 0) {a : Result A E} {t : ReaderState} → answers h s a t → answers (any_head any) (inside_state rules (any_contents any)) a t
  answers_inside answers {a} {t} answered = subst (λ x. answers (any_head any) x a t) inside (subst (λ x. answers x s a t) made answered)

  pub levels_inside_all : (levels : EncodingRules → ℕ) → levels rules ≤ 63 → s.depth + levels s.rules ≤ 64
  levels_inside_all levels few = (let depth : s.depth ≡ 1 = ap (λ (x : ReaderState). x.depth) inside in let same : levels s.rules ≡ levels rules = ap (λ (x : ReaderState). levels x.rules) inside in omega (arith, depth, same, few))

-- Entering and leaving nested parts.
use Rattle.std.proofs.Common.{◌≡◌, ◌≢◌, ℕ, ◌+◌, ◌-◌, ◌^◌, ◌≤◌, Bool, true, false, IsTrue, Result, Ok, Err, length, nat_lt, refl, sym, ap, ◌∙◌, subst, arith}
use Rattle.der_base.specs.Error.{error_at}
use Rattle.der_base.specs.Length.{number, is_indefinite, definite_length}
use Rattle.der_base.specs.declared.length.Length.{Length}
use Rattle.der_base.specs.declared.error.Error.{Error}
use Rattle.der_base.specs.declared.error.ErrorKind.TheVariants.{TrailingData}
use Rattle.der_core.specs.ReaderState.{ReaderState, reader_position, nested_state, resumed_state, stopped_state, IsSound, Same}
use Rattle.der_core.specs.Outcome.{Gives}
use Rattle.der_core.proofs.StateLemmas.{same_trans}
use Rattle.der_core.specs.Reader.{enter_nested_outcome}
use Rattle.der_core.specs.Nested.{CanNest, CanLeave, Closes, left_over, whole, NestedAnswer, entered, ClosesValue, ValueAnswer, opened, not_opened}

-- the result of entering: the nested part, and what leaving it restores
pub record Entered (s : ReaderState) (n : ℕ) (e d : ℕ) (t : ReaderState) : Type 0 where
  pub can : CanNest s n
  pub state : t ≡ nested_state s n
  pub outer_end : e ≡ s.end
  pub outer_depth : d ≡ s.depth

pub enter_ok : {s t : ReaderState} {n end depth : ℕ} → Gives (enter_nested_outcome n) s (Ok (end, depth)) t → Entered s n end depth t
enter_ok {s} {t} {n} {end = e} {depth = d} h = go (nat_lt (s.position + n) (2 ^ 32)) (nat_lt s.end (s.position + n)) (nat_lt s.depth 64) refl refl refl
  where
    go : (x y z : Bool) → nat_lt (s.position + n) (2 ^ 32) ≡ x → nat_lt s.end (s.position + n) ≡ y → nat_lt s.depth 64 ≡ z → Entered s n e d t
    go false y z p q r = absurd (let a = h.answered in grind arith)
    go true true z p q r = absurd (let a = h.answered in grind arith)
    go true false false p q r = absurd (let a = h.answered in grind arith)
    go true false true p q r =
        let a = h.answered in
        let l = h.leaves in
        record { can = (grind arith, grind arith); state = grind arith; outer_end = grind arith; outer_depth = grind arith }

pub entered_at : {s t : ReaderState} {of l : Length} {end depth : ℕ} → l ≡ of → Entered s (number l) end depth t → Entered s (number of) end depth t
entered_at {s} {t} {end = e} {depth = d} same h = subst (λ x. Entered s (number x) e d t) same h

-- a nested part in which a closure leaves the same reader can be left
pub can_leave : {s t u : ReaderState} {n end depth : ℕ} → Entered s n end depth t → IsSound s → Same t u → CanLeave u end depth
can_leave {s} {t} {u} {n} {end = e} {depth = d} h sound same =
    let limit : t.end ≡ s.position + n = ap (λ (x : ReaderState). x.end) h.state in
    let input : t.input ≡ s.input = ap (λ (x : ReaderState). x.input) h.state in
    record {
      passed = omega (arith, same.within, same.end, h.can.0, h.outer_end, limit);
      in_input = omega (arith, sound.in_input, h.outer_end, ap length same.input, ap length input);
      shallow = omega (arith, sound.shallow, h.outer_depth);
    }

-- the reader after a nested part is the same
pub same_after_part : {s t u : ReaderState} {n end depth : ℕ} → Entered s n end depth t → Same t u → Same s (resumed_state u end depth)
same_after_part {s} {t} {u} {n} {end = e} {depth = d} h same =
    let state = h.state in
    let limit : t.end ≡ s.position + n = ap (λ (x : ReaderState). x.end) h.state in
    record {
      input = same.input ∙ ap (λ (x : ReaderState). x.input) h.state;
      rules = same.rules ∙ ap (λ (x : ReaderState). x.rules) h.state;
      end = h.outer_end;
      depth = h.outer_depth;
      keeps_failure = same.keeps_failure ∙ ap (λ (x : ReaderState). x.keeps_failure) h.state;
      forward = omega (arith, same.forward, ap (λ (x : ReaderState). x.position) h.state);
      within = omega (arith, same.within, same.end, h.can.0, h.outer_end, limit);
      failed = λ f. same.failed (subst IsTrue (sym (ap (λ (x : ReaderState). x.failed) h.state)) f);
    }

-- closing a nested part leaves the same reader
pub same_closed : {s t u v : ReaderState} {n end depth : ℕ} → Entered s n end depth t → Same t u → Same (resumed_state u end depth) v → Same s v
same_closed way same closed = same_trans (same_after_part way same) closed

-- the error for octets that were left unread, as the code constructs it
module _ {T E : Type 0} {converts : Error → E → Type 0} {answer result : Result T E} (s u : ReaderState) {end depth : ℕ} (zero : Bool) (left : Length) (v : T) where
  pub close_left_over : (t : ReaderState) (e : E) (x : Error) (position : Length) → answer ≡ Ok v → u ≡ resumed_state s end depth → left ≡ definite_length (s.end - s.position)
      → (number left ≡ 0 → IsTrue zero) → zero ≡ false → position ≡ reader_position u → x ≡ error_at (TrailingData position left) (reader_position u) → t ≡ stopped_state u u.position → converts x e
      → result ≡ Err e → Closes converts answer s end depth result t
  close_left_over t e x position is leaves l f z p reported stopped_at converted q =
      let here_is : reader_position u ≡ reader_position s = ap reader_position leaves in
      let some : s.end - s.position ≢ 0 = λ none. (let w : false ≡ true = sym z ∙ f (ap number l ∙ none) in cc) in
      let same : x ≡ error_at (TrailingData (reader_position s) (definite_length (s.end - s.position))) (reader_position s) =
      reported ∙ ap (λ k. error_at (TrailingData k left) (reader_position u)) (p ∙ here_is) ∙ ap (λ k. error_at (TrailingData (reader_position s) k) (reader_position u)) l
      ∙ ap (λ k. error_at (TrailingData (reader_position s) (definite_length (s.end - s.position))) k) here_is in
      left_over v e is (omega arith) (subst (λ y. converts y e) same converted) q (stopped_at ∙ ap (λ x. stopped_state x x.position) leaves)

  pub close_whole : s.position ≤ s.end → answer ≡ Ok v → u ≡ resumed_state s end depth → left ≡ definite_length (s.end - s.position) → (IsTrue zero → number left ≡ 0) → zero ≡ true
      → result ≡ Ok v → Closes converts answer s end depth result u
  close_whole ordered is leaves l f z q =
      let none : s.end - s.position ≡ 0 = sym (ap number l) ∙ f z in
      whole v is (omega arith) q leaves

-- the outcome of reading a nested part by a closure
pub nested_entered : {P Q T E : Type 0} {converts : Error → E → Type 0} {post : P → Result T E → Q → Type 0} {before : P → ReaderState} {after : Q → ReaderState} (s : ReaderState) {n : ℕ} {end depth : ℕ}
    {inner t : ReaderState} (p : P) (answer : Result T E) (q : Q) (closed result : Result T E) → Entered s n end depth inner → before p ≡ inner → post p answer q
    → Closes converts answer (after q) end depth closed t → result ≡ closed → NestedAnswer converts post before after n s result t
nested_entered {converts = converts} {post = post} {before = before} {after = after} s {n} {depth = depth} {t = t} p answer q closed result way reader_position ran closes e =
    let same_end = subst (λ x. Closes converts answer (after q) x depth closed t) way.outer_end closes in
    let same_depth = subst (λ x. Closes converts answer (after q) s.end x closed t) way.outer_depth same_end in
    entered p answer q way.can (reader_position ∙ way.state) ran (subst (λ r. Closes converts answer (after q) s.end s.depth r t) (sym e) same_depth)

-- the outcome of reading the contents of a length by a closure
pub value_opened : {P Q T E : Type 0} {converts : Error → E → Type 0} {post : P → Result T E → Q → Type 0} {before : P → ReaderState} {after : Q → ReaderState} (s : ReaderState) {end depth : ℕ}
    {inner t : ReaderState} (of l : Length) (p : P) (answer : Result T E) (q : Q) (result : Result T E) → Entered s (number l) end depth inner → before p ≡ inner → post p answer q
    → l ≡ of → ClosesValue converts answer (after q) end depth (is_indefinite l) result t → ValueAnswer converts post before after of s result t
value_opened {converts = converts} {after = after} s {depth = depth} {t = t} of l p answer q result way there ran e closes =
    let same_end = subst (λ x. ClosesValue converts answer (after q) x depth (is_indefinite l) result t) way.outer_end closes in
    let same_depth = subst (λ x. ClosesValue converts answer (after q) s.end x (is_indefinite l) result t) way.outer_depth same_end in
    opened p answer q (subst (λ x. CanNest s (number x)) e way.can) (there ∙ way.state ∙ ap (λ x. nested_state s (number x)) e) ran
    (subst (λ x. ClosesValue converts answer (after q) s.end s.depth (is_indefinite x) result t) e same_depth)

pub value_not_opened : {P Q T E : Type 0} {converts : Error → E → Type 0} {post : P → Result T E → Q → Type 0} {before : P → ReaderState} {after : Q → ReaderState} (s t : ReaderState) (of l : Length) (e : Error)
    (f : E) → l ≡ of → Gives (enter_nested_outcome (number l)) s (Err e) t → converts e f → ValueAnswer converts post before after of s (Err f) t
value_not_opened s t of l e f same h reported = not_opened e f (subst (λ x. Gives (enter_nested_outcome (number x)) s (Err e) t) same h) reported refl

-- transport along an equal length
pub value_at : {P Q T E : Type 0} {converts : Error → E → Type 0} {post : P → Result T E → Q → Type 0} {before : P → ReaderState} {after : Q → ReaderState} {s t : ReaderState} {of l : Length}
    {result : Result T E} → l ≡ of → ValueAnswer converts post before after l s result t → ValueAnswer converts post before after of s result t
value_at {converts = converts} {post = post} {before = before} {after = after} {s = s} {t = t} {result = result} e h = subst (λ x. ValueAnswer converts post before after x s result t) e h

-- Contents that a closure consumed, and that were closed.
use Rattle.std.proofs.Common.{◌≡◌, ℕ, zero, suc, ◌+◌, ◌-◌, ◌≤◌, Bool, true, false, Result, Ok, List, [], ◌∷◌, length, take, drop, refl, sym, ap, ◌∙◌, subst, take-take, length-take-le, arith}
use Rattle.std.proofs.lemmas.List.{take-append-drop}
use Rattle.der_base.specs.Length.{number, is_indefinite}
use Rattle.der_base.specs.declared.length.Length.{Length}
use Rattle.der_base.specs.declared.error.Error.{Error}
use Rattle.der_core.specs.ReaderState.{ReaderState, rest_of, advanced_state, nested_state, resumed_state, Same}
use Rattle.der_core.specs.Outcome.{Gives}
use Rattle.der_core.specs.Reader.{eoc_outcome, read_eoc_outcome}
use Rattle.der_core.specs.Nested.{CanNest, Closes, forwarded, left_over, whole, ClosesValue, part_refused, without_eoc, with_eoc, eoc_failed, ValueAnswer, not_opened, opened}
use Rattle.der_core.proofs.StateLemmas.{rest_after}

-- the remaining octets after n octets were consumed
pub rest_advanced : (s : ReaderState) (n : ℕ) → n ≤ length (rest_of s) → rest_of (advanced_state s n) ≡ drop n (rest_of s)
rest_advanced s n h =
    let long = length-take-le n (rest_of s) h in
    ap (λ k. rest_of (advanced_state s k)) (sym long) ∙ rest_after s (take n (rest_of s)) (drop n (rest_of s)) (sym (take-append-drop n (rest_of s)))

-- inside a nested part the remaining octets are the next n octets
pub rest_inside : (s : ReaderState) (n : ℕ) → s.position + n ≤ s.end → rest_of (nested_state s n) ≡ take n (rest_of s)
rest_inside s n h =
    let e : (s.position + n) - s.position ≡ n = omega arith in
    let l : n ≤ s.end - s.position = omega arith in
    ap (λ k. take k (drop s.position s.input)) e ∙ sym (take-take n (s.end - s.position) (drop s.position s.input) l)

same_state : (a b : ReaderState) → a.input ≡ b.input → a.rules ≡ b.rules → a.end ≡ b.end → a.position ≡ b.position → a.depth ≡ b.depth → a.failed ≡ b.failed → a.keeps_failure ≡ b.keeps_failure → a ≡ b
same_state a b i r e p d f m =
    ap (λ x. record a { input = x }) i ∙ ap (λ x. record a { input = b.input; rules = x }) r ∙ ap (λ x. record a { input = b.input; rules = b.rules; end = x }) e
    ∙ ap (λ x. record a { input = b.input; rules = b.rules; end = b.end; position = x }) p
    ∙ ap (λ x. record a { input = b.input; rules = b.rules; end = b.end; position = b.position; depth = x }) d
    ∙ ap (λ x. record b { failed = x; keeps_failure = a.keeps_failure }) f
    ∙ ap (λ x. record b { keeps_failure = x }) m

-- a nested part that was read to its end is consumed
pub part_passed : (s q : ReaderState) (n : ℕ) → Same (nested_state s n) q → q.position ≡ q.end → q.failed ≡ s.failed → resumed_state q s.end s.depth ≡ advanced_state s n
part_passed s q n same at_end failed = same_state (resumed_state q s.end s.depth) (advanced_state s n) same.input same.rules refl (at_end ∙ same.end) refl failed same.keeps_failure

-- the end-of-contents octets, if they were read
eoc_front_of : (s t : ReaderState) (q : List ℕ) → Gives (λ x. eoc_outcome x q) s (Ok tt) t → (more : List ℕ) × (q ≡ 0 ∷ 0 ∷ more) × (t ≡ advanced_state s 2)
eoc_front_of s t [] h = absurd (let a = h.answered in grind arith)
eoc_front_of s t (zero ∷ []) h = absurd (let a = h.answered in grind arith)
eoc_front_of s t (zero ∷ zero ∷ more) h = (more, refl, h.leaves)
eoc_front_of s t (zero ∷ suc o ∷ more) h = absurd (let a = h.answered in cc)
eoc_front_of s t (suc o ∷ more) h = absurd (let a = h.answered in cc)

pub record EocRead (s t : ReaderState) : Type 0 where
  pub working : s.failed ≡ false
  pub following : List ℕ
  pub front : rest_of s ≡ 0 ∷ 0 ∷ following
  pub leaves : t ≡ advanced_state s 2

pub eoc_was_read : (s t : ReaderState) → Gives read_eoc_outcome s (Ok tt) t → EocRead s t
eoc_was_read s t h = go s.failed refl
  where
    go : (f : Bool) → s.failed ≡ f → EocRead s t
    go true f = absurd (let a = h.answered in grind arith)
    go false f =
        let table : read_eoc_outcome s ≡ eoc_outcome s (rest_of s) = rw f refl in
        let r = eoc_front_of s t (rest_of s) (record { answered = h.answered ∙ ap (λ o. o.answer) table; leaves = h.leaves ∙ ap (λ o. o.after) table }) in
        record { working = f; following = r.0; front = r.1; leaves = r.2 }

-- a closure that ran to the end of the contents, and the end-of-contents octets after them
pub data After (has_eoc : Bool) (s t : ReaderState) : Type 0 where
  definite : has_eoc ≡ false → t ≡ s → After has_eoc s t
  after_eoc : has_eoc ≡ true → EocRead s t → After has_eoc s t

pub record Ran {P Q T E : Type 0} (post : P → Result T E → Q → Type 0) (before : P → ReaderState) (after : Q → ReaderState) (l : Length) (s : ReaderState) (v : T) (t : ReaderState) : Type 0 where
  pub part : P
  pub last : Q
  pub can : CanNest s (number l)
  pub there : before part ≡ nested_state s (number l)
  pub ran : post part (Ok v) last
  pub at_end : (after last).position ≡ (after last).end
  pub following : After (is_indefinite l) (resumed_state (after last) s.end s.depth) t

pub closes_ok : {T E : Type 0} {converts : Error → E → Type 0} {answer : Result T E} {s t : ReaderState} {end depth : ℕ} {v : T} → Closes converts answer s end depth (Ok v) t
    → (answer ≡ Ok v) × (s.position ≡ s.end) × (t ≡ resumed_state s end depth)
closes_ok (forwarded e a r l) = absurd (cc)
closes_ok (left_over w e a less c r l) = absurd (cc)
closes_ok {answer = answer} {v = v} (whole w a at r l) = (let same : answer ≡ Ok v = a ∙ sym r in (same, at, l))

-- contents that were closed
pub record Closed {T E : Type 0} (answer : Result T E) (q : ReaderState) (end depth : ℕ) (has_eoc : Bool) (v : T) (t : ReaderState) : Type 0 where
  pub answered : answer ≡ Ok v
  pub at_end : q.position ≡ q.end
  pub following : After has_eoc (resumed_state q end depth) t

pub value_closed : {T E : Type 0} {converts : Error → E → Type 0} {answer : Result T E} {q : ReaderState} {end depth : ℕ} {has_eoc : Bool} {v : T} {t : ReaderState} → ClosesValue converts answer q end depth has_eoc (Ok v) t
    → Closed answer q end depth has_eoc v t
value_closed {T = T} {E = E} {converts = converts} {answer = answer} {q = q} {end = end} {depth = depth} {has_eoc = has_eoc} {v = v} {t = t} closes = go closes refl
  where
    made : (w : T) (u : ReaderState) → Closes converts answer q end depth (Ok w) u → v ≡ w → After has_eoc (resumed_state q end depth) t → Closed answer q end depth has_eoc v t
    made w u c same following = let k = closes_ok c in record { answered = k.0 ∙ ap Ok (sym same); at_end = k.1; following = following }

    go : {r : Result T E} → ClosesValue converts answer q end depth has_eoc r t → r ≡ Ok v → Closed answer q end depth has_eoc v t
    go (part_refused e c r) same = absurd (cc)
    go (without_eoc w c m r) same = made w t c (cc) (definite m (closes_ok c).2)
    go (with_eoc w u c m g r) same = made w u c (cc) (after_eoc m (eoc_was_read _ t (subst (λ x. Gives read_eoc_outcome x (Ok tt) t) (closes_ok c).2 g)))
    go (eoc_failed w u e f c m g reported r) same = absurd (cc)

pub value_ran : {P Q T E : Type 0} {converts : Error → E → Type 0} {post : P → Result T E → Q → Type 0} {before : P → ReaderState} {after : Q → ReaderState} {l : Length} {s t : ReaderState} {v : T}
    → ValueAnswer converts post before after l s (Ok v) t → Ran post before after l s v t
value_ran (not_opened e f h c r) = absurd (cc)
value_ran {post = post} (opened p answer q can there ran closes) =
    let k = value_closed closes in record { part = p; last = q; can = can; there = there; ran = subst (λ a. post p a q) k.answered ran; at_end = k.at_end; following = k.following }

-- Walks over bodies of indefinite length, a header at a time.
use Rattle.std.proofs.Common.{◌≡◌, ◌≢◌, ℕ, suc, ◌+◌, ◌-◌, ◌<◌, ◌≤◌, List, [], ◌∷◌, ◌++◌, length, take, drop, refl, sym, ap, ◌∙◌, subst, append_assoc, append-nil, length-append, arith}
use Rattle.ber.specs.Element.{IsElement, IsElementFault, no_header as no_header_fault, indefinite as indefinite_fault, truncated as truncated_fault}
use Rattle.ber.specs.Fault.{IsFault}
use Rattle.ber.specs.Header.{IsHeader, IsNext, end_header}
use Rattle.ber.specs.Body.{IsWhole, definite, indefinite, IsBody, ends, more, AreBodies, none, then_body, IsStep, IsStepFault, no_header as no_header_step, truncated as truncated_step, IsBodyFault}
use Rattle.ber.specs.declared.element_fault.ElementFault.{ElementFault}
use Rattle.ber.specs.declared.element_fault.ElementFault.TheVariants as faults
use Rattle.ber.specs.declared.body_fault.BodyFault.{BodyFault}
use Rattle.ber.specs.declared.body_fault.BodyFault.TheVariants as body_faults
use Rattle.ber.specs.declared.fault.Fault.{Fault}
use Rattle.ber.specs.declared.header.Header.{Header}
use Rattle.ber.specs.declared.length.Length.TheVariants.{Definite, Indefinite}
use Rattle.ber.proofs.HeaderLemmas.{end_header_next}
use Rattle.ber.proofs.GrammarLemmas.{one_header, no_header, header_two, next_within}
use Rattle.ber.proofs.ElementLemmas.{opened, one_element, after_header, no_element_truncated}
use Rattle.ber.proofs.ListLemmas.{rest_of}

-- what bodies begin with: the end-of-contents octets, an element of definite length, or a header of
-- indefinite length
data Front (n : ℕ) (octets after : List ℕ) : Type 0 where
  at_end : (left : List ℕ) → AreBodies n left → octets ≡ 0 ∷ 0 ∷ (left ++ after) → Front n octets after
  at_element : {h : Header} {c x : List ℕ} (left : List ℕ) → IsElement h c x → h ≢ end_header → AreBodies (suc n) left → octets ≡ x ++ (left ++ after) → Front n octets after
  at_header : {h : Header} {x : List ℕ} (left : List ℕ) → IsHeader h x → h.length ≡ Indefinite → AreBodies (suc (suc n)) left → octets ≡ x ++ (left ++ after) → Front n octets after

front_of : (n : ℕ) (octets bodies after : List ℕ) → AreBodies (suc n) bodies → octets ≡ bodies ++ after → Front n octets after
front_of n octets bodies after (then_body {body = body} {rest = rest} is others) e = go is (e ∙ append_assoc body rest after)
  where
    item : {x : List ℕ} (body : List ℕ) → IsWhole x → IsBody body → octets ≡ (x ++ body) ++ (rest ++ after) → Front n octets after
    item {x} body (definite el other) is e =
        at_element (body ++ rest) el other (then_body is others) (e ∙ append_assoc x body (rest ++ after) ∙ ap (λ l. x ++ l) (sym (append_assoc body rest after)))
    item body (indefinite {front = front} {body = inner} is_header open_length is_inner) is e =
        at_header (inner ++ (body ++ rest)) is_header open_length (then_body is_inner (then_body is others))
        (e ∙ append_assoc (front ++ inner) body (rest ++ after) ∙ append_assoc front inner (body ++ (rest ++ after))
        ∙ ap (λ l. front ++ (inner ++ l)) (sym (append_assoc body rest after)) ∙ ap (λ l. front ++ l) (sym (append_assoc inner (body ++ rest) after)))

    go : {body : List ℕ} → IsBody body → octets ≡ body ++ (rest ++ after) → Front n octets after
    go ends e = at_end rest others e
    go (more {item = x} {body = body} whole is) e = item body whole is e

-- past the end-of-contents octets
step_end : (n : ℕ) (octets rest : List ℕ) → octets ≡ 0 ∷ 0 ∷ rest → IsStep octets (suc n) rest n
step_end n octets rest e =
    record {
      piece = 0 ∷ 0 ∷ [];
      split = e;
      forward = omega arith;
      within = omega arith;
      before = λ bodies are. then_body ends are;
      after = λ bodies after are f. go (front_of n octets bodies after are f);
    }
  where
    front : IsNext end_header octets
    front = (end_header_next octets).0 (rest, e)

    go : {after : List ℕ} → Front n octets after → (left : List ℕ) × AreBodies n left × (rest ≡ left ++ after)
    go (at_end left are f) = (left, are, (let g : 0 ∷ 0 ∷ rest ≡ 0 ∷ 0 ∷ (left ++ _) = sym e ∙ f in cc))
    go {after} (at_element left el other are f) =
        absurd (other (one_header el.is front.is (_ ++ (left ++ after)) front.rest (sym (opened (left ++ after) el f) ∙ front.split)).0)
    go {after} (at_header left is i are f) =
        let one = one_header is front.is (left ++ after) front.rest (sym f ∙ front.split) in
        let g : Indefinite ≡ Definite 0 = sym i ∙ ap (λ (h : Header). h.length) one.0 in absurd (cc)

-- past an element of definite length
step_element : (n : ℕ) (octets rest : List ℕ) (h : Header) (c x : List ℕ) → IsElement h c x → h ≢ end_header → octets ≡ x ++ rest → IsStep octets (suc n) rest (suc n)
step_element n octets rest h c x is other e =
    record {
      piece = x;
      split = e;
      forward = omega (arith, header_two is.is, is.is.whole, ap length is.spelled, length-append is.front c);
      within = omega arith;
      before = before;
      after = λ bodies after are f. go (front_of n octets bodies after are f);
    }
  where
    before : (bodies : List ℕ) → AreBodies (suc n) bodies → AreBodies (suc n) (x ++ bodies)
    before _ (then_body {body = body} {rest = others} first are) = subst (AreBodies (suc n)) (append_assoc x body others) (then_body (more (definite is other) first) are)

    go : {after : List ℕ} → Front n octets after → (left : List ℕ) × AreBodies (suc n) left × (rest ≡ left ++ after)
    go {after} (at_end left are f) =
        let front = (end_header_next octets).0 (left ++ after, f) in
        absurd (other (one_header is.is front.is (c ++ rest) front.rest (sym (opened rest is e) ∙ front.split)).0)
    go {after} (at_element left el differs are f) = let one = one_element rest (left ++ after) is el (sym e ∙ f) in (left, are, one.3)
    go {after} (at_header left header i are f) =
        let one = one_header is.is header (c ++ rest) (left ++ after) (sym (opened rest is e) ∙ f) in
        let g : Definite (length c) ≡ Indefinite = sym is.counted ∙ ap (λ (k : Header). k.length) one.0 ∙ i in absurd (cc)

-- past a header of indefinite length
step_header : (n : ℕ) (octets rest : List ℕ) (h : Header) (x : List ℕ) → IsHeader h x → h.length ≡ Indefinite → octets ≡ x ++ rest → IsStep octets (suc n) rest (suc (suc n))
step_header n octets rest h x is i e =
    record {
      piece = x;
      split = e;
      forward = omega (arith, header_two is, is.whole);
      within = omega arith;
      before = before;
      after = λ bodies after are f. go (front_of n octets bodies after are f);
    }
  where
    before_two : (body others : List ℕ) → IsBody body → AreBodies (suc n) others → AreBodies (suc n) (x ++ (body ++ others))
    before_two body _ first (then_body {body = next} {rest = others} second are) =
        subst (AreBodies (suc n)) (append_assoc (x ++ body) next others ∙ append_assoc x body (next ++ others)) (then_body (more (indefinite is i first) second) are)

    before : (bodies : List ℕ) → AreBodies (suc (suc n)) bodies → AreBodies (suc n) (x ++ bodies)
    before _ (then_body {body = body} {rest = others} first are) = before_two body others first are

    go : {after : List ℕ} → Front n octets after → (left : List ℕ) × AreBodies (suc (suc n)) left × (rest ≡ left ++ after)
    go {after} (at_end left are f) =
        let front = (end_header_next octets).0 (left ++ after, f) in
        let one = one_header is front.is rest front.rest (sym e ∙ front.split) in
        let g : Indefinite ≡ Definite 0 = sym i ∙ ap (λ (k : Header). k.length) one.0 in absurd (cc)
    go {after} (at_element {c = c} left el differs are f) =
        let one = one_header is el.is rest (c ++ (left ++ after)) (sym e ∙ opened (left ++ after) el f) in
        let g : Indefinite ≡ Definite (length c) = sym i ∙ ap (λ (k : Header). k.length) one.0 ∙ el.counted in absurd (cc)
    go {after} (at_header left header j are f) = let one = one_header is header rest (left ++ after) (sym e ∙ f) in (left, are, one.2)

-- bodies begin with a header
front_next : {n : ℕ} {octets after : List ℕ} → Front n octets after → (h : Header) × IsNext h octets
front_next {octets = octets} {after = after} (at_end left are f) = (end_header, (end_header_next octets).0 (left ++ after, f))
front_next {after = after} (at_element {h = h} {c = c} left el other are f) = (h, record { front = el.front; rest = c ++ (left ++ after); is = el.is; split = opened (left ++ after) el f })
front_next {after = after} (at_header {h = h} {x = x} left is i are f) = (h, record { front = x; rest = left ++ after; is = is; split = f })

-- inside a number of bodies that is not 0
inside : {octets rest : List ℕ} {m : ℕ} (d : ℕ) → 1 ≤ d → IsStep octets (suc (d - 1)) rest m → IsStep octets d rest m
inside {octets} {rest} {m} d some step = subst (λ k. IsStep octets k rest m) (let e : suc (d - 1) ≡ d = omega arith in e) step

pub end_stepped : (octets : List ℕ) (d : ℕ) → 1 ≤ d → (rest : List ℕ) × (octets ≡ 0 ∷ 0 ∷ rest) → IsStep octets d (take (length octets - 2) (drop 2 octets)) (d - 1)
end_stepped octets d some (rest, e) =
    let here : take (length octets - 2) (drop 2 octets) ≡ rest = rest_of 2 octets ∙ ap (drop 2) e in
    inside d some (subst (λ r. IsStep octets (suc (d - 1)) r (d - 1)) (sym here) (step_end (d - 1) octets rest e))

-- the header of an element that is not that of end-of-contents octets
not_end : (octets rest : List ℕ) (h : Header) (c x : List ℕ) → ((r : List ℕ) × (octets ≡ 0 ∷ 0 ∷ r) → ⊥) → IsElement h c x → octets ≡ x ++ rest → h ≢ end_header
not_end octets rest h c x never is e same =
    let front = opened rest is e in
    never ((end_header_next octets).1 (record { front = is.front; rest = c ++ rest; is = subst (λ k. IsHeader k is.front) same is.is; split = front }))

pub element_stepped : (octets rest : List ℕ) (d : ℕ) (h : Header) (c x : List ℕ) → 1 ≤ d → ((r : List ℕ) × (octets ≡ 0 ∷ 0 ∷ r) → ⊥) → IsElement h c x → octets ≡ x ++ rest → IsStep octets d rest d
element_stepped octets rest d h c x some never is e =
    let same : suc (d - 1) ≡ d = omega arith in
    subst (λ k. IsStep octets k rest k) same (step_element (d - 1) octets rest h c x is (not_end octets rest h c x never is e) e)

-- the faults of elements
fault_indefinite : {octets : List ℕ} {f : ElementFault} (h : Header) → IsElementFault octets f → f ≡ faults.Indefinite h → IsNext h octets × (h.length ≡ Indefinite)
fault_indefinite h (no_header_fault f is) e = cc
fault_indefinite {octets} h (indefinite_fault g next i) e = let same : g ≡ h = cc in (subst (λ k. IsNext k octets) same next, subst (λ (k : Header). k.length ≡ Indefinite) same i)
fault_indefinite h (truncated_fault g n next i short) e = cc

fault_header : {octets : List ℕ} {f : ElementFault} (g : Fault) → IsElementFault octets f → f ≡ faults.NoHeader g → IsFault octets g
fault_header {octets} g (no_header_fault f is) e = let same : f ≡ g = cc in subst (IsFault octets) same is
fault_header g (indefinite_fault h next i) e = cc
fault_header g (truncated_fault h n next i short) e = cc

fault_truncated : {octets : List ℕ} {f : ElementFault} (h : Header) → IsElementFault octets f → f ≡ faults.Truncated h → (n : ℕ) × IsNext h octets × (h.length ≡ Definite n) × (length octets < h.header_len + n)
fault_truncated h (no_header_fault f is) e = cc
fault_truncated h (indefinite_fault g next i) e = cc
fault_truncated {octets} h (truncated_fault g n next i short) e =
    let same : g ≡ h = cc in
    (n, subst (λ k. IsNext k octets) same next, subst (λ (k : Header). k.length ≡ Definite n) same i, subst (λ (k : Header). length octets < k.header_len + n) same short)

pub header_stepped : (octets : List ℕ) (d : ℕ) (h : Header) (f : ElementFault) → 1 ≤ d → IsElementFault octets f → f ≡ faults.Indefinite h → IsStep octets d (take (length octets - h.header_len) (drop h.header_len octets)) (d + 1)
header_stepped octets d h f some fault e =
    let (next, i) = fault_indefinite h fault e in
    let here : take (length octets - h.header_len) (drop h.header_len octets) ≡ next.rest = rest_of h.header_len octets ∙ after_header next in
    let stepped = step_header (d - 1) octets next.rest h next.front next.is i next.split in
    let count : suc (suc (d - 1)) ≡ d + 1 = omega arith in
    inside d some (subst (λ r. IsStep octets (suc (d - 1)) r (d + 1)) (sym here) (subst (λ k. IsStep octets (suc (d - 1)) next.rest k) count stepped))

-- a number of bodies that is not 0
front_inside : (octets : List ℕ) (d : ℕ) (bodies after : List ℕ) → 1 ≤ d → AreBodies d bodies → octets ≡ bodies ++ after → Front (d - 1) octets after
front_inside octets d bodies after some are e = front_of (d - 1) octets bodies after (subst (λ k. AreBodies k bodies) (let f : d ≡ suc (d - 1) = omega arith in f) are) e

-- where there is no header there are no bodies
pub no_bodies_header : (octets : List ℕ) (d : ℕ) (f : ElementFault) (g : Fault) → 1 ≤ d → IsElementFault octets f → f ≡ faults.NoHeader g → (bodies after : List ℕ) → AreBodies d bodies → octets ≡ bodies ++ after → ⊥
no_bodies_header octets d f g some fault e bodies after are split =
    let next = (front_next (front_inside octets d bodies after some are split)).1 in
    no_header (fault_header g fault e) next.is next.rest next.split

-- where the contents of the header are truncated there are no bodies
pub no_bodies_truncated : (octets : List ℕ) (d : ℕ) (f : ElementFault) (h : Header) → 1 ≤ d → IsElementFault octets f → f ≡ faults.Truncated h → (bodies after : List ℕ) → AreBodies d bodies → octets ≡ bodies ++ after → ⊥
no_bodies_truncated octets d f h some fault e bodies after are split =
    let (n, next, i, short) = fault_truncated h fault e in
    go n next i short (front_inside octets d bodies after some are split)
  where
    go : (n : ℕ) → IsNext h octets → h.length ≡ Definite n → length octets < h.header_len + n → Front (d - 1) octets after → ⊥
    go n next i short (at_end left are f) =
        let front = (end_header_next octets).0 (left ++ after, f) in
        let one = one_header next.is front.is next.rest front.rest (sym next.split ∙ front.split) in
        let g : Definite n ≡ Definite 0 = sym i ∙ ap (λ (k : Header). k.length) one.0 in
        let z : n ≡ 0 = cc in
        omega (arith, (next_within next).1)
    go n next i short (at_element {h = k} {c = c} {x = x} left el other are f) = no_element_truncated n next i short k c x (left ++ after) el f
    go n next i short (at_header left is j are f) =
        let one = one_header next.is is next.rest (left ++ after) (sym next.split ∙ f) in
        let g : Definite n ≡ Indefinite = sym i ∙ ap (λ (k : Header). k.length) one.0 ∙ j in cc

-- a walk from the start of a body to the rest, inside so many bodies
pub record IsWalk (octets : List ℕ) (rest : List ℕ) (n : ℕ) : Type 0 where
  pub piece : List ℕ
  pub split : octets ≡ piece ++ rest
  pub room : n + length rest ≤ 1 + length octets
  pub before : (bodies : List ℕ) → AreBodies n bodies → AreBodies 1 (piece ++ bodies)
  pub after : (bodies more : List ℕ) → AreBodies 1 bodies → octets ≡ bodies ++ more → (left : List ℕ) × AreBodies n left × (rest ≡ left ++ more)

pub walk_start : (octets : List ℕ) → IsWalk octets octets 1
walk_start octets =
    record {
      piece = [];
      split = refl;
      room = omega arith;
      before = λ bodies are. are;
      after = λ bodies more are e. (bodies, are, e);
    }

pub walk_step : {octets rest left : List ℕ} {n m : ℕ} → IsWalk octets rest n → IsStep rest n left m → IsWalk octets left m
walk_step {octets} {rest} {left} {n} {m} walk step =
    record {
      piece = walk.piece ++ step.piece;
      split = walk.split ∙ ap (λ l. walk.piece ++ l) step.split ∙ sym (append_assoc walk.piece step.piece left);
      room = omega (arith, walk.room, step.within, step.forward, ap length step.split, length-append step.piece left);
      before = λ bodies are. subst (AreBodies 1) (sym (append_assoc walk.piece step.piece bodies)) (walk.before (step.piece ++ bodies) (step.before bodies are));
      after = λ bodies more are e. let there = walk.after bodies more are e in step.after there.0 more there.1 there.2;
    }

-- one body
one_body : {bodies : List ℕ} → AreBodies 1 bodies → IsBody bodies
one_body (then_body {body = body} {rest = rest} is others) = subst IsBody (alone rest others) is
  where
    alone : (rest : List ℕ) → AreBodies 0 rest → body ≡ body ++ rest
    alone _ none = sym (append-nil body)

-- a walk that has left all bodies
pub walk_end : (octets rest : List ℕ) → IsWalk octets rest 0 → (body after : List ℕ) × IsBody body × (octets ≡ body ++ after) × (length octets - length rest ≡ length body)
walk_end octets rest walk =
    let is = one_body (walk.before [] none) in (
      walk.piece,
      rest,
      subst IsBody (append-nil walk.piece) is,
      walk.split,
      omega (arith, ap length walk.split, length-append walk.piece rest),
    )

-- where there are no bodies at the rest there is none at the start
pub walk_never : {octets rest : List ℕ} {n : ℕ} → IsWalk octets rest n → ((bodies more : List ℕ) → AreBodies n bodies → rest ≡ bodies ++ more → ⊥) → (body after : List ℕ) → IsBody body → octets ≡ body ++ after → ⊥
walk_never {octets} walk never body after is e =
    let there = walk.after (body ++ []) after (then_body is none) (e ∙ ap (λ l. l ++ after) (sym (append-nil body))) in never there.0 after there.1 there.2

-- the fault of a step, at the offset of the rest
pub walk_fault : {octets rest : List ℕ} {n : ℕ} {f : BodyFault} (at : ℕ) → IsWalk octets rest n → 1 ≤ n → at ≡ length octets - length rest → IsStepFault at rest f → IsBodyFault octets f
walk_fault {octets} {rest} {n} {f} at walk some here fault =
    let place : at ≡ length walk.piece = omega (arith, ap length walk.split, length-append walk.piece rest) in
    record {
      piece = walk.piece;
      rest = rest;
      n = n;
      split = walk.split;
      inside = some;
      begins = λ bodies are. one_body (walk.before bodies are);
      fault = subst (λ k. IsStepFault k rest f) place fault;
    }

pub step_no_header : (octets : List ℕ) (at : ℕ) (f : ElementFault) (g : Fault) → IsElementFault octets f → f ≡ faults.NoHeader g → IsStepFault at octets (body_faults.NoHeader at g)
step_no_header octets at f g fault e = no_header_step g (fault_header g fault e)

pub step_truncated : (octets : List ℕ) (at : ℕ) (f : ElementFault) (h : Header) → IsElementFault octets f → f ≡ faults.Truncated h → IsStepFault at octets (body_faults.Truncated at h)
step_truncated octets at f h fault e = let (n, next, i, short) = fault_truncated h fault e in truncated_step h n next i short

-- the header of a whole element is not that of end-of-contents octets
whole_next : {a : List ℕ} (x : List ℕ) → IsWhole a → (h : Header) × IsNext h (a ++ x) × (h ≢ end_header)
whole_next x (definite {h = h} {contents = c} el other) = (h, record { front = el.front; rest = c ++ x; is = el.is; split = opened x el refl }, other)
whole_next x (indefinite {h = h} {front = front} {body = body} is i inner) =
    (h, record { front = front; rest = body ++ x; is = is; split = append_assoc front body x }, λ same. let e : Indefinite ≡ Definite 0 = sym i ∙ ap (λ (k : Header). k.length) same in cc)

-- the end-of-contents octets begin no whole element
not_whole : {a : List ℕ} (x y : List ℕ) → IsWhole a → a ++ x ≡ 0 ∷ 0 ∷ y → ⊥
not_whole {a} x y is e =
    let (h, next, other) = whole_next x is in
    let front = (end_header_next (a ++ x)).0 (y, e) in
    other (one_header next.is front.is next.rest front.rest (sym next.split ∙ front.split)).0

-- a header of indefinite length begins no element of definite length
not_both : {h g : Header} {c front a : List ℕ} (x y : List ℕ) → IsElement h c a → IsHeader g front → g.length ≡ Indefinite → a ++ x ≡ front ++ y → ⊥
not_both {c = c} {a = a} x y el is i e =
    let one = one_header el.is is (c ++ x) y (sym (opened x el refl) ∙ e) in
    let f : Definite (length c) ≡ Indefinite = sym el.counted ∙ ap (λ (k : Header). k.length) one.0 ∙ i in cc

-- no whole element is a proper prefix of another, nor is a body
mutual
  pub one_whole : {a b : List ℕ} → IsWhole a → IsWhole b → (x y : List ℕ) → a ++ x ≡ b ++ y → (a ≡ b) × (x ≡ y)
  one_whole (definite el other) (definite k differs) x y e = let one = one_element x y el k e in (one.2, one.3)
  one_whole (definite el other) (indefinite {front = front} {body = body} is i inner) x y e = absurd (not_both x (body ++ y) el is i (e ∙ append_assoc front body y))
  one_whole (indefinite {front = front} {body = body} is i inner) (definite el other) x y e = absurd (not_both y (body ++ x) el is i (sym e ∙ append_assoc front body x))
  one_whole (indefinite {front = p} {body = a} is i inner) (indefinite {front = q} {body = b} are j within) x y e =
      let one = one_header is are (a ++ x) (b ++ y) (sym (append_assoc p a x) ∙ e ∙ append_assoc q b y) in
      let rest = one_whole_body inner within x y one.2 in
      (ap (λ l. l ++ a) one.1 ∙ ap (λ l. q ++ l) rest.0, rest.1)

  pub one_whole_body : {a b : List ℕ} → IsBody a → IsBody b → (x y : List ℕ) → a ++ x ≡ b ++ y → (a ≡ b) × (x ≡ y)
  one_whole_body ends ends x y e = (refl, cc)
  one_whole_body ends (more {item = item} {body = body} whole is) x y e = absurd (not_whole (body ++ y) x whole (sym (append_assoc item body y) ∙ sym e))
  one_whole_body (more {item = item} {body = body} whole is) ends x y e = absurd (not_whole (body ++ x) y whole (sym (append_assoc item body x) ∙ e))
  one_whole_body (more {item = p} {body = a} whole is) (more {item = q} {body = b} other are) x y e =
      let one = one_whole whole other (a ++ x) (b ++ y) (sym (append_assoc p a x) ∙ e ∙ append_assoc q b y) in
      let rest = one_whole_body is are x y one.1 in
      (ap (λ l. l ++ a) one.0 ∙ ap (λ l. q ++ l) rest.0, rest.1)

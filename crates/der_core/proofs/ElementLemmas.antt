-- Reading elements by reading their contents.
use Rattle.std.proofs.Common.{◌≡◌, ℕ, ◌+◌, ◌≤◌, ◌<◌, ◌^◌, inl, inr, Bool, true, false, Result, Ok, Err, IfOk, IsOk, IsErrAnd, List, [], ◌∷◌, ◌++◌, length, take, drop, refl, sym, ap, ◌∙◌, subst, length-take-le, length-append, length-drop, arith}
use Rattle.std.proofs.lemmas.Bool.{lt-ltb, le-ltb}
use Rattle.std.proofs.lemmas.List.{take-append-drop, take_at, drop_at}
use Rattle.der_base.specs.Length.{number, is_indefinite}
use Rattle.der_base.specs.declared.length.Length.{Length}
use Rattle.der_base.specs.Arithmetic.{sans_eoc}
use Rattle.der_base.specs.HeaderGrammar.{Head}
use Rattle.der_base.specs.declared.tag.Tag.{Tag}
use Rattle.der_base.specs.declared.error.Error.{Error}
use Rattle.der_base.specs.declared.encoding_rules.EncodingRules.{EncodingRules}
use Rattle.der_core.specs.Header.{head_of, header_sans_eoc, HeaderNext}
use Rattle.der_core.specs.declared.header.Header.{Header}
use Rattle.der_core.specs.Decode.{Passes, ReadsOrLacks}
use Rattle.der_core.specs.DecodeValue.{IsInside, IsAtEnd, ContentsNext, EndsOrLacks}
use Rattle.der_core.specs.Element.{IsEndOfContents, head_sans_eoc, ElementNext}
use Rattle.der_core.specs.ReaderState.{ReaderState, rest_of, advanced_state, nested_state, resumed_state, IsSound, Same}
use Rattle.der_core.specs.Outcome.{Gives, IsBinding}
use Rattle.der_core.specs.Reader.{eoc_outcome, read_eoc_outcome, enter_nested_outcome}
use Rattle.der_base.proofs.HeaderLemmas.{one_header}
use Rattle.der_core.specs.Nested.{CanNest, Closes, forwarded, left_over, whole, ClosesValue, part_refused, without_eoc, with_eoc, eoc_failed, ValueAnswer, not_opened, opened}
use Rattle.der_core.proofs.StateLemmas.{length-rest}
use Rattle.der_core.proofs.ContentsLemmas.{rest_advanced, rest_inside, part_passed, After, definite, after_eoc, Ran, closes_ok, value_ran}

-- a property of the contents of a header
pub at_contents : {x : Header} (h : Header) (F : Head → Type 0) → x ≡ header_sans_eoc h → F (head_of x) → F (head_sans_eoc (head_of h))
at_contents h F e f = subst (λ x. F (head_of x)) e f

-- the guarantee of a closure that reads contents if it returns a value
abbrev pub OkIsAccepted : {A : Type 0} → (A → EncodingRules → Head → List ℕ → Type 0) → ReaderState → A → ReaderState → Head → Type 0
OkIsAccepted takes s v t h = IsInside s (number h.length) → IsAtEnd t → takes v s.rules h (rest_of s)

-- the guarantee of a closure that reads contents if they are a value
abbrev pub Vows : {A E : Type 0} → (A → EncodingRules → Head → List ℕ → Type 0) → (E → Bool) → Bool → (EncodingRules → ℕ) → ReaderState → Result A E → ReaderState → Head → Type 0
Vows {A} takes oom allocates levels s a t h = (w : A) → ContentsNext (takes w) h s → s.depth + levels s.rules ≤ 64 → EndsOrLacks oom allocates a t

pub reliable_owes : {T E : Type 0} (reliable : Bool) (r : Result T E) → reliable ≡ true → IsBinding reliable r
reliable_owes reliable (Ok v) h = tt
reliable_owes reliable (Err e) h = h

-- the outcome of a closure is that of the type whose outcomes it has
pub value_result_of_type : {P Q T E : Type 0} {converts : Error → E → Type 0} {post : P → Result T E → Q → Type 0} {before : P → ReaderState} {after : Q → ReaderState} {answers : ReaderState → Result T E → ReaderState → Type 0} {l : Length}
    {s t : ReaderState} {result : Result T E} → ((p : P) (a : Result T E) (q : Q) → post p a q → answers (before p) a (after q)) → ValueAnswer converts post before after l s result t
    → ValueAnswer converts answers (λ p. p) (λ q. q) l s result t
value_result_of_type reports (not_opened e f h c r) = not_opened e f h c r
value_result_of_type {before = before} {after = after} reports (opened p answer q can there ran closes) = opened (before p) answer (after q) can there (reports p answer q ran) closes

-- subtracting the end-of-contents octets keeps the flag
pub flag_stays : (l : Length) → is_indefinite (sans_eoc l) ≡ is_indefinite l
flag_stays l = go (is_indefinite l) refl
  where
    go : (b : Bool) → is_indefinite l ≡ b → is_indefinite (sans_eoc l) ≡ is_indefinite l
    go true f = rw f refl
    go false f = rw f refl

-- contents and end-of-contents octets follow a header that was consumed
record IsPlaced (s u t : ReaderState) (h : Header) (eoc following : List ℕ) : Type 0 where
  pub can : u.position + number (sans_eoc (head_of h).length) ≤ u.end
  pub split : rest_of (advanced_state u (number (sans_eoc (head_of h).length))) ≡ eoc ++ following
  pub has_eoc : IsEndOfContents (is_indefinite (head_of h).length) eoc
  pub leaves : t ≡ advanced_state (advanced_state u (number (sans_eoc (head_of h).length))) (length eoc)

placed_element : {A : Type 0} (tag : Tag) (takes : A → EncodingRules → Head → List ℕ → Type 0) (s u t : ReaderState) (h : Header) (v : A) (eoc following : List ℕ) → IsSound u
    → Passes (HeaderNext h) s u → (head_of h).tag ≡ tag → IsPlaced s u t h eoc following
    → takes v s.rules (head_sans_eoc (head_of h)) (rest_of (nested_state u (number (sans_eoc (head_of h).length)))) → Passes (ElementNext tag takes v) s t
placed_element tag takes s u t h v eoc following sound passed tagged placed taken =
    let n = number (sans_eoc (head_of h).length) in
    let m = passed.octets in
    let left : n ≤ length (rest_of u) = omega (arith, length-rest u sound, placed.can) in
    let contents : rest_of (nested_state u n) ≡ take n (rest_of u) = rest_inside u n placed.can in
    let long : length (rest_of (nested_state u n)) ≡ n = ap length contents ∙ length-take-le n (rest_of u) left in
    let after_header : rest_of u ≡ drop m (rest_of s) = ap rest_of passed.leaves ∙ rest_advanced s m passed.there in
    let after_part : drop n (rest_of u) ≡ eoc ++ following = sym (rest_advanced u n left) ∙ placed.split in
    let whole : rest_of u ≡ rest_of (nested_state u n) ++ (eoc ++ following) = sym (take-append-drop n (rest_of u)) ∙ ap (λ x. x ++ drop n (rest_of u)) (sym contents) ∙ ap (λ x. rest_of (nested_state u n) ++ x) after_part in
    let sum : s.position + m + n + length eoc ≡ s.position + (m + (length (rest_of (nested_state u n)) + length eoc)) = omega (arith, long) in
    record {
      octets = m + (length (rest_of (nested_state u n)) + length eoc);
      working = passed.working;
      next = record {
        says = head_of h;
        header = m;
        contents = rest_of (nested_state u n);
        eoc = eoc;
        following = following;
        next = passed.next;
        tagged = tagged;
        split = sym after_header ∙ whole;
        sized = long;
        has_eoc = placed.has_eoc;
        whole = refl;
        taken = taken;
      };
      there = omega (arith, ap length after_header, ap length whole, length-append (rest_of (nested_state u n)) (eoc ++ following), length-append eoc following, length-drop m (rest_of s), passed.there);
      leaves = placed.leaves ∙ ap (λ x. advanced_state (advanced_state x n) (length eoc)) passed.leaves ∙ ap (λ p. record s { position = p }) sum;
    }

-- a reader that has not failed now had not failed when the closure ended
ended_fine : {has_eoc : Bool} (t q : ReaderState) (end depth : ℕ) → After has_eoc (resumed_state q end depth) t → t.failed ≡ false → q.failed ≡ false
ended_fine t q end depth (definite f e) w = sym (ap (λ (x : ReaderState). x.failed) e) ∙ w
ended_fine t q end depth (after_eoc f e) w = e.working

-- an element that was read was next
module _ {P Q A E : Type 0} {post : P → Result A E → Q → Type 0} {before : P → ReaderState} {after : Q → ReaderState} (tag : Tag) (takes : A → EncodingRules → Head → List ℕ → Type 0)
    (s u t : ReaderState) (h : Header) where
  -- the header is consumed, and contents and end-of-contents octets follow it
  element_of : (v : A) → IsSound u → Passes (HeaderNext h) s u → (head_of h).tag ≡ tag
      → ((p : P) (a : Result A E) (q : Q) → post p a q → Same (before p) (after q))
      → ((p : P) (q : Q) → post p (Ok v) q → OkIsAccepted takes (before p) v (after q) (head_sans_eoc (head_of h)))
      → (ran : Ran post before after (sans_eoc (head_of h).length) u v t) → (after ran.last).failed ≡ false → Passes (ElementNext tag takes v) s t
  element_of v sound passed tagged same ok ran working = go ran.following
    where
      n : ℕ
      n = number (sans_eoc (head_of h).length)

      inside_is : before ran.part ≡ nested_state u n
      inside_is = ran.there

      fine : u.failed ≡ false
      fine = ap (λ (x : ReaderState). x.failed) passed.leaves ∙ passed.working

      left : n ≤ length (rest_of u)
      left = omega (arith, length-rest u sound, ran.can.0)

      long : length (rest_of (nested_state u n)) ≡ n
      long = ap length (rest_inside u n ran.can.0) ∙ length-take-le n (rest_of u) left

      passes : resumed_state (after ran.last) u.end u.depth ≡ advanced_state u n
      passes = part_passed u (after ran.last) n (subst (λ x. Same x (after ran.last)) inside_is (same _ _ _ ran.ran)) ran.at_end (working ∙ sym fine)

      is_next : IsInside (before ran.part) n
      is_next = subst (λ x. IsInside x n) (sym inside_is) (record { working = fine; nested = omega arith; sized = long })

      taken : takes v s.rules (head_sans_eoc (head_of h)) (rest_of (nested_state u n))
      taken =
          let reader_position = subst (λ (x : ReaderState). takes v x.rules (head_sans_eoc (head_of h)) (rest_of x)) inside_is (ok _ _ ran.ran is_next (record { at_end = ran.at_end; working = working })) in
          subst (λ r. takes v r (head_sans_eoc (head_of h)) (rest_of (nested_state u n))) (ap (λ (x : ReaderState). x.rules) passed.leaves) reader_position

      go : After (is_indefinite (sans_eoc (head_of h).length)) (resumed_state (after ran.last) u.end u.depth) t → Passes (ElementNext tag takes v) s t
      go (definite f e) =
          placed_element tag takes s u t h v [] (rest_of (advanced_state u n)) sound passed tagged
          (record {
            can = ran.can.0;
            split = refl;
            has_eoc = subst (λ b. IsEndOfContents b []) (sym f ∙ flag_stays (head_of h).length) refl;
            leaves = e ∙ passes ∙ ap (λ p. record u { position = p }) (omega arith);
          }) taken
      go (after_eoc f e) =
          placed_element tag takes s u t h v (0 ∷ 0 ∷ []) e.following sound passed tagged
          (record {
            can = ran.can.0;
            split = ap rest_of (sym passes) ∙ e.front;
            has_eoc = subst (λ b. IsEndOfContents b (0 ∷ 0 ∷ [])) (sym f ∙ flag_stays (head_of h).length) refl;
            leaves = e.leaves ∙ ap (λ x. advanced_state x 2) passes;
          }) taken

  pub element_ok : {converts : Error → E → Type 0} (reliable : Bool) (result : Result A E) → IsSound u → Passes (HeaderNext h) s u → (head_of h).tag ≡ tag
      → ((p : P) (a : Result A E) (q : Q) → post p a q → Same (before p) (after q))
      → ((p : P) (v : A) (q : Q) → post p (Ok v) q → OkIsAccepted takes (before p) v (after q) (head_sans_eoc (head_of h)))
      → (IsBinding reliable result → ValueAnswer converts post before after (sans_eoc (head_of h).length) u result t)
      → IfOk result (λ v. t.failed ≡ false → Passes (ElementNext tag takes v) s t)
  element_ok reliable (Err e) sound passed tagged same ok answers = tt
  element_ok reliable (Ok v) sound passed tagged same ok answers =
      λ working. let ran = value_ran (answers tt) in element_of v sound passed tagged same (λ p q. ok p v q) ran (ended_fine t (after ran.last) u.end u.depth ran.following working)

-- the header determines the number of octets of an element
element_size : {A : Type 0} {tag : Tag} {takes : A → EncodingRules → Head → List ℕ → Type 0} {rules : EncodingRules} {octets : List ℕ} {v w : A} {m k : ℕ} → ElementNext tag takes v rules octets m
    → ElementNext tag takes w rules octets k → m ≡ k
element_size x y =
    let one = one_header x.next y.next in
    let sized : length x.contents ≡ length y.contents = x.sized ∙ ap (λ (h : Head). number (sans_eoc h.length)) one.0 ∙ sym y.sized in
    let eocs : length x.eoc ≡ length y.eoc = same_eoc (is_indefinite x.says.length) (is_indefinite y.says.length) x.eoc y.eoc (ap (λ (h : Head). is_indefinite h.length) one.0) x.has_eoc y.has_eoc in
    omega (arith, x.whole, y.whole, one.1, sized, eocs)
  where
    same_eoc : (a b : Bool) (p q : List ℕ) → a ≡ b → IsEndOfContents a p → IsEndOfContents b q → length p ≡ length q
    same_eoc true true p q e f g = ap length (f ∙ sym g)
    same_eoc false false p q e f g = ap length (f ∙ sym g)
    same_eoc true false p q e f g = absurd (cc)
    same_eoc false true p q e f g = absurd (cc)

-- the header that was read is that of the element
pub header_tagged : {A : Type 0} {tag : Tag} {takes : A → EncodingRules → Head → List ℕ → Type 0} {s u : ReaderState} {h : Header} {v : A} {m : ℕ} → Passes (HeaderNext h) s u
    → ElementNext tag takes v s.rules (rest_of s) m → h.tag ≡ tag
header_tagged passed e = ap (λ (x : Head). x.tag) (one_header passed.next e.next).0 ∙ e.tagged

-- a nested part that is available, with a level left, is entered
pub entered_part : (s : ReaderState) (n : ℕ) → IsSound s → CanNest s n → (enter_nested_outcome n s).answer ≡ Ok (s.end, s.depth)
entered_part s n sound can =
    let small : s.position + n < 2 ^ 32 = omega (arith, can.0, sound.in_input, sound.addressable) in
    rw (lt-ltb (s.position + n) (2 ^ 32) small) (rw (le-ltb s.end (s.position + n) can.0) (rw (lt-ltb s.depth 64 can.1) refl))

eoc_working : (s : ReaderState) → s.failed ≡ false → read_eoc_outcome s ≡ eoc_outcome s (rest_of s)
eoc_working s f = rw f refl

pub no_eoc_fault : (s t : ReaderState) (e : Error) (more : List ℕ) → s.failed ≡ false → rest_of s ≡ 0 ∷ 0 ∷ more → Gives read_eoc_outcome s (Err e) t → ⊥
no_eoc_fault s t e more f front h =
    let table : read_eoc_outcome s ≡ eoc_outcome s (0 ∷ 0 ∷ more) = eoc_working s f ∙ ap (eoc_outcome s) front in
    let no : Err e ≡ Ok tt = h.answered ∙ ap (λ o. o.answer) table in
    absurd (cc)

-- a result that reached the end or reported a failed allocation, and an error of what follows it
module _ {A E : Type 0} (oom : E → Bool) (allocates : Bool) where
  lacked : (answer : Result A E) (e : E) → answer ≡ Err e → (q : ReaderState) → EndsOrLacks oom allocates answer q → (allocates ≡ true) × (oom e ≡ true)
  lacked answer e is q (inl z) = absurd (let err : Result A E = Err e in let no : IsOk err = subst (λ a. IsOk a) is z.0 in let w : false ≡ true = no in cc)
  lacked answer e is q (inr z) = (z.0, subst (λ a. IsErrAnd a (λ x. oom x ≡ true)) is z.1)

  ended : (answer : Result A E) (v : A) → answer ≡ Ok v → (q : ReaderState) → EndsOrLacks oom allocates answer q → IsAtEnd q
  ended answer v is q (inl z) = z.1
  ended answer v is q (inr z) = absurd (subst (λ a. IsErrAnd a (λ x. oom x ≡ true)) is z.1)

  closes_err : {converts : Error → E → Type 0} {answer : Result A E} {q t : ReaderState} {end depth : ℕ} {e : E} → Closes converts answer q end depth (Err e) t → EndsOrLacks oom allocates answer q → (allocates ≡ true) × (oom e ≡ true)
  closes_err {answer = answer} {q = q} {e = e} (forwarded x a r l) z = (let same : answer ≡ Err e = a ∙ sym r in lacked answer e same q z)
  closes_err {answer = answer} {q = q} (left_over w x a less c r l) z = (let at = (ended answer w a q z).at_end in absurd (omega arith))
  closes_err (whole w a at r l) z = absurd (cc)

-- an element that is next is read
module _ {P Q A E : Type 0} {post : P → Result A E → Q → Type 0} {before : P → ReaderState} {after : Q → ReaderState} (tag : Tag) (takes : A → EncodingRules → Head → List ℕ → Type 0) (oom : E → Bool)
    (allocates : Bool) (levels : EncodingRules → ℕ) (s u t : ReaderState) (h : Header) where
  pub element_complete : (converts : Error → E → Type 0) (result : Result A E) (v : A) (m : ℕ) → IsSound u → Passes (HeaderNext h) s u → (head_of h).tag ≡ tag
      → ((p : P) (a : Result A E) (q : Q) → post p a q → Same (before p) (after q))
      → ((p : P) (v : A) (q : Q) → post p (Ok v) q → OkIsAccepted takes (before p) v (after q) (head_sans_eoc (head_of h)))
      → ((p : P) (a : Result A E) (q : Q) → post p a q → Vows takes oom allocates levels (before p) a (after q) (head_sans_eoc (head_of h))) → ElementNext tag takes v s.rules (rest_of s) m → s.depth + (1 + levels s.rules) ≤ 64
      → ValueAnswer converts post before after (sans_eoc (head_of h).length) u result t → ReadsOrLacks oom allocates s m result t
  element_complete converts result v m sound passed tagged same ok complete e deep answers = go result answers
    where
      n : ℕ
      n = number (sans_eoc (head_of h).length)

      sized : length e.contents ≡ n
      sized = e.sized ∙ ap (λ (x : Head). number (sans_eoc x.length)) (sym (one_header passed.next e.next).0)

      following_header : rest_of u ≡ e.contents ++ (e.eoc ++ e.following)
      following_header = ap rest_of passed.leaves ∙ rest_advanced s passed.octets passed.there ∙ ap (λ k. drop k (rest_of s)) (one_header passed.next e.next).1 ∙ e.split

      depth_is : u.depth ≡ s.depth
      depth_is = ap (λ (x : ReaderState). x.depth) passed.leaves

      rules_are : u.rules ≡ s.rules
      rules_are = ap (λ (x : ReaderState). x.rules) passed.leaves

      can : CanNest u n
      can = (omega (arith, length-rest u sound, ap length following_header, length-append e.contents (e.eoc ++ e.following), sized, sound.ordered), omega (arith, depth_is, deep))

      left : n ≤ length (rest_of u)
      left = omega (arith, length-rest u sound, can.0)

      contents : rest_of (nested_state u n) ≡ e.contents
      contents = rest_inside u n can.0 ∙ ap (take n) following_header ∙ take_at e.contents (e.eoc ++ e.following) n sized

      following_part : rest_of (advanced_state u n) ≡ e.eoc ++ e.following
      following_part = rest_advanced u n left ∙ ap (drop n) following_header ∙ drop_at e.contents (e.eoc ++ e.following) n sized

      fine : u.failed ≡ false
      fine = ap (λ (x : ReaderState). x.failed) passed.leaves ∙ passed.working

      part : (p : P) → before p ≡ nested_state u n → ContentsNext (takes v) (head_sans_eoc (head_of h)) (before p)
      part p there =
          subst (ContentsNext (takes v) (head_sans_eoc (head_of h))) (sym there)
          (record {
            is_next = record { working = fine; nested = omega arith; sized = ap length contents ∙ sized };
            taken = subst (λ r. takes v r (head_sans_eoc (head_of h)) (rest_of (nested_state u n))) (sym rules_are)
                (subst (λ x. takes v s.rules (head_sans_eoc x) (rest_of (nested_state u n))) (sym (one_header passed.next e.next).0) (subst (λ l. takes v s.rules (head_sans_eoc e.says) l) (sym contents) e.taken));
          })

      ends : (p : P) (a : Result A E) (q : Q) → post p a q → before p ≡ nested_state u n → EndsOrLacks oom allocates a (after q)
      ends p a q ran there =
          let deeper : (before p).depth ≡ u.depth + 1 = ap (λ (x : ReaderState). x.depth) there in
          let same_levels : levels (before p).rules ≡ levels s.rules = ap (λ (x : ReaderState). levels x.rules) there ∙ ap levels rules_are in
          complete p a q ran v (part p there) (omega (arith, deeper, same_levels, depth_is, deep))

      passes : (p : P) (a : Result A E) (q : Q) → post p a q → before p ≡ nested_state u n → IsAtEnd (after q) → resumed_state (after q) u.end u.depth ≡ advanced_state u n
      passes p a q ran there end = part_passed u (after q) n (subst (λ x. Same x (after q)) there (same p a q ran)) end.at_end (end.working ∙ sym fine)

      eoc_octets_are : (b : Bool) (eoc : List ℕ) → IsEndOfContents b eoc → b ≡ true → eoc ≡ 0 ∷ 0 ∷ []
      eoc_octets_are true eoc is f = is
      eoc_octets_are false eoc is f = absurd (cc)

      has_eoc : is_indefinite (sans_eoc (head_of h).length) ≡ true → e.eoc ≡ 0 ∷ 0 ∷ []
      has_eoc f = eoc_octets_are (is_indefinite e.says.length) e.eoc e.has_eoc (ap (λ (x : Head). is_indefinite x.length) (sym (one_header passed.next e.next).0) ∙ sym (flag_stays (head_of h).length) ∙ f)

      refused : (x : E) → ValueAnswer converts post before after (sans_eoc (head_of h).length) u (Err x) t → (allocates ≡ true) × (oom x ≡ true)
      refused x (not_opened y f g c r) = absurd (let no : Err y ≡ Ok (u.end, u.depth) = g.answered ∙ entered_part u n sound can in cc)
      refused x (opened p answer q _ there ran closes) = closed closes
        where
          z : EndsOrLacks oom allocates answer (after q)
          z = ends p answer q ran there

          closed : ClosesValue converts answer (after q) u.end u.depth (is_indefinite (sans_eoc (head_of h).length)) (Err x) t → (allocates ≡ true) × (oom x ≡ true)
          closed (part_refused y c r) = closes_err oom allocates (subst (λ k. Closes converts answer (after q) u.end u.depth (Err k) t) (let same : y ≡ x = cc in same) c) z
          closed (without_eoc w c m r) = absurd (cc)
          closed (with_eoc w v c m g r) = absurd (cc)
          closed (eoc_failed w v y f c m g reported r) =
              let k = closes_ok c in
              let end = ended oom allocates answer w k.0 (after q) z in
              let there_is : v ≡ advanced_state u n = k.2 ∙ passes p answer q ran there end in
              let front : rest_of v ≡ 0 ∷ 0 ∷ e.following = ap rest_of there_is ∙ following_part ∙ ap (λ l. l ++ e.following) (has_eoc m) in
              absurd (no_eoc_fault v t y e.following (ap (λ (x : ReaderState). x.failed) there_is ∙ fine) front g)

      go : (r : Result A E) → ValueAnswer converts post before after (sans_eoc (head_of h).length) u r t → ReadsOrLacks oom allocates s m r t
      go (Err x) answers = inr (refused x answers)
      go (Ok w) answers =
          let ran = value_ran answers in
          let end = ended oom allocates (Ok w) w refl (after ran.last) (ends ran.part (Ok w) ran.last ran.ran ran.there) in
          let read = element_of tag takes s u t h w sound passed tagged same (λ p q. ok p w q) ran end.working in
          inl (refl, read.leaves ∙ ap (advanced_state s) (element_size read.next e))

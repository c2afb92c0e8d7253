-- How the beginning of a body continues: what can follow it, and by which steps it is reached.
use Rattle.std.proofs.Common.{◌≡◌, ℕ, suc, ◌+◌, ◌^◌, ◌<◌, Bool, true, List, [], ◌∷◌, ◌++◌, length, refl, sym, ap, ◌∙◌, subst, ⊎_elim, append_assoc, append-nil, arith}
use Rattle.std.proofs.lemmas.Bool.{cases_lt}
use Rattle.der_base.specs.Length.{length_octets}
use Rattle.der_base.specs.Tag.{IsIdentifier}
use Rattle.der_base.specs.Body.{Item, Body, Items, Open, definite, indefinite, ends, more, none, then_item, first, deeper}
use Rattle.der_base.specs.declared.tag.Tag.{Tag}
use Rattle.der_base.specs.declared.encoding_rules.EncodingRules.TheVariants.{Ber}
use Rattle.der_base.proofs.LengthLemmas.{length_definite}
use Rattle.der_base.proofs.IdentifierLemmas.{identifier_begins, identifier_front}
use Rattle.der_base.proofs.BodyLemmas.{body_level, items_level, definite_front, mixed_front, item_front, no_item_at_end}

-- octets begin with a body of this level
pub record BodyIn (level : ℕ) (octets : List ℕ) : Type 0 where
  pub parts : ℕ
  pub body : List ℕ
  pub rest : List ℕ
  pub is : Body level parts body
  pub split : octets ≡ body ++ rest

body_in : {level parts : ℕ} {body octets : List ℕ} (rest : List ℕ) → Body level parts body → octets ≡ body ++ rest → BodyIn level octets
body_in {parts = n} {body = b} rest is e = record { parts = n; body = b; rest = rest; is = is; split = e }

-- no identifier begins with a zero octet
pub identifier_not_zero : {id : List ℕ} {t : Tag} {c : Bool} (x y : List ℕ) → IsIdentifier Ber id t c → id ++ x ≡ 0 ∷ y → ⊥
identifier_not_zero x y d e = let h = identifier_begins d in h.3 (let f : h.0 ∷ (h.1 ++ x) ≡ 0 ∷ y = ap (λ l. l ++ x) (sym h.2) ∙ e in cc)

-- after an item a body continues
past_item : {k m n l : ℕ} {i b : List ℕ} (q rest : List ℕ) → Item l m i → Body k n b → i ++ q ≡ b ++ rest → BodyIn k q
past_item q rest h (ends at) e = absurd (no_item_at_end h q (0 ∷ rest) e)
past_item q rest h (more {item = i} {body = b} g t) e = body_in rest t (item_front h g q (b ++ rest) (e ∙ append_assoc i b rest)).2

past_items : {k l m n : ℕ} {s b : List ℕ} (q rest : List ℕ) → Items l m s → Body k n b → s ++ q ≡ b ++ rest → BodyIn k q
past_items q rest (none at) t e = body_in rest t e
past_items q rest (then_item {items = s} {item = i} h g) t e =
    let r = past_items (i ++ q) rest h t (sym (append_assoc s i q) ∙ e) in
    past_item q r.rest g r.is r.split

-- after an identifier and octet `0x80` there is a body of the next level
past_opening : {k n : ℕ} {id b : List ℕ} {t : Tag} {c : Bool} (q rest : List ℕ) → IsIdentifier Ber id t c → Body k n b → id ++ 128 ∷ q ≡ b ++ rest → BodyIn (suc k) q
past_opening q rest d (ends at) e = absurd (identifier_not_zero (128 ∷ q) (0 ∷ rest) d e)
past_opening {id = id} q rest d (more {body = b} (definite {id = a} at g contents l) t) e =
    let r = identifier_front d g (128 ∷ q) (length_octets (length contents) ++ (contents ++ (b ++ rest))) (e ∙ simp append_assoc) in
    absurd (length_definite (length contents) (contents ++ (b ++ rest)) q (sym r.3))
past_opening {id = id} q rest d (more {body = b} (indefinite {parts = n} {id = a} {body = inner} at g u) t) e =
    let r = identifier_front d g (128 ∷ q) (128 ∷ (inner ++ (b ++ rest))) (e ∙ simp append_assoc) in
    let f : 128 ∷ q ≡ 128 ∷ (inner ++ (b ++ rest)) = r.3 in
    body_in (b ++ rest) u (cc)

-- if a body begins with an open beginning, the rest begins with a body of the innermost level
pub past_open : {k m n : ℕ} {p b : List ℕ} (q rest : List ℕ) → Open k m p → Body 1 n b → p ++ q ≡ b ++ rest → BodyIn k q
past_open q rest (first h) t e = past_items q rest h t e
past_open q rest (deeper {p = p} {id = id} {items = s} o d h) t e =
    let r = past_open (id ++ 128 ∷ (s ++ q)) rest o t (sym (simp append_assoc) ∙ e) in
    let i = past_opening (s ++ q) r.rest d r.is r.split in
    past_items q i.rest h i.is i.split

-- a step from one level to another: the end-of-contents octets, an item with a definite length, or
-- an opening
pub data Step : ℕ → ℕ → List ℕ → Type 0 where
  eocs : {k : ℕ} → Step (suc k) k (0 ∷ 0 ∷ [])
  counted : {k : ℕ} {t : Tag} {c : Bool} {id : List ℕ} → IsIdentifier Ber id t c → (contents : List ℕ) → length contents < 2 ^ 32 → Step k k (id ++ (length_octets (length contents) ++ contents))
  opened : {k : ℕ} {t : Tag} {id : List ℕ} → IsIdentifier Ber id t true → k < 64 → Step k (suc k) (id ++ 128 ∷ [])

-- a path: a number of steps from level 1, the level at which they end, and their octets
pub data Path : ℕ → ℕ → List ℕ → Type 0 where
  start : Path 0 1 []
  go : {n k l : ℕ} {p x : List ℕ} → Path n k p → Step k l x → Path (suc n) l (p ++ x)

-- there is at most one next step
one_step : {k l m : ℕ} {x y : List ℕ} → Step k l x → Step k m y → (s t : List ℕ) → x ++ s ≡ y ++ t → (l ≡ m) × (x ≡ y) × (s ≡ t)
one_step eocs eocs s t e = (refl, refl, cc)
one_step eocs (counted {id = b} g d _) s t e = absurd (identifier_not_zero ((length_octets (length d) ++ d) ++ t) (0 ∷ s) g (sym (append_assoc b (length_octets (length d) ++ d) t) ∙ sym e))
one_step eocs (opened {id = b} g _) s t e = absurd (identifier_not_zero (128 ∷ t) (0 ∷ s) g (sym (append_assoc b (128 ∷ []) t) ∙ sym e))
one_step (counted {id = a} h c _) eocs s t e = absurd (identifier_not_zero ((length_octets (length c) ++ c) ++ s) (0 ∷ t) h (sym (append_assoc a (length_octets (length c) ++ c) s) ∙ e))
one_step (opened {id = a} h _) eocs s t e = absurd (identifier_not_zero (128 ∷ s) (0 ∷ t) h (sym (append_assoc a (128 ∷ []) s) ∙ e))
one_step (counted h c _) (counted g d _) s t e = let r = definite_front h g c d s t e in (refl, r.0, r.1)
one_step (counted h c _) (opened g _) s t e = absurd (mixed_front h g c [] s t e)
one_step (opened h _) (counted g d _) s t e = absurd (mixed_front g h d [] t s (sym e))
one_step (opened {id = a} h _) (opened {id = b} g _) s t e =
    let r = identifier_front h g (128 ∷ s) (128 ∷ t) (sym (append_assoc a (128 ∷ []) s) ∙ e ∙ append_assoc b (128 ∷ []) t) in
    (refl, ap (λ l. l ++ 128 ∷ []) r.0, (let f : 128 ∷ s ≡ 128 ∷ t = r.3 in cc))

path_at : {n m k : ℕ} {p q : List ℕ} → n ≡ m → p ≡ q → Path n k p → Path m k q
path_at {n} {m} {k} {p} {q} e f h = subst (λ l. Path m k l) f (subst (λ j. Path j k p) e h)

mutual
  path_item : {k m : ℕ} {i : List ℕ} → Item k m i → (n : ℕ) (p : List ℕ) → Path n k p → Path (n + m) k (p ++ i)
  path_item (definite at d contents l) n p h = path_at (omega arith) refl (go h (counted d contents l))
  path_item (indefinite {id = id} {body = b} at d t) n p h =
      let deep = body_level t in
      path_at (omega arith) (append_assoc p (id ++ 128 ∷ []) b ∙ ap (λ x. p ++ x) (append_assoc id (128 ∷ []) b)) (path_body t (suc n) (p ++ (id ++ 128 ∷ [])) (go h (opened d (omega (arith, deep.1)))) _ refl)

  path_body : {k m : ℕ} {b : List ℕ} → Body k m b → (n : ℕ) (p : List ℕ) → Path n k p → (j : ℕ) → k ≡ suc j → Path (n + m) j (p ++ b)
  path_body (ends at) n p h j e = path_at (omega arith) refl (go (subst (λ l. Path n l p) e h) eocs)
  path_body (more {m = m} {item = i} {body = b} g t) n p h j e = path_at (omega arith) (append_assoc p i b) (path_body t (n + m) (p ++ i) (path_item g n p h) j e)

path_items : {k m : ℕ} {q : List ℕ} → Items k m q → (n : ℕ) (p : List ℕ) → Path n k p → Path (n + m) k (p ++ q)
path_items (none at) n p h = path_at (omega arith) (sym (append-nil p)) h
path_items (then_item {m = m} {items = q} {item = i} g t) n p h = path_at (omega arith) (append_assoc p q i) (path_item t (n + m) (p ++ q) (path_items g n p h))

-- the beginning of a body is reached in one step for each identifier and end-of-contents in it
pub path_open : {k m : ℕ} {p : List ℕ} → Open k m p → Path m k p
path_open (first h) = path_at (omega arith) refl (path_items h 0 [] start)
path_open (deeper {m = m} {p = p} {id = id} {items = q} o d h) =
    let deep = items_level h in
    path_at (omega arith) (append_assoc p (id ++ 128 ∷ []) q ∙ ap (λ x. p ++ x) (append_assoc id (128 ∷ []) q)) (path_items h (suc m) (p ++ (id ++ 128 ∷ [])) (go (path_open o) (opened d (omega (arith, deep.1)))))

-- paths with equal numbers of steps on one list are equal
pub same_steps : {n k l : ℕ} {p r : List ℕ} → Path n k p → Path n l r → (q t : List ℕ) → p ++ q ≡ r ++ t → (k ≡ l) × (p ≡ r) × (q ≡ t)
same_steps start start q t e = (refl, refl, e)
same_steps (go {p = p} {x = x} h s) (go {l = l} {p = r} {x = y} g u) q t e =
    let a = same_steps h g (x ++ q) (y ++ t) (sym (append_assoc p x q) ∙ e ∙ append_assoc r y t) in
    let b = one_step s (subst (λ j. Step j l y) (sym a.0) u) q t a.2 in
    (b.0, ap (λ w. w ++ x) a.1 ∙ ap (λ w. r ++ w) b.1, b.2)

-- a longer path continues by a step
pub longer_steps : {n m k l : ℕ} {p r : List ℕ} → Path n k p → Path m l r → n < m → (q t : List ℕ) → p ++ q ≡ r ++ t → (j : ℕ) × (x y : List ℕ) × Step k j x × (q ≡ x ++ y)
longer_steps h start lt q t e = absurd (omega arith)
longer_steps {n = n} {k = k} {p = p} h (go {n = m} {l = l} {p = r} {x = x} g s) lt q t e =
    let f : p ++ q ≡ r ++ (x ++ t) = e ∙ append_assoc r x t in
    ⊎_elim
    (λ small. longer_steps h g small q (x ++ t) f)
    (λ large. let same : n ≡ m = omega arith in
    let a = same_steps (subst (λ j. Path j k p) same h) g q (x ++ t) f in
    (l, x, t, subst (λ j. Step j l x) (sym a.0) s, a.2))
    (cases_lt n m)

-- Lemmas on two lists of items with the same encodings.
use Rattle.std.proofs.Common.{◌≡◌, ◌↔◌, ◌⊎◌, ◌||◌, inl, inr, ℕ, Bool, true, false, List, [], ◌∷◌, ◌++◌, map, cond, refl, sym, ap, ◌∙◌}
use Rattle.std.specs.Prelude.{filter}
use Rattle.der_asn1.specs.SequenceOf.{AllValid, IsListOf, joined_encodings}
use Rattle.x509.proofs.ItemLemmas.{AreApartItems}
use Rattle.x509_names.specs.Lists.{SomeItem}

module _ {A B : Type 0} (valid : A → Type 0) (encoding : A → List ℕ) (apart : AreApartItems valid encoding) (f : A → B)
    (keep : (v w : A) → encoding v ≡ encoding w → f v ≡ f w) where
  mapped_of_same : (vs ws : List A) → AllValid valid vs → AllValid valid ws → joined_encodings encoding vs ≡ joined_encodings encoding ws → map f vs ≡ map f ws
  mapped_of_same [] [] are them e = refl
  mapped_of_same [] (w ∷ ws) are them e = absurd (apart.some w (joined_encodings encoding ws) (sym e))
  mapped_of_same (v ∷ vs) [] are them e = absurd (apart.some v (joined_encodings encoding vs) e)
  mapped_of_same (v ∷ vs) (w ∷ ws) are them e =
      let g = apart.front v w (joined_encodings encoding vs) (joined_encodings encoding ws) are.0 them.0 e in
      ap (λ x. x ∷ map f vs) (keep v w g.0) ∙ ap (λ l. f w ∷ l) (mapped_of_same vs ws are.1 them.1 g.1)

  -- two lists of items in the same octets are read alike
  pub same_mapped : (octets : List ℕ) (l m : IsListOf valid encoding octets) → map f l.items ≡ map f m.items
  same_mapped octets l m = mapped_of_same l.items m.items l.are_valid m.are_valid (sym l.joined ∙ m.joined)

  module _ (p : A → Bool) (keep_test : (v w : A) → encoding v ≡ encoding w → p v ≡ p w) where
    kept_of : (v : A) (b : Bool) (vs ws : List A) → map f (filter p vs) ≡ map f (filter p ws) → (w : A) → f v ≡ f w
        → map f (cond b (v ∷ filter p vs) (filter p vs)) ≡ map f (cond b (w ∷ filter p ws) (filter p ws))
    kept_of v true vs ws e w g = ap (λ x. x ∷ map f (filter p vs)) g ∙ ap (λ l. f w ∷ l) e
    kept_of v false vs ws e w g = e

    filtered_of_same : (vs ws : List A) → AllValid valid vs → AllValid valid ws → joined_encodings encoding vs ≡ joined_encodings encoding ws → map f (filter p vs) ≡ map f (filter p ws)
    filtered_of_same [] [] are them e = refl
    filtered_of_same [] (w ∷ ws) are them e = absurd (apart.some w (joined_encodings encoding ws) (sym e))
    filtered_of_same (v ∷ vs) [] are them e = absurd (apart.some v (joined_encodings encoding vs) e)
    filtered_of_same (v ∷ vs) (w ∷ ws) are them e =
        let g = apart.front v w (joined_encodings encoding vs) (joined_encodings encoding ws) are.0 them.0 e in
        kept_of v (p v) vs ws (filtered_of_same vs ws are.1 them.1 g.1) w (keep v w g.0)
        ∙ ap (λ b. map f (cond b (w ∷ filter p ws) (filter p ws))) (keep_test v w g.0)

    pub same_filtered : (octets : List ℕ) (l m : IsListOf valid encoding octets) → map f (filter p l.items) ≡ map f (filter p m.items)
    same_filtered octets l m = filtered_of_same l.items m.items l.are_valid m.are_valid (sym l.joined ∙ m.joined)

-- items that are read as others
module _ {A B : Type 0} (valid : A → Type 0) (encoding : A → List ℕ) (right : B → Type 0) (octets_of : B → List ℕ) (f : A → B)
    (are : (v : A) → valid v → right (f v)) (reads : (v : A) → encoding v ≡ octets_of (f v)) where
  pub all_read : (vs : List A) → AllValid valid vs → AllValid right (map f vs)
  all_read [] h = tt
  all_read (v ∷ vs) h = (are v h.0, all_read vs h.1)

  pub joined_read : (vs : List A) → joined_encodings encoding vs ≡ joined_encodings octets_of (map f vs)
  joined_read [] = refl
  joined_read (v ∷ vs) = ap (λ x. x ++ joined_encodings encoding vs) (reads v) ∙ ap (λ x. octets_of (f v) ++ x) (joined_read vs)

  abbrev pub list_read : (octets : List ℕ) → IsListOf valid encoding octets → IsListOf right octets_of octets
  list_read octets l = record { items = map f l.items; are_valid = all_read l.items l.are_valid; joined = l.joined ∙ joined_read l.items }

-- one of the items that are read has a property
pub some_read : {A B : Type 0} (f : A → B) (P : B → Type 0) (vs : List A) → SomeItem (λ v. P (f v)) vs ↔ SomeItem P (map f vs)
some_read f P vs = (to f P vs, back f P vs)
  where
    to : {A B : Type 0} (f : A → B) (P : B → Type 0) (vs : List A) → SomeItem (λ v. P (f v)) vs → SomeItem P (map f vs)
    to f P [] h = h
    to f P (v ∷ vs) (inl h) = inl h
    to f P (v ∷ vs) (inr h) = inr (to f P vs h)

    back : {A B : Type 0} (f : A → B) (P : B → Type 0) (vs : List A) → SomeItem P (map f vs) → SomeItem (λ v. P (f v)) vs
    back f P [] h = h
    back f P (v ∷ vs) (inl h) = inl h
    back f P (v ∷ vs) (inr h) = inr (back f P vs h)

-- one of a list, or one item more, has a property
pub some_on : {A : Type 0} (P : A → Type 0) (b one : Bool) (vs : List A) (v : A) → (b ≡ true) ↔ SomeItem P vs → (one ≡ true) ↔ P v → ((b || one) ≡ true) ↔ SomeItem P (vs ++ v ∷ [])
some_on P b one vs v h k = (to P b one vs v h k, back P b one vs v h k)
  where
    last : {A : Type 0} (P : A → Type 0) (vs : List A) (v : A) → P v → SomeItem P (vs ++ v ∷ [])
    last P [] v p = inl p
    last P (w ∷ vs) v p = inr (last P vs v p)

    early : {A : Type 0} (P : A → Type 0) (vs : List A) (v : A) → SomeItem P vs → SomeItem P (vs ++ v ∷ [])
    early P [] v p = absurd p
    early P (w ∷ vs) v (inl p) = inl p
    early P (w ∷ vs) v (inr p) = inr (early P vs v p)

    split : {A : Type 0} (P : A → Type 0) (vs : List A) (v : A) → SomeItem P (vs ++ v ∷ []) → SomeItem P vs ⊎ P v
    split P [] v (inl p) = inr p
    split P [] v (inr p) = absurd p
    split P (w ∷ vs) v (inl p) = inl (inl p)
    split P (w ∷ vs) v (inr p) = elim (split P vs v p) [ inl q ↦ inl (inr q) | inr q ↦ inr q ]

    to : {A : Type 0} (P : A → Type 0) (b one : Bool) (vs : List A) (v : A) → (b ≡ true) ↔ SomeItem P vs → (one ≡ true) ↔ P v → (b || one) ≡ true → SomeItem P (vs ++ v ∷ [])
    to P true one vs v h k e = early P vs v (h.0 refl)
    to P false one vs v h k e = last P vs v (k.0 e)

    or_true : (b : Bool) → (b || true) ≡ true
    or_true true = refl
    or_true false = refl

    back : {A : Type 0} (P : A → Type 0) (b one : Bool) (vs : List A) (v : A) → (b ≡ true) ↔ SomeItem P vs → (one ≡ true) ↔ P v → SomeItem P (vs ++ v ∷ []) → (b || one) ≡ true
    back P b one vs v h k p = elim (split P vs v p) [ inl q ↦ ap (λ x. x || one) (h.1 q) | inr q ↦ ap (λ x. b || x) (k.1 q) ∙ or_true b ]

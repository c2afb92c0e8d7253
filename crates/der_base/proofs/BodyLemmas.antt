-- No item and no body is a proper prefix of another; all are at levels 1 to 64.
use Rattle.std.proofs.Common.{◌≡◌, ◌≢◌, ℕ, suc, ◌+◌, ◌≤◌, Bool, List, ◌∷◌, ◌++◌, length, refl, sym, ap, ◌∙◌, append_assoc}
use Rattle.der_base.specs.Length.{length_octets}
use Rattle.der_base.specs.Tag.{IsIdentifier}
use Rattle.der_base.specs.Body.{Item, Body, Items, Open, definite, indefinite, ends, more, none, then_item, first, deeper}
use Rattle.der_base.specs.declared.tag.Tag.{Tag}
use Rattle.der_base.specs.declared.encoding_rules.EncodingRules.TheVariants.{Ber}
use Rattle.der_base.proofs.DigitLemmas.{same_length_front}
use Rattle.der_base.proofs.LengthLemmas.{length_front, length_definite}
use Rattle.der_base.proofs.IdentifierLemmas.{identifier_begins, identifier_front}

-- items, bodies and beginnings have a level

pub item_level : {level parts : ℕ} {item : List ℕ} → Item level parts item → (1 ≤ level) × (level ≤ 64)
item_level (definite at id contents l) = at
item_level (indefinite at id b) = at

pub body_level : {level parts : ℕ} {body : List ℕ} → Body level parts body → (1 ≤ level) × (level ≤ 64)
body_level (ends at) = at
body_level (more i b) = item_level i

pub items_level : {level parts : ℕ} {items : List ℕ} → Items level parts items → (1 ≤ level) × (level ≤ 64)
items_level (none at) = at
items_level (then_item all i) = item_level i

pub open_level : {level parts : ℕ} {octets : List ℕ} → Open level parts octets → (1 ≤ level) × (level ≤ 64)
open_level (first all) = items_level all
open_level (deeper p id all) = items_level all

-- an item is not empty, and its first octet is not 0
pub item_begins : {level n : ℕ} {item : List ℕ} → Item level n item → (o : ℕ) × (rest : List ℕ) × (item ≡ o ∷ rest) × (o ≢ 0)
item_begins (definite _ id contents l) = let b = identifier_begins id in (b.0, b.1 ++ (length_octets (length contents) ++ contents), ap (λ l. l ++ (length_octets (length contents) ++ contents)) b.2, b.3)
item_begins (indefinite {body = body} _ id b) = let h = identifier_begins id in (h.0, h.1 ++ 128 ∷ body, ap (λ l. l ++ 128 ∷ body) h.2, h.3)

-- no item begins with a zero octet, so none with the end-of-contents octets
pub no_item_at_end : {level n : ℕ} {item : List ℕ} → Item level n item → (x y : List ℕ) → item ++ x ≡ 0 ∷ y → ⊥
no_item_at_end h x y e = let b = item_begins h in b.3 (let f : b.0 ∷ (b.1 ++ x) ≡ 0 ∷ y = ap (λ l. l ++ x) (sym b.2) ∙ e in cc)

-- no item with a definite length is a proper prefix of another
pub definite_front : {a b : List ℕ} {t u : Tag} {p q : Bool} → IsIdentifier Ber a t p → IsIdentifier Ber b u q → (c d x y : List ℕ) → (a ++ (length_octets (length c) ++ c)) ++ x ≡ (b ++ (length_octets (length d) ++ d)) ++ y → (a ++ (length_octets (length c) ++ c) ≡ b ++ (length_octets (length d) ++ d)) × (x ≡ y)
definite_front {a} {b} h k c d x y e =
    let one = identifier_front h k (length_octets (length c) ++ (c ++ x)) (length_octets (length d) ++ (d ++ y)) (simp append_assoc at e) in
    let two = length_front (length c) (length d) (c ++ x) (d ++ y) one.3 in
    let three = same_length_front c d x y two.0 two.1 in
    (ap (λ l. l ++ (length_octets (length c) ++ c)) one.0 ∙ ap (λ l. b ++ (length_octets (length l) ++ l)) three.0, three.1)

-- an item with a definite length and one in the indefinite form differ
pub mixed_front : {a b : List ℕ} {t u : Tag} {p q : Bool} → IsIdentifier Ber a t p → IsIdentifier Ber b u q → (c d x y : List ℕ) → (a ++ (length_octets (length c) ++ c)) ++ x ≡ (b ++ 128 ∷ d) ++ y → ⊥
mixed_front h k c d x y e =
    let one = identifier_front h k (length_octets (length c) ++ (c ++ x)) (128 ∷ (d ++ y)) (simp append_assoc at e) in
    length_definite (length c) (c ++ x) (d ++ y) one.3

mutual
  -- no item is a proper prefix of another, whatever their levels
  pub item_front : {k l m n : ℕ} {i j : List ℕ} → Item k m i → Item l n j → (x y : List ℕ) → i ++ x ≡ j ++ y → (i ≡ j) × (m ≡ n) × (x ≡ y)
  item_front (definite _ h c _) (definite _ g d _) x y e = let r = definite_front h g c d x y e in (r.0, refl, r.1)
  item_front (definite _ h c _) (indefinite {body = d} _ g _) x y e = absurd (mixed_front h g c d x y e)
  item_front (indefinite {body = c} _ h _) (definite _ g d _) x y e = absurd (mixed_front g h d c y x (sym e))
  item_front (indefinite {id = a} {body = c} _ h s) (indefinite {id = b} {body = d} _ g t) x y e =
      let one = identifier_front h g (128 ∷ (c ++ x)) (128 ∷ (d ++ y)) (simp append_assoc at e) in
      let tail : c ++ x ≡ d ++ y = let f : 128 ∷ (c ++ x) ≡ 128 ∷ (d ++ y) = one.3 in cc in
      let two = body_front s t x y tail in
      (ap (λ l. l ++ 128 ∷ c) one.0 ∙ ap (λ l. b ++ 128 ∷ l) two.0, ap suc two.1, two.2)

  -- no body is a proper prefix of another, whatever their levels
  pub body_front : {k l m n : ℕ} {a b : List ℕ} → Body k m a → Body l n b → (x y : List ℕ) → a ++ x ≡ b ++ y → (a ≡ b) × (m ≡ n) × (x ≡ y)
  body_front (ends _) (ends _) x y e = (refl, refl, cc)
  body_front (ends _) (more {item = j} {body = b} g t) x y e = absurd (no_item_at_end g (b ++ y) (0 ∷ x) (sym (e ∙ append_assoc j b y)))
  body_front (more {item = i} {body = a} h s) (ends _) x y e = absurd (no_item_at_end h (a ++ x) (0 ∷ y) (sym (append_assoc i a x) ∙ e))
  body_front (more {m = m} {n = n} {item = i} {body = a} h s) (more {m = p} {n = q} {item = j} {body = b} g t) x y e =
      let one = item_front h g (a ++ x) (b ++ y) (sym (append_assoc i a x) ∙ e ∙ append_assoc j b y) in
      let two = body_front s t x y one.2 in
      (ap (λ l. l ++ a) one.0 ∙ ap (λ l. j ++ l) two.0, ap (λ l. l + n) one.1 ∙ ap (λ l. p + l) two.1, two.2)

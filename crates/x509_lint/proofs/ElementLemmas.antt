-- Lemmas on elements of any tag.
use Rattle.std.proofs.Common.{◌≡◌, ℕ, ◌^◌, ◌<◌, ◌↔◌, Bool, IsSome, Option, Some, None, is_some, not, true, false, List, [], ◌∷◌, ◌++◌, refl, sym, ap, subst, ◌∙◌}
use Rattle.der.specs.Prelude.{ReaderState, Tag, element_octets, rest_of}
use Rattle.der.specs.Tag.{label}
use Rattle.der.proofs.DelimitedLemmas.{element_front, elements_delimited}
use Rattle.der_asn1.specs.AnyRef.{IsAny, any_contents}
use Rattle.der_asn1.specs.Items.{GivesItem}
use Rattle.der_asn1.specs.declared.elements.any.AnyRef.{AnyRef}
use Rattle.x509.proofs.ItemLemmas.{AreApartItems}
use Rattle.x509_lint.specs.Elements.{AreElements, IsElement, any_encoding}

append_nil : (l : List ℕ) → l ++ [] ≡ l
append_nil [] = refl
append_nil (o ∷ l) = ap (λ x. o ∷ x) (append_nil l)

empty_front : (a x : List ℕ) → a ++ x ≡ [] → a ≡ []
empty_front [] x e = refl
empty_front (o ∷ a) x e = absurd (cc)

-- one element alone
pub element_same : (t u : Tag) (c d : List ℕ) → element_octets t c ≡ element_octets u d → (t ≡ u) × (c ≡ d)
element_same t u c d e =
    let f = element_front t u c d [] [] (ap (λ l. l ++ []) e) in (f.0, f.1)

pub any_same : (v w : AnyRef) → any_encoding v ≡ any_encoding w → (v.tag ≡ w.tag) × (any_contents v ≡ any_contents w)
any_same v w e =
    let f = element_front v.tag w.tag (any_contents v) (any_contents w) [] [] (ap (λ l. l ++ []) e) in (f.0, f.1)

same_encoding : (t u : Tag) (c d : List ℕ) → t ≡ u → c ≡ d → element_octets t c ≡ element_octets u d
same_encoding t u c d e f = ap (λ x. element_octets x c) e ∙ ap (element_octets u) f

pub any_apart : AreApartItems IsAny any_encoding
any_apart =
    record {
      front = λ v w x y is are e. (let f = element_front v.tag w.tag (any_contents v) (any_contents w) x y e in (same_encoding v.tag w.tag (any_contents v) (any_contents w) f.0 f.1, f.2));
      some = λ v x e. (elements_delimited (λ w. w.tag) any_contents).some v (empty_front (any_encoding v) x e);
    }

-- a property of tags and contents holds of elements with the same encoding
pub any_keep : (P : Tag → List ℕ → Type 0) (v w : AnyRef) → IsAny v → IsAny w → any_encoding v ≡ any_encoding w → P v.tag (any_contents v) → P w.tag (any_contents w)
any_keep P v w is are e h =
    let same = any_same v w e in
    subst (λ t. P t (any_contents w)) same.0 (subst (P v.tag) same.1 h)

-- an element with a tag and contents
abbrev pub element : Tag → List ℕ → AnyRef
element t c = record { tag = t; contents = record { ref_ptr = (0, 0); now = c } }

pub one_element : (octets : List ℕ) (t : Tag) (c : List ℕ) → (label t).number < 2 ^ 32 → octets ≡ element_octets t c → AreElements octets
one_element octets t c small e = record { items = element t c ∷ []; are_valid = (small, tt); joined = e ∙ sym (append_nil (element_octets t c)) }

-- two elements are not one
pub not_two : (octets : List ℕ) (t : Tag) (c : List ℕ) (v w : AnyRef) (r s : List ℕ) → octets ≡ any_encoding v ++ r → r ≡ any_encoding w ++ s → octets ≡ element_octets t c → ⊥
not_two octets t c v w r s e more one =
    let f = element_front v.tag t (any_contents v) c r [] (sym e ∙ one ∙ sym (append_nil (element_octets t c))) in
    any_apart.some w s (sym more ∙ f.2)

-- what a walk over elements gives next
abbrev Given : {S : Type 0} → (S → ReaderState) → S → Option AnyRef → S → Type 0
Given state s next u = GivesItem IsAny any_encoding (state s) next (state u)

-- a walk over elements has given one, and then another
pub second : {S : Type 0} (state : S → ReaderState) (octets : List ℕ) (t : Tag) (c : List ℕ) (v : AnyRef) (s u : S) (next : Option AnyRef)
    → octets ≡ any_encoding v ++ rest_of (state s) → Given state s next u → is_some next ≡ true → octets ≡ element_octets t c → ⊥
second state octets t c v s u None e g some one = absurd (let wrong : false ≡ true = some in cc)
second state octets t c v s u (Some w) e g some one = not_two octets t c v w (rest_of (state s)) (rest_of (state u)) e g.1.split one

-- a check that holds exactly if something does, negated
pub negated : {A : Type 0} (b : Bool) → (b ≡ true) ↔ A → (not b ≡ true) ↔ (A → ⊥)
negated true h = (λ e. absurd (let f : false ≡ true = e in cc), λ n. absurd (n (h.0 refl)))
negated false h = (λ _ a. absurd (let f : false ≡ true = h.1 a in cc), λ _. refl)

-- a negated test
pub not_exactly : (b n : Bool) → b ≡ n → (not b ≡ true) ↔ (n ≡ false)
not_exactly true n e = (λ f. absurd (let g : false ≡ true = f in cc), λ f. absurd (let g : true ≡ false = e ∙ f in cc))
not_exactly false n e = (λ _. sym e, λ _. refl)

-- the contents of an element are the only ones
pub same_contents : (octets : List ℕ) (t : Tag) (c d : List ℕ) → IsElement octets t c → IsElement octets t d → c ≡ d
same_contents octets t c d is are = (element_same t t c d (sym is.2 ∙ are.2)).1

-- what holds of the contents of an element holds of all its contents, and of some
pub of_all_contents : (P : List ℕ → Type 0) (octets : List ℕ) (t : Tag) (c : List ℕ) (b : Bool) → IsElement octets t c → (b ≡ true) ↔ P c
    → (b ≡ true) ↔ ((d : List ℕ) → IsElement octets t d → P d)
of_all_contents P octets t c b is h = (λ e d are. subst P (same_contents octets t c d is are) (h.0 e), λ all. h.1 (all c is))

pub of_some_contents : (P : List ℕ → Type 0) (octets : List ℕ) (t : Tag) (c : List ℕ) (b : Bool) → IsElement octets t c → (b ≡ true) ↔ P c
    → (b ≡ true) ↔ ((d : List ℕ) × IsElement octets t d × P d)
of_some_contents P octets t c b is h = (λ e. (c, is, h.0 e), λ some. h.1 (subst P (sym (same_contents octets t c some.0 is some.1)) some.2))

-- a value is there exactly if something holds
pub some_exactly : {A B : Type 0} (o : Option A) (b : Bool) → b ≡ is_some o → IsSome o ↔ B → (b ≡ true) ↔ B
some_exactly (Some v) b e h = (λ _. h.0 refl, λ _. e)
some_exactly None b e h = (λ t. absurd (let f : false ≡ true = sym e ∙ t in cc), λ held. absurd (let f : false ≡ true = h.1 held in cc))

-- one of two things holds, so both do exactly if the other does
pub both_with : {A B : Type 0} (b : Bool) → A → (b ≡ true) ↔ B → (b ≡ true) ↔ (A ↔ B)
both_with b a h = (λ e. (λ _. h.0 e, λ _. a), λ same. h.1 (same.0 a))

-- one of two things does not hold, so neither does exactly if the other does not
pub both_without : {A B : Type 0} (b : Bool) → (A → ⊥) → (b ≡ true) ↔ B → (not b ≡ true) ↔ (A ↔ B)
both_without true n h = (λ e. absurd (let f : false ≡ true = e in cc), λ same. absurd (n (same.1 (h.0 refl))))
both_without false n h = (λ _. (λ a. absurd (n a), λ b. absurd (let f : false ≡ true = h.1 b in cc)), λ _. refl)

-- two checks, the first of which holds
pub and_with : {A B : Type 0} (b : Bool) → A → (b ≡ true) ↔ B → (b ≡ true) ↔ (A × B)
and_with b a h = (λ e. (a, h.0 e), λ both. h.1 both.1)

-- a check of what a premise demands, which holds
pub given_exactly : {A B : Type 0} (b : Bool) → A → (b ≡ true) ↔ B → (b ≡ true) ↔ (A → B)
given_exactly b a h = (λ e _. h.0 e, λ f. h.1 (f a))

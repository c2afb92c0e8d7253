-- Lemmas on walks over lists: what is left of a list after an item.
use Rattle.std.proofs.Common.{◌≡◌, ◌↔◌, ℕ, Bool, true, false, List, [], ◌∷◌, ◌++◌, All, inl, inr, not, refl, sym, ap, subst, ◌∙◌}
use Rattle.std.proofs.Math.Logic.{∥∥₁_map}
use Rattle.std.proofs.lemmas.Grind.{not_there}
use Rattle.std.proofs.lemmas.List.Elements.{All-head, All-tail, All-cons, All-nil}
use Rattle.der_asn1.specs.SequenceOf.{AllValid, IsListOf, joined_encodings}
use Rattle.x509.proofs.ItemLemmas.{AreApartItems}
use Rattle.x509_names.specs.Lists.{AreListsWith, IsListWith, Pairwise, SomeItem}

module _ {A : Type 0} (valid : A → Type 0) (encoding : A → List ℕ) (apart : AreApartItems valid encoding) where
  -- the octets of an item and of those after it
  pub record IsNext (octets : List ℕ) (v : A) (others : List ℕ) : Type 0 where
    pub is : valid v
    pub split : octets ≡ encoding v ++ others

  -- a list with these octets begins with this item
  record Opened (items : List A) (v : A) (others : List ℕ) : Type 0 where
    pub first : A
    pub rest : List A
    pub whole : items ≡ first ∷ rest
    pub is : valid first
    pub same : encoding v ≡ encoding first
    pub list : IsListOf valid encoding others
    pub items_are : list.items ≡ rest

  opened_items : (items : List A) (octets : List ℕ) (v : A) (others : List ℕ) → AllValid valid items → octets ≡ joined_encodings encoding items → IsNext octets v others → Opened items v others
  opened_items [] octets v others are joined n = absurd (apart.some v others (sym n.split ∙ joined))
  opened_items (w ∷ ws) octets v others are joined n =
      let f = apart.front v w others (joined_encodings encoding ws) n.is are.0 (sym n.split ∙ joined) in
      record { first = w; rest = ws; whole = refl; is = are.0; same = f.0; list = record { items = ws; are_valid = are.1; joined = f.1 }; items_are = refl }

  opened : (octets : List ℕ) (v : A) (others : List ℕ) → IsNext octets v others → (l : IsListOf valid encoding octets) → Opened l.items v others
  opened octets v others n l = opened_items l.items octets v others l.are_valid l.joined n

  abbrev pub closed : (octets : List ℕ) (v : A) (others : List ℕ) → IsNext octets v others → IsListOf valid encoding others → IsListOf valid encoding octets
  closed octets v others n l = record { items = v ∷ l.items; are_valid = (n.is, l.are_valid); joined = n.split ∙ ap (λ x. encoding v ++ x) l.joined }

  empty_items : (items : List A) (octets : List ℕ) → octets ≡ joined_encodings encoding items → octets ≡ [] → items ≡ []
  empty_items [] octets joined none = refl
  empty_items (w ∷ ws) octets joined none = absurd (apart.some w (joined_encodings encoding ws) (sym joined ∙ none))

  empty : (octets : List ℕ) → octets ≡ [] → (l : IsListOf valid encoding octets) → l.items ≡ []
  empty octets none l = empty_items l.items octets l.joined none

  abbrev pub no_items : (octets : List ℕ) → octets ≡ [] → IsListOf valid encoding octets
  no_items octets none = record { items = []; are_valid = tt; joined = none }

  abbrev Keeps : (A → Type 0) → Type 0
  Keeps P = (v w : A) → valid v → valid w → encoding v ≡ encoding w → P v → P w

  abbrev pub Lists : List ℕ → Type 0
  Lists octets = IsListOf valid encoding octets

  -- each item of a list has the property, or one has
  module _ (P : A → Type 0) (keep : Keeps P) where
    abbrev pub Each : List ℕ → Type 0
    Each octets = IsListWith valid encoding (All P) octets

    abbrev pub Some : List ℕ → Type 0
    Some octets = IsListWith valid encoding (SomeItem P) octets

    pub each_end : (octets : List ℕ) → octets ≡ [] → Each octets
    each_end octets none = ∣ (no_items octets none, All-nil P) ∣₁

    each_after : (octets : List ℕ) (v : A) (others : List ℕ) → IsNext octets v others → (l : Lists octets) → All P l.items → (m : Lists others) × All P m.items
    each_after octets v others n l all =
        let o = opened octets v others n l in
        (o.list, subst (All P) (sym o.items_are) (All-tail P o.first o.rest (subst (All P) o.whole all)))

    pub each_step : (octets : List ℕ) (v : A) (others : List ℕ) → IsNext octets v others → P v → Each octets ↔ Each others
    each_step octets v others n h = (
      λ all. ∥∥₁_map all (λ x. each_after octets v others n x.0 x.1),
      λ all. ∥∥₁_map all (λ x. (closed octets v others n x.0, All-cons P v x.0.items h x.1)),
    )

    first_of : (octets : List ℕ) (v : A) (others : List ℕ) → IsNext octets v others → (l : Lists octets) → All P l.items → P v
    first_of octets v others n l all =
        let o = opened octets v others n l in
        keep o.first v o.is n.is (sym o.same) (All-head P o.first o.rest (subst (All P) o.whole all))

    pub each_stop : (octets : List ℕ) (v : A) (others : List ℕ) → IsNext octets v others → (P v → ⊥) → Each octets → ⊥
    each_stop octets v others n fails all = not_there all (λ x. fails (first_of octets v others n x.0 x.1))

    none_of_empty : (octets : List ℕ) → octets ≡ [] → (l : Lists octets) → SomeItem P l.items → ⊥
    none_of_empty octets none l some = subst (SomeItem P) (empty octets none l) some

    pub some_end : (octets : List ℕ) → octets ≡ [] → Some octets → ⊥
    some_end octets none some = not_there some (λ x. none_of_empty octets none x.0 x.1)

    pub some_found : (octets : List ℕ) (v : A) (others : List ℕ) → IsNext octets v others → ∥ Lists others ∥₁ → P v → Some octets
    some_found octets v others n there h = ∥∥₁_map there (λ l. (closed octets v others n l, inl h))

    some_after : (octets : List ℕ) (v : A) (others : List ℕ) → IsNext octets v others → (P v → ⊥) → (l : Lists octets) → SomeItem P l.items → (m : Lists others) × SomeItem P m.items
    some_after octets v others n fails l some =
        let o = opened octets v others n l in
        elim (subst (SomeItem P) o.whole some) [
          | inl h ↦ absurd (fails (keep o.first v o.is n.is (sym o.same) h))
          | inr more ↦ (o.list, subst (SomeItem P) (sym o.items_are) more)
        ]

    pub some_step : (octets : List ℕ) (v : A) (others : List ℕ) → IsNext octets v others → (P v → ⊥) → Some octets ↔ Some others
    some_step octets v others n fails = (
      λ some. ∥∥₁_map some (λ x. some_after octets v others n fails x.0 x.1),
      λ some. ∥∥₁_map some (λ x. (closed octets v others n x.0, inr x.1)),
    )

  -- the items of two lists match in pairs
  module _ (R : A → A → Type 0) (keep : (v w x y : A) → valid v → valid w → valid x → valid y → encoding v ≡ encoding w → encoding x ≡ encoding y → R v x → R w y) (whole : Bool) where
    abbrev pub Pairs : List ℕ → List ℕ → Type 0
    Pairs first second = AreListsWith valid encoding (Pairwise R whole) first second

    abbrev Paired : List ℕ → List ℕ → Type 0
    Paired first second = (l : Lists first) × (m : Lists second) × Pairwise R whole l.items m.items

    pub pairs_end : (first second : List ℕ) → first ≡ [] → second ≡ [] → Pairs first second
    pairs_end first second none nothing = ∣ (no_items first none, no_items second nothing, tt) ∣₁

    -- the lists after their first items, and the relation of these
    opened_both : (first second : List ℕ) (v w : A) (x y : List ℕ) → IsNext first v x → IsNext second w y → Paired first second → R v w × Paired x y
    opened_both first second v w x y n k both =
        let o = opened first v x n both.0 in
        let p = opened second w y k both.1 in
        let pairs : Pairwise R whole (o.first ∷ o.rest) (p.first ∷ p.rest) =
        subst (λ z. Pairwise R whole z (p.first ∷ p.rest)) o.whole (subst (Pairwise R whole both.0.items) p.whole both.2) in (
          keep o.first v p.first w o.is n.is p.is k.is (sym o.same) (sym p.same) pairs.0,
          (o.list, p.list, subst (λ z. Pairwise R whole z p.list.items) (sym o.items_are) (subst (Pairwise R whole o.rest) (sym p.items_are) pairs.1)),
        )

    pub pairs_step : (first second : List ℕ) (v w : A) (x y : List ℕ) → IsNext first v x → IsNext second w y → R v w → Pairs first second ↔ Pairs x y
    pairs_step first second v w x y n k h = (
      λ all. ∥∥₁_map all (λ both. (opened_both first second v w x y n k both).1),
      λ all. ∥∥₁_map all (λ both. (closed first v x n both.0, closed second w y k both.1, (h, both.2))),
    )

    pub pairs_stop : (first second : List ℕ) (v w : A) (x y : List ℕ) → IsNext first v x → IsNext second w y → (R v w → ⊥) → Pairs first second → ⊥
    pairs_stop first second v w x y n k fails all = not_there all (λ both. fails (opened_both first second v w x y n k both).0)

    -- the first list has an item more
    too_short : (first second : List ℕ) (v : A) (x : List ℕ) → IsNext first v x → second ≡ [] → Paired first second → ⊥
    too_short first second v x n none both =
        let o = opened first v x n both.0 in
        subst (λ z. Pairwise R whole z []) o.whole (subst (Pairwise R whole both.0.items) (empty second none both.1) both.2)

    pub pairs_short : (first second : List ℕ) (v : A) (x : List ℕ) → IsNext first v x → second ≡ [] → Pairs first second → ⊥
    pairs_short first second v x n none all = not_there all (λ both. too_short first second v x n none both)

    -- the second list has an item more
    pub pairs_more : (first second : List ℕ) (w : A) (y : List ℕ) → first ≡ [] → IsNext second w y → ∥ Lists y ∥₁ → whole ≡ false → Pairs first second
    pairs_more first second w y none k here part = ∥∥₁_map here (λ m. (no_items first none, closed second w y k m, part))

    only_part : (first second : List ℕ) (w : A) (y : List ℕ) → first ≡ [] → IsNext second w y → Paired first second → whole ≡ false
    only_part first second w y none k both =
        let p = opened second w y k both.1 in
        subst (λ z. Pairwise R whole z (p.first ∷ p.rest)) (empty first none both.0) (subst (Pairwise R whole both.0.items) p.whole both.2)

    pub pairs_long : (first second : List ℕ) (w : A) (y : List ℕ) → first ≡ [] → IsNext second w y → whole ≡ true → Pairs first second → ⊥
    pairs_long first second w y none k all_of all =
        not_there all (λ both. (let part : whole ≡ false = only_part first second w y none k both in let wrong : true ≡ false = sym all_of ∙ part in cc))

-- what a walk shows of all octets, it shows of those that are left
pub passed : {A B C : Type 0} → A ↔ B → B ↔ C → A ↔ C
passed f g = (λ a. g.0 (f.0 a), λ c. f.1 (g.1 c))

pub begun : (F : List ℕ → Type 0) (octets left : List ℕ) → left ≡ octets → F octets ↔ F left
begun F octets left e = (λ h. subst F (sym e) h, λ h. subst F e h)

pub begun_both : (F : List ℕ → List ℕ → Type 0) (a b x y : List ℕ) → x ≡ a → y ≡ b → F a b ↔ F x y
begun_both F a b x y e f = (λ h. subst (λ z. F z y) (sym e) (subst (F a) (sym f) h), λ h. subst (λ z. F z b) e (subst (F x) f h))

-- the answers of a check that found what it looked for, or did not
pub found : {A B : Type 0} → A ↔ B → B → (true ≡ true) ↔ A
found f b = (λ _. f.1 b, λ _. refl)

pub refused : {A B : Type 0} → A ↔ B → (B → ⊥) → (false ≡ true) ↔ A
refused f n = (λ e. absurd (let wrong : false ≡ true = e in cc), λ a. absurd (n (f.0 a)))

-- the second of two checks, where the first holds
pub and_with : {A B : Type 0} (b : Bool) → A → (b ≡ true) ↔ B → (b ≡ true) ↔ (A × B)
and_with b a h = (λ e. (a, h.0 e), λ both. h.1 both.1)

-- something is left of the second list, and its beginning alone counts, or the whole of it
pub left_over : {A B : Type 0} (whole : Bool) → A ↔ B → (whole ≡ false → B) → (whole ≡ true → B → ⊥) → (not whole ≡ true) ↔ A
left_over true f part all = (λ e. absurd (let wrong : false ≡ true = e in cc), λ a. absurd (all refl (f.0 a)))
left_over false f part all = (λ _. f.1 (part refl), λ _. refl)

-- Comparisons of items, pair by pair: `lists_order` has the cases of `iter_cmp` on the items of two
-- iterators (`ComparesItems`, `OfItems`); `ComparesJoined` and `SortsJoined` state when they are
-- byte order.
use Rattle.std.specs.Prelude.{◌≡◌, ◌≢◌, ℕ, List, [], ◌∷◌, Option, Some, None, Ok, Err, IfOk}
use Rattle.std.specs.Iterator.{YieldsThen, AlwaysYields}
use Rattle.std.specs.List.{AllZip, flat_map}
use Rattle.std.specs.declared.cmp.Ordering.TheVariants.{Less, Equal, Greater}
use Rattle.der_base.specs.Order.{byte_order}
use Rattle.der_base.specs.declared.tag.Tag.{Tag}
use Rattle.der_core.specs.DerOrd.{Compared, then_compared}
use Rattle.der_core.specs.Encode.{element_octets}

-- a result, or another one if it is `Equal`
abbrev pub and_compared : Compared → Compared → Compared
and_compared (Ok o) more = then_compared o more
and_compared (Err e) more = Err e

-- the first pair that is unequal or an error decides; otherwise the list that ends first is the
-- smaller
abbrev pub lists_order : {A : Type 0} → (A → A → Compared) → List A → List A → Compared
lists_order order [] [] = Ok Equal
lists_order order [] (y ∷ ys) = Ok Less
lists_order order (x ∷ xs) [] = Ok Greater
lists_order order (x ∷ xs) (y ∷ ys) = and_compared (order x y) (lists_order order xs ys)

-- the result after equal items: `Equal` if both iterators end; if only one ends, it is the smaller;
-- otherwise the comparison of the next pair, which is not `Equal`
abbrev pub LastCompared : {A : Type 0} → (A → A → Compared) → Option A → Option A → Compared
    → Type 0
LastCompared order None None answer = answer ≡ Ok Equal
LastCompared order None (Some y) answer = answer ≡ Ok Less
LastCompared order (Some x) None answer = answer ≡ Ok Greater
LastCompared order (Some x) (Some y) answer = (answer ≡ order x y) × (answer ≢ Ok Equal)

-- two iterators returned items that are equal pair by pair, and what they returned next decides
pub record ComparesItems {S T A : Type 0} (steps : S → Option A → S → Type 0)
    (others : T → Option A → T → Type 0) (s : S) (t : T) (order : A → A → Compared)
    (answer : Compared) : Type 0 where
  pub these : List A
  pub those : List A
  pub next_of_these : Option A
  pub next_of_those : Option A
  pub this_left : S
  pub that_left : T
  pub gave_these : YieldsThen steps s these next_of_these this_left
  pub gave_those : YieldsThen others t those next_of_those that_left
  pub equal : AllZip (λ x y. order x y ≡ Ok Equal) these those
  pub last : LastCompared order next_of_these next_of_those answer

-- P holds for the values of the items that two iterators always return
abbrev pub OfItems : {S T A B : Type 0} → (S → Option A → S → Type 0)
    → (T → Option A → T → Type 0) → (A → B) → S → T → (List B → List B → Type 0) → Type 0
OfItems {B = B} steps others value s t P =
    (xs ys : List B) → AlwaysYields steps value s xs → AlwaysYields others value t ys → P xs ys

-- the encodings of values, concatenated
abbrev pub joined_elements : {A : Type 0} → (A → Tag) → (A → List ℕ) → List A → List ℕ
joined_elements tag_of contents = flat_map (λ v. element_octets (tag_of v) (contents v))

-- the relation holds for each pair of items at the same index
abbrev pub EachPlace : {A : Type 0} → (A → A → Type 0) → List A → List A → Type 0
EachPlace is_next [] ys = Unit {0}
EachPlace is_next (x ∷ xs) [] = Unit {0}
EachPlace is_next (x ∷ xs) (y ∷ ys) = is_next x y × EachPlace is_next xs ys

-- if the relation holds for each pair, there is a result: the byte order of the concatenated octets
abbrev pub ComparesJoined : {A : Type 0} → (A → A → Type 0) → (A → List ℕ) → Compared
    → List A → List A → Type 0
ComparesJoined is_next octets answer xs ys =
    EachPlace is_next xs ys → answer ≡ Ok (byte_order (flat_map octets xs) (flat_map octets ys))

-- if the relation holds for each pair, a result, if there is one, is the byte order of the
-- concatenated octets
abbrev pub SortsJoined : {A : Type 0} → (A → A → Type 0) → (A → List ℕ) → Compared
    → List A → List A → Type 0
SortsJoined is_next octets answer xs ys =
    EachPlace is_next xs ys
    → IfOk answer (λ o. o ≡ byte_order (flat_map octets xs) (flat_map octets ys))

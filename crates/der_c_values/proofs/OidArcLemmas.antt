-- The arcs of an iterator as numbers of 64 bits.
use Rattle.std.proofs.Common.{◌≡◌, ℕ, ◌+◌, ◌-◌, ◌*◌, ◌^◌, ◌≤◌, ⊎_elim, Bool, true, false, nat_lt, ◌&&◌, Option, Some, None, List, [], ◌∷◌, ◌++◌, length, take, drop, map, min, unwrap_or, is_some, refl, sym, ap, ◌∙◌, arith}
use Rattle.std.proofs.lemmas.Bool.{cases_lt, lt-ltb, le-ltb}
use Rattle.der_asn1.specs.Arcs.{arcs_of, arcs_at, arcs_left, arc_items, items_at, items_of, first_arc, second_item, subidentifier_value, subidentifiers}
use Rattle.der_asn1.specs.declared.identifiers.arcs.Arcs.{Arcs}
use Rattle.der_asn1.specs.declared.identifiers.arcs.Stage.{Stage}
use Rattle.der_asn1.specs.declared.identifiers.arcs.Stage.TheVariants as stage
use Rattle.der_c_values.specs.Dotted.{all_fit}
use Rattle.der_c_values.specs.OidArcs.{are_narrow_arcs, narrow_item, item_numbers}
use Rattle.der_c_values.proofs.OidTextLemmas.{first_small}

-- what an item says of an arc
record IsItemOf (item : Option ℕ) (n : ℕ) : Type 0 where
  fits : is_some (narrow_item item) ≡ nat_lt n (2 ^ 64)
  number : nat_lt n (2 ^ 64) ≡ true → unwrap_or (narrow_item item) 0 ≡ n

some_item : (n : ℕ) → IsItemOf (Some n) n
some_item n = ⊎_elim
    (λ l. let is = lt-ltb n (2 ^ 64) l in record { fits = rw is refl; number = λ h. rw is refl })
    (λ g. let is = le-ltb n (2 ^ 64) g in record { fits = rw is refl; number = λ h. absurd (let wrong : false ≡ true = sym is ∙ h in cc) })
    (cases_lt n (2 ^ 64))

none_item : (n : ℕ) → 2 ^ 64 ≤ n → IsItemOf None n
none_item n g = let is = le-ltb n (2 ^ 64) g in record { fits = sym is; number = λ h. absurd (let wrong : false ≡ true = sym is ∙ h in cc) }

other_item : (n : ℕ) → IsItemOf (subidentifier_value n) n
other_item n = ⊎_elim
    (λ l. rw (lt-ltb n (2 ^ 128) l) (some_item n))
    (λ g. rw (le-ltb n (2 ^ 128) g) (none_item n (omega (arith, g))))
    (cases_lt n (2 ^ 128))

next_item : (n : ℕ) → IsItemOf (second_item n) (n - 40 * first_arc n)
next_item n = ⊎_elim
    (λ l. rw (lt-ltb n (2 ^ 128) l) (some_item (n - 40 * first_arc n)))
    (λ g. rw (le-ltb n (2 ^ 128) g) (none_item (n - 40 * first_arc n) (omega (arith, g, first_small n))))
    (cases_lt n (2 ^ 128))

-- what items say of arcs
record AreItemsOf (items : List (Option ℕ)) (arcs : List ℕ) : Type 0 where
  size : length items ≡ length arcs
  fits : all_fit (map narrow_item items) ≡ are_narrow_arcs arcs
  numbers : are_narrow_arcs arcs ≡ true → item_numbers items ≡ arcs

both_true : (a b : Bool) → (a && b) ≡ true → (a ≡ true) × (b ≡ true)
both_true true b h = (refl, h)
both_true false b h = absurd (let wrong : false ≡ true = h in cc)

more_items : {item : Option ℕ} {n : ℕ} {items : List (Option ℕ)} {arcs : List ℕ} → IsItemOf item n → AreItemsOf items arcs → AreItemsOf (item ∷ items) (n ∷ arcs)
more_items {item} {n} {items} {arcs} one all =
    record {
      size = omega (arith, all.size);
      fits = ap (λ b. b && all_fit (map narrow_item items)) one.fits ∙ ap (λ b. nat_lt n (2 ^ 64) && b) all.fits;
      numbers = λ h.
          let both = both_true (nat_lt n (2 ^ 64)) (are_narrow_arcs arcs) h in
          ap (λ m. m ∷ item_numbers items) (one.number both.0) ∙ ap (λ l. n ∷ l) (all.numbers both.1);
    }

no_items : AreItemsOf [] []
no_items = record { size = refl; fits = refl; numbers = λ h. refl }

others : (ns : List ℕ) → AreItemsOf (map subidentifier_value ns) ns
others [] = no_items
others (n ∷ ns) = more_items (other_item n) (others ns)

at_stage : (at : Stage) (octets : List ℕ) → AreItemsOf (items_at at octets) (arcs_at at octets)
at_stage stage.First octets = go (subidentifiers 0 octets)
  where
    go : (ns : List ℕ) → AreItemsOf (items_of ns) (arcs_of ns)
    go [] = no_items
    go (n ∷ ns) = more_items (some_item (first_arc n)) (more_items (next_item n) (others ns))
at_stage stage.Second octets = go (subidentifiers 0 octets)
  where
    go : (ns : List ℕ) → AreItemsOf (drop 1 (items_of ns)) (drop 1 (arcs_of ns))
    go [] = no_items
    go (n ∷ ns) = more_items (next_item n) (others ns)
at_stage stage.Other octets = others (subidentifiers 0 octets)

-- how many arcs are left, whether they fit, and their numbers
pub items_count : (a : Arcs) → length (arc_items a) ≡ length (arcs_left a)
items_count a = (at_stage a.stage a.octets.now).size

pub items_fit : (a : Arcs) → all_fit (map narrow_item (arc_items a)) ≡ are_narrow_arcs (arcs_left a)
items_fit a = (at_stage a.stage a.octets.now).fits

pub items_numbers : (a : Arcs) → are_narrow_arcs (arcs_left a) ≡ true → item_numbers (arc_items a) ≡ arcs_left a
items_numbers a = (at_stage a.stage a.octets.now).numbers

-- what was counted, and what is left, are the whole, up to the largest count
pub record IsCountingArcs (all left : List (Option ℕ)) (count : ℕ) : Type 0 where
  pub few : count ≤ 2 ^ 64 - 1
  pub same : all_fit (map narrow_item left) ≡ all_fit (map narrow_item all)
  pub counted : min (count + length left) (2 ^ 64 - 1) ≡ min (length all) (2 ^ 64 - 1)

-- what was put, and what is left, are the whole
pub record IsPuttingArcs (all left : List (Option ℕ)) (at : ℕ) (old new : List ℕ) : Type 0 where
  pub size : length new ≡ length old
  pub within : at + length left ≡ length all
  pub put : take at new ++ item_numbers left ≡ item_numbers all
  pub following : drop at new ≡ drop at old

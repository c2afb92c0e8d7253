-- Lemmas on rooms of the caller that are filled one item after the other.
use Rattle.std.proofs.Common.{◌≡◌, ◌≤◌, ◌<◌, ◌+◌, ℕ, List, [], ◌∷◌, ◌++◌, length, map, take, Option, Some, None, refl, sym, ap, subst, ◌∙◌, append-nil, append_assoc, arith}
use Rattle.std.proofs.lemmas.List.{length_push, length-map}
use Rattle.x509_path.specs.PolicyRooms.{Grows, IsWithin, Pushed, Puts}

map_push : {X Y : Type 0} (f : X → Y) (xs : List X) (x : X) → map f (xs ++ x ∷ []) ≡ map f xs ++ f x ∷ []
map_push f [] x = refl
map_push f (y ∷ xs) x = ap (λ l. f y ∷ l) (map_push f xs x)

-- nothing is added
pub grows_none : {X : Type 0} (room : List X) (at : ℕ) → at ≤ length room → Grows room room at at []
grows_none room at h = record { front = sym (append-nil (take at room)); end = omega arith; fits = h }

grows_push : {X : Type 0} (old mid new : List X) (from at to : ℕ) (added : List X) (x : X) → length mid ≡ length old → Grows old mid from at added
    → (to ≡ at + 1) × (at < length mid) × (take to new ≡ take at mid ++ x ∷ []) → Grows old new from to (added ++ x ∷ [])
grows_push old mid new from at to added x same g p =
    let longer = length_push added x in
    record {
      front = p.2 ∙ ap (λ l. l ++ x ∷ []) g.front ∙ append_assoc (take from old) added (x ∷ []);
      end = omega (arith, g.end, p.0, longer);
      fits = omega (arith, p.0, p.1, same);
    }

module _ {X Y : Type 0} (says : X → Y) where
  pub puts_none : (room : List X) (start : ℕ) → start ≤ length room → Puts says room room start (Some start) []
  puts_none room start h = ([], grows_none room start h, refl)

  pub puts_within : (old mid : List X) (from : ℕ) (end : Option ℕ) (ys : List Y) → length mid ≡ length old → Puts says old mid from end ys → IsWithin mid end
  puts_within old mid from None ys same h = tt
  puts_within old mid from (Some at) ys same h = omega (arith, same, h.1.fits)

  -- one item more
  pub puts_more : (old mid new : List X) (from : ℕ) (end result : Option ℕ) (ys : List Y) (x : X) (y : Y) → length mid ≡ length old
      → Puts says old mid from end ys → Pushed mid new end x result → says x ≡ y → Puts says old new from result (ys ++ y ∷ [])
  puts_more old mid new from None None ys x y same h p is = let longer = length_push ys y in omega (arith, h, longer)
  puts_more old mid new from None (Some to) ys x y same h p is = absurd (cc)
  puts_more old mid new from (Some at) None ys x y same h p is =
      let longer = length_push ys y in
      let added : length h.0 ≡ length ys = sym (length-map h.0 says) ∙ ap length h.2 in
      omega (arith, h.1.end, added, p, same, longer)
  puts_more old mid new from (Some at) (Some to) ys x y same h p is = (
    h.0 ++ x ∷ [],
    grows_push old mid new from at to h.0 x same h.1 p,
    map_push says h.0 x ∙ ap (λ l. l ++ says x ∷ []) h.2 ∙ ap (λ z. ys ++ z ∷ []) is,
  )

  -- one item of a walk more
  pub puts_item : {A : Type 0} (item : A → Y) (old mid new : List X) (from : ℕ) (end result : Option ℕ) (vs : List A) (v : A) (x : X) → length mid ≡ length old
      → Puts says old mid from end (map item vs) → Pushed mid new end x result → says x ≡ item v → Puts says old new from result (map item (vs ++ v ∷ []))
  puts_item item old mid new from end result vs v x same h p is =
      subst (Puts says old new from result) (sym (map_push item vs v)) (puts_more old mid new from end result (map item vs) x (item v) same h p is)

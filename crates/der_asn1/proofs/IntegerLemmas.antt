-- Lemmas on the digits of integers.
use Rattle.std.proofs.Common.{◌≡◌, ℕ, suc, ◌+◌, ◌-◌, ◌*◌, ◌/◌, ◌%◌, ◌^◌, ◌<◌, ◌≤◌, ⊎_elim, Bool, List, [], ◌∷◌, ◌++◌, length, drop, map, refl, sym, ap, subst, ◌∙◌, append_assoc, length-set, arith}
use Rattle.std.proofs.Math.ListN.{set}
use Rattle.std.proofs.Math.Nat.{pow-suc}
use Rattle.std.proofs.lemmas.Bool.{cases_lt}
use Rattle.std.proofs.lemmas.List.{drop-set}
use Rattle.std.proofs.lemmas.Int.Digits.{digits_of_step}
use Rattle.std.specs.Int.Digits.{digits_of}
use Rattle.der_asn1.specs.Integer.{turned}

pub map-append : {A B : Type 0} (f : A → B) (xs ys : List A) → map f (xs ++ ys) ≡ map f xs ++ map f ys
map-append f [] ys = refl
map-append f (x ∷ xs) ys = ap (λ l. f x ∷ l) (map-append f xs ys)

-- a buffer holds the last digits of a number, and there is space for the remaining ones before them
pub record IsBuilding (negative : Bool) (n : ℕ) (octets : List ℕ) (start left : ℕ) : Type 0 where
  pub some : 1 ≤ start
  pub inside : start ≤ 9
  pub space : left < 256 ^ (start - 1)
  pub size : length octets ≡ 9
  pub digits : map (turned negative) (digits_of 256 n) ≡ map (turned negative) (digits_of 256 left) ++ drop start octets

-- if digits remain, there is space for one
pub building_space : {negative : Bool} {n : ℕ} {octets : List ℕ} {start left : ℕ} → IsBuilding negative n octets start left → 0 < left → 2 ≤ start
building_space {start = start} {left = left} b h = ⊎_elim (λ l. l) (λ g. absurd (let one : start ≡ 1 = omega (arith, b.some) in let r : left < 256 ^ 0 = subst (λ s. left < 256 ^ (s - 1)) one b.space in omega arith)) (cases_lt 1 start)

pub building_continues : {negative : Bool} {n : ℕ} {octets : List ℕ} {start left : ℕ} (d : ℕ) → IsBuilding negative n octets start left → 0 < left → d ≡ turned negative (left % 256) → IsBuilding negative n (set octets (start - 1) d) (start - 1) (left / 256)
building_continues {negative} {n} {octets} {start} {left} d b pos is =
    let two = building_space b pos in
    let step : map (turned negative) (digits_of 256 left) ≡ map (turned negative) (digits_of 256 (left / 256)) ++ d ∷ [] =
    ap (map (turned negative)) (digits_of_step 256 left (omega arith) pos) ∙ map-append (turned negative) (digits_of 256 (left / 256)) (left % 256 ∷ []) ∙ ap (λ x. map (turned negative) (digits_of 256 (left / 256)) ++ x ∷ []) (sym is) in
    let shown : drop (start - 1) (set octets (start - 1) d) ≡ d ∷ drop start octets = drop-set octets (start - 1) d (omega (arith, b.inside, b.size)) ∙ ap (λ k. d ∷ drop k octets) (let e : start - 1 + 1 ≡ start = omega arith in e) in
    let power : 256 ^ (start - 1) ≡ 256 ^ (start - 2) * 256 = ap (λ k. 256 ^ k) (let e : start - 1 ≡ suc (start - 2) = omega arith in e) ∙ pow-suc 256 (start - 2) in
    record {
      some = omega arith;
      inside = omega (arith, b.inside);
      space = let e : start - 1 - 1 ≡ start - 2 = omega arith in subst (λ k. left / 256 < 256 ^ k) (sym e) (omega (arith, b.space, power));
      size = length-set octets (start - 1) d ∙ b.size;
      digits = b.digits ∙ ap (λ l. l ++ drop start octets) step ∙ append_assoc (map (turned negative) (digits_of 256 (left / 256))) (d ∷ []) (drop start octets) ∙ ap (λ l. map (turned negative) (digits_of 256 (left / 256)) ++ l) (sym shown);
    }

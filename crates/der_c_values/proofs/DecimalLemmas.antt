-- Building the decimal digits of a number.
use Rattle.std.proofs.Common.{◌≡◌, ℕ, suc, ◌+◌, ◌-◌, ◌*◌, ◌/◌, ◌%◌, ◌^◌, ◌<◌, ◌≤◌, ⊎_elim, List, [], ◌∷◌, ◌++◌, length, drop, map, sym, ap, subst, ◌∙◌, append_assoc, length-set, arith}
use Rattle.std.proofs.Math.ListN.{set}
use Rattle.std.proofs.Math.Nat.{pow-suc}
use Rattle.std.proofs.lemmas.Bool.{cases_lt}
use Rattle.std.proofs.lemmas.List.{drop-set, map-append}
use Rattle.std.proofs.lemmas.Int.Digits.{digits_of_step}
use Rattle.std.specs.Int.Digits.{digits_of}
use Rattle.der.proofs.DigitLemmas.{digits_positive}
use Rattle.der_c_values.specs.Dotted.{decimal_text}

-- the digits as characters
abbrev pub glyphs : List ℕ → List ℕ
glyphs ds = map (λ d. 48 + d) ds

-- a buffer holds the last digits of a number, and there is space for the remaining ones before them
pub record IsBuilding (n : ℕ) (octets : List ℕ) (start left : ℕ) : Type 0 where
  pub inside : start ≤ 39
  pub space : left < 10 ^ start
  pub size : length octets ≡ 39
  pub digits : glyphs (digits_of 10 n) ≡ glyphs (digits_of 10 left) ++ drop start octets

-- if digits remain, there is space for one
pub building_space : {n : ℕ} {octets : List ℕ} {start left : ℕ} → IsBuilding n octets start left → 0 < left → 1 ≤ start
building_space {start = start} {left = left} b h =
    ⊎_elim (λ l. l) (λ g. absurd (let none : start ≡ 0 = omega arith in let r : left < 10 ^ 0 = subst (λ s. left < 10 ^ s) none b.space in omega arith)) (cases_lt 0 start)

pub building_continues : {n : ℕ} {octets : List ℕ} {start left : ℕ} (d : ℕ) → IsBuilding n octets start left → 0 < left → d ≡ 48 + left % 10 → IsBuilding n (set octets (start - 1) d) (start - 1) (left / 10)
building_continues {n} {octets} {start} {left} d b pos is =
    let one = building_space b pos in
    let step : glyphs (digits_of 10 left) ≡ glyphs (digits_of 10 (left / 10)) ++ d ∷ [] =
    ap glyphs (digits_of_step 10 left (omega arith) pos) ∙ map-append (λ x. 48 + x) (digits_of 10 (left / 10)) (left % 10 ∷ []) ∙ ap (λ x. glyphs (digits_of 10 (left / 10)) ++ x ∷ []) (sym is) in
    let shown : drop (start - 1) (set octets (start - 1) d) ≡ d ∷ drop start octets =
    drop-set octets (start - 1) d (omega (arith, b.inside, b.size)) ∙ ap (λ k. d ∷ drop k octets) (let e : start - 1 + 1 ≡ start = omega arith in e) in
    let power : 10 ^ start ≡ 10 ^ (start - 1) * 10 = ap (λ k. 10 ^ k) (let e : start ≡ suc (start - 1) = omega arith in e) ∙ pow-suc 10 (start - 1) in
    record {
      inside = omega (arith, b.inside);
      space = omega (arith, b.space, power);
      size = length-set octets (start - 1) d ∙ b.size;
      digits = b.digits ∙ ap (λ l. l ++ drop start octets) step ∙ append_assoc (glyphs (digits_of 10 (left / 10))) (d ∷ []) (drop start octets) ∙ ap (λ l. glyphs (digits_of 10 (left / 10)) ++ l) (sym shown);
    }

-- the digits are complete
pub building_done : {n : ℕ} {octets : List ℕ} {start left : ℕ} → IsBuilding n octets start left → 0 < n → left ≡ 0 → drop start octets ≡ decimal_text n
building_done {n} {octets} {start} {left} b pos none =
    sym (ap glyphs (digits_positive 10 n pos) ∙ b.digits ∙ ap (λ k. glyphs (digits_of 10 k) ++ drop start octets) none)

-- Lengths: what is read of them, and their faults.
use Rattle.std.proofs.Common.{◌≡◌, ◌≢◌, ℕ, suc, ◌+◌, ◌*◌, ◌^◌, ◌<◌, ◌≤◌, IsTrue, Bool, true, List, [], ◌∷◌, ◌++◌, length, take, drop, get_or, refl, sym, ap, ◌∙◌, subst, ⊎_elim, length-take-le, arith}
use Rattle.std.proofs.lemmas.Bool.{cases_lt}
use Rattle.std.proofs.lemmas.List.{take-append-drop, get_or-take}
use Rattle.std.proofs.lemmas.Int.Digits.{number_after_append, number_after_ge, first_digits_of}
use Rattle.std.specs.Int.Digits.{digits_of, number_from_digits, number_from_digits_after, AllBelowBase}
use Rattle.der_base.specs.FixedOctets.{long_form}
use Rattle.der_base.specs.Length.{digits, length_octets}
use Rattle.der_base.proofs.DigitLemmas.{digits_positive, digits_of_number}
use Rattle.der_base.proofs.LengthLemmas.{length_small, length_large}
use Rattle.ber.specs.Length.{IsLength, short, long, indefinite, LengthNext}
use Rattle.ber.specs.Fault.{IsLengthFault, too_large, fault_at}
use Rattle.ber.specs.declared.length.Length.{Length}
use Rattle.ber.specs.declared.length.Length.TheVariants.{Definite, Indefinite}
use Rattle.ber.specs.declared.length_octets.LengthOctets.{LengthOctets}
use Rattle.ber.specs.declared.fault.Fault.{Fault}
use Rattle.ber.specs.declared.fault_kind.FaultKind.TheVariants.{LengthTooLarge}
use Rattle.ber.proofs.ListLemmas.{around}

-- a number from 2 ^ 24 on that continues has more than 32 bits
pub number_too_large : (ds : List ℕ) (i n : ℕ) → i < length ds → n ≡ number_from_digits 256 (take i ds) → 2 ^ 24 ≤ n → 2 ^ 32 ≤ number_from_digits 256 ds
number_too_large ds i n h e large =
    let d = get_or ds i 0 in
    let more = drop (suc i) ds in
    let all : number_from_digits 256 ds ≡ number_from_digits_after 256 (number_from_digits 256 (take i ds) * 256 + d) more =
    ap (number_from_digits 256) (around ds i h) ∙ number_after_append 256 0 (take i ds) (d ∷ more) in
    let least = number_after_ge 256 (number_from_digits 256 (take i ds) * 256 + d) more (omega arith) in
    omega (arith, all, least, e)

-- a length in so many octets
abbrev pub octets_of : Length → Bool → ℕ → LengthOctets
octets_of l minimal count = record { length = l; minimal = minimal; count = count }

-- octets that begin with a length, at equal octets
pub length_at : {l : LengthOctets} {b : Bool} {s t : List ℕ} → s ≡ t → LengthNext l b t → LengthNext l b s
length_at {l} {b} e next = subst (LengthNext l b) (sym e) next

-- a fault at equal octets
pub length_fault_at : {b : Bool} {at : ℕ} {f : Fault} {s t : List ℕ} → s ≡ t → IsLengthFault b at t f → IsLengthFault b at s f
length_fault_at {b} {at} {f} e is = subst (λ l. IsLengthFault b at l f) (sym e) is

-- the short form
pub length_short : (n : ℕ) (b : Bool) (rest : List ℕ) → n < 128 → LengthNext (octets_of (Definite n) true 1) b (n ∷ rest)
length_short n b rest h =
    record {
      size = n ∷ [];
      rest = rest;
      sized = short n h;
      form = λ e. absurd (cc);
      minimal = (λ _. sym (length_small n h), λ _. refl);
      count = refl;
      split = refl;
    }

-- the indefinite form
pub length_indefinite : (b : Bool) (rest : List ℕ) → b ≡ true → LengthNext (octets_of Indefinite true 1) b (128 ∷ rest)
length_indefinite b rest e =
    record {
      size = 128 ∷ [];
      rest = rest;
      sized = indefinite;
      form = λ _. e;
      minimal = (λ _. tt, λ _. refl);
      count = refl;
      split = refl;
    }

-- the long form is in the fewest octets if its first digit is not 0 and the short form has no room
long_minimal : (ds : List ℕ) → 1 ≤ length ds → AllBelowBase 256 ds → get_or ds 0 0 ≢ 0 → 128 ≤ number_from_digits 256 ds → long_form (length ds) ∷ ds ≡ length_octets (number_from_digits 256 ds)
long_minimal [] some all ne many = absurd (omega arith)
long_minimal (d ∷ ds) some all ne many =
    let n = number_from_digits 256 (d ∷ ds) in
    let back : digits 256 n ≡ d ∷ ds = digits_positive 256 n (omega arith) ∙ digits_of_number 256 d ds (omega arith) ne all in
    sym (length_large n many ∙ ap (λ l. long_form (length l) ∷ l) back)

-- a long form in the fewest octets has no room in the short form, and no leading zero
minimal_long : (ds : List ℕ) (n : ℕ) → 1 ≤ length ds → long_form (length ds) ∷ ds ≡ length_octets n → (get_or ds 0 0 ≢ 0) × (128 ≤ n)
minimal_long ds n some e =
    ⊎_elim
    (λ a. let f : (128 + length ds) ∷ ds ≡ n ∷ [] = e ∙ length_small n a in let g : 128 + length ds ≡ n = cc in absurd (omega arith))
    (λ a. let f : (128 + length ds) ∷ ds ≡ (128 + length (digits 256 n)) ∷ digits 256 n = e ∙ length_large n a in
    let g : ds ≡ digits 256 n = cc in
    let h : get_or ds 0 0 ≡ get_or (digits_of 256 n) 0 0 = ap (λ l. get_or l 0 0) (g ∙ digits_positive 256 n (omega arith)) in
    let pos = first_digits_of 256 n (omega arith) (omega arith) in
    ((λ z. omega (arith, h, pos, z)), a))
    (cases_lt n 128)

-- the long form
module _ (digits : List ℕ) (count n : ℕ) (some : 1 ≤ count) (most : count ≤ 126) (room : count ≤ length digits) where
  pub length_long : (minimal : Bool) → AllBelowBase 256 (take count digits) → n ≡ number_from_digits 256 (take count digits) → n < 2 ^ 32
      → (IsTrue minimal → (get_or digits 0 0 ≢ 0) × (128 ≤ n)) → ((get_or digits 0 0 ≢ 0) → 128 ≤ n → IsTrue minimal)
      → (b : Bool) → LengthNext (octets_of (Definite n) minimal (1 + count)) b (long_form count ∷ digits)
  length_long minimal all e small only if b =
      let ds = take count digits in
      let long_enough : length ds ≡ count = length-take-le count digits room in
      let here : long_form (length ds) ∷ ds ≡ long_form count ∷ ds = ap (λ k. long_form k ∷ ds) long_enough in
      let first : get_or ds 0 0 ≡ get_or digits 0 0 = get_or-take count digits 0 0 (omega arith) in
      let sized : IsLength (Definite (number_from_digits 256 ds)) (long_form (length ds) ∷ ds) = long ds (omega arith) (omega arith) all (subst (λ k. k < 2 ^ 32) e small) in
      record {
        size = long_form count ∷ ds;
        rest = drop count digits;
        sized = subst (λ k. IsLength (Definite k) (long_form count ∷ ds)) (sym e) (subst (λ l. IsLength (Definite (number_from_digits 256 ds)) l) here sized);
        form = λ f. absurd (cc);
        minimal = (
          λ t. let p = only t in sym here ∙ long_minimal ds (omega arith) all (λ z. p.0 (sym first ∙ z)) (subst (λ k. 128 ≤ k) e p.1) ∙ ap length_octets (sym e),
          λ f. let p = minimal_long ds n (omega arith) (here ∙ f) in if (λ z. p.0 (first ∙ z)) p.1,
        );
        count = omega (arith, long_enough);
        split = ap (λ l. long_form count ∷ l) (sym (take-append-drop count digits));
      }

  pub length_too_large : (at : ℕ) → 2 ^ 32 ≤ number_from_digits 256 (take count digits) → (b : Bool) → IsLengthFault b at (long_form count ∷ digits) (fault_at LengthTooLarge at)
  length_too_large at large b =
      let ds = take count digits in
      let long_enough : length ds ≡ count = length-take-le count digits room in
      let fault : IsLengthFault b at (long_form (length ds) ∷ (ds ++ drop count digits)) (fault_at LengthTooLarge at) = too_large ds (drop count digits) (omega arith) (omega arith) large in
      subst (λ l. IsLengthFault b at l (fault_at LengthTooLarge at)) (ap (λ k. long_form k ∷ (ds ++ drop count digits)) long_enough ∙ ap (λ l. long_form count ∷ l) (take-append-drop count digits)) fault

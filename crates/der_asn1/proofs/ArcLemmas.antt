-- Lemmas on decoding the arcs of an OBJECT IDENTIFIER.
use Rattle.std.proofs.Common.{◌≡◌, ℕ, suc, ◌+◌, ◌-◌, ◌*◌, ◌<◌, ◌≤◌, ◌==◌, ◌&&◌, Bool, true, false, Option, List, [], ◌∷◌, ◌++◌, length, drop, map, refl, sym, ap, ◌∙◌, nat_lt, if◌then◌else◌, slice_index_or, ⊎_elim, append_assoc, add-one, arith}
use Rattle.std.proofs.Math.Seq.{drop-cons}
use Rattle.std.proofs.lemmas.List.{map-append}
use Rattle.std.specs.Int.Digits.{digits_of, AllBelowBase}
use Rattle.std.specs.List.{flat_map}
use Rattle.der.proofs.DigitLemmas.{digits_positive, digits_of_push}
use Rattle.std.proofs.lemmas.Bool.{cases_lt, lt-ltb, le-ltb, ne_eqb, eq-eqb, eqb-true, cond-true, cond-false, and_from}
use Rattle.der.specs.Length.{digits}
use Rattle.der.specs.Tag.{continuation_octets}
use Rattle.der_asn1.specs.Forms.{ends_subidentifiers, oid_form}
use Rattle.der_asn1.specs.Arcs.{subidentifiers, subidentifier_value, subidentifier_octets, oid_octets, arcs_of, first_arc}

-- the digits read so far have the value n, and the rest of the octets continues it
pub record IsReadingSubidentifier (octets : List ℕ) (number : Option ℕ) (at : ℕ) : Type 0 where
  pub n : ℕ
  pub reported : number ≡ subidentifier_value n
  pub same : subidentifiers 0 octets ≡ subidentifiers n (drop at octets)
  pub grammar : ends_subidentifiers (at == 0) (drop at octets) ≡ true

-- the first subidentifier was read, and the others are after it
pub record HasReadSubidentifier (octets : List ℕ) (number : Option ℕ) (following : List ℕ) : Type 0 where
  pub n : ℕ
  pub reported : number ≡ subidentifier_value n
  pub same : subidentifiers 0 octets ≡ n ∷ subidentifiers 0 following
  pub grammar : ends_subidentifiers true following ≡ true

module _ (octets : List ℕ) (number : Option ℕ) (at o : ℕ) (t : IsReadingSubidentifier octets number at) (inside : at < length octets) (is : o ≡ slice_index_or octets at 0) (small : o < 256) where
  next : drop at octets ≡ o ∷ drop (at + 1) octets
  next = drop-cons octets at 0 inside ∙ ap (λ k. slice_index_or octets at 0 ∷ drop k octets) (sym (add-one at)) ∙ ap (λ x. x ∷ drop (at + 1) octets) (sym is)

  step : subidentifiers 0 octets ≡ (if nat_lt o 128 then (t.n * 128 + o) ∷ subidentifiers 0 (drop (at + 1) octets) else subidentifiers (t.n * 128 + (o - 128)) (drop (at + 1) octets))
  step = t.same ∙ ap (subidentifiers t.n) next

-- appending a digit to the octets of a subidentifier
continued_push : (ds : List ℕ) (d : ℕ) → continuation_octets (ds ++ d ∷ []) ≡ map (λ x. 128 + x) ds ++ d ∷ []
continued_push [] d = refl
continued_push (x ∷ []) d = refl
continued_push (x ∷ y ∷ ds) d = ap (λ l. (128 + x) ∷ l) (continued_push (y ∷ ds) d)

last_digit : (n o : ℕ) → o < 128 → subidentifier_octets (n * 128 + o) ≡ map (λ x. 128 + x) (digits_of 128 n) ++ o ∷ []
last_digit n o h = ⊎_elim (λ pos. let whole : digits 128 (n * 128 + o) ≡ digits_of 128 n ++ o ∷ [] = digits_positive 128 (n * 128 + o) pos ∙ digits_of_push 128 n o (omega arith) h pos in ap continuation_octets whole ∙ continued_push (digits_of 128 n) o)
    (λ none. let a : n ≡ 0 = omega arith in let b : o ≡ 0 = omega arith in rw (a, b) refl) (cases_lt 0 (n * 128 + o))

-- encoding the decoded subidentifiers gives the same octets
pub subidentifiers_encode_back : (n : ℕ) (os : List ℕ) → AllBelowBase 256 os → ends_subidentifiers (n == 0) os ≡ true → flat_map subidentifier_octets (subidentifiers n os) ≡ map (λ x. 128 + x) (digits_of 128 n) ++ os
subidentifiers_encode_back n [] below grammar = let none : n ≡ 0 = eqb-true n 0 grammar in rw none refl
subidentifiers_encode_back n (o ∷ os) below grammar =
    ⊎_elim
    (λ low.
    let is : nat_lt o 128 ≡ true = lt-ltb o 128 low in
    let more : ends_subidentifiers true os ≡ true = sym (ap (λ b. ends_subidentifiers b os) is) ∙ following in
    ap (flat_map subidentifier_octets) (cond-true (nat_lt o 128) ((n * 128 + o) ∷ subidentifiers 0 os) (subidentifiers (n * 128 + (o - 128)) os) is)
    ∙ ap (λ l. l ++ flat_map subidentifier_octets (subidentifiers 0 os)) (last_digit n o low)
    ∙ ap (λ l. (map (λ x. 128 + x) (digits_of 128 n) ++ o ∷ []) ++ l) (subidentifiers_encode_back 0 os below.1 more)
    ∙ append_assoc (map (λ x. 128 + x) (digits_of 128 n)) (o ∷ []) os)
    (λ high.
    let is : nat_lt o 128 ≡ false = le-ltb o 128 high in
    let digit : o - 128 < 128 = omega (arith, below.0) in
    let pos : 0 < n * 128 + (o - 128) = positive high in
    let more : ends_subidentifiers (n * 128 + (o - 128) == 0) os ≡ true = ap (λ b. ends_subidentifiers b os) (ne_eqb (n * 128 + (o - 128)) 0 (λ e. omega (arith, pos)) ∙ sym is) ∙ following in
    ap (flat_map subidentifier_octets) (cond-false (nat_lt o 128) ((n * 128 + o) ∷ subidentifiers 0 os) (subidentifiers (n * 128 + (o - 128)) os) is)
    ∙ subidentifiers_encode_back (n * 128 + (o - 128)) os below.1 more
    ∙ ap (λ ds. map (λ x. 128 + x) ds ++ os) (digits_of_push 128 n (o - 128) (omega arith) digit pos)
    ∙ ap (λ l. l ++ os) (map-append (λ x. 128 + x) (digits_of 128 n) ((o - 128) ∷ []))
    ∙ append_assoc (map (λ x. 128 + x) (digits_of 128 n)) ((128 + (o - 128)) ∷ []) os
    ∙ ap (λ x. map (λ x. 128 + x) (digits_of 128 n) ++ x ∷ os) (let e : 128 + (o - 128) ≡ o = omega (arith, high) in e))
    (cases_lt o 128)
  where
    go : (b : Bool) → (if b then false else ends_subidentifiers (nat_lt o 128) os) ≡ true → (b ≡ false) × (ends_subidentifiers (nat_lt o 128) os ≡ true)
    go true e = absurd (let no : false ≡ true = e in cc)
    go false e = (refl, e)

    following : ends_subidentifiers (nat_lt o 128) os ≡ true
    following = (go ((n == 0) && (o == 128)) grammar).1

    positive : 128 ≤ o → 0 < n * 128 + (o - 128)
    positive high =
        ⊎_elim (λ l. l) (λ g. absurd (let a : n ≡ 0 = omega arith in let b : o ≡ 128 = omega arith in
        let yes : ((n == 0) && (o == 128)) ≡ true = and_from (n == 0) (o == 128) (eq-eqb n 0 a) (eq-eqb o 128 b) in
        let no : ((n == 0) && (o == 128)) ≡ false = (go ((n == 0) && (o == 128)) grammar).0 in
        let wrong : true ≡ false = sym yes ∙ no in cc)) (cases_lt 0 (n * 128 + (o - 128)))

first_two : (n : ℕ) → 40 * first_arc n + (n - 40 * first_arc n) ≡ n
first_two n = ⊎_elim (λ l. let e : first_arc n ≡ 0 = cond-true (nat_lt n 40) 0 (if nat_lt n 80 then 1 else 2) (lt-ltb n 40 l) in omega (arith, e))
    (λ g. let e : first_arc n ≡ (if nat_lt n 80 then 1 else 2) = cond-false (nat_lt n 40) 0 (if nat_lt n 80 then 1 else 2) (le-ltb n 40 g) in
    ⊎_elim (λ l. let f : first_arc n ≡ 1 = e ∙ cond-true (nat_lt n 80) 1 2 (lt-ltb n 80 l) in omega (arith, f, g)) (λ h. let f : first_arc n ≡ 2 = e ∙ cond-false (nat_lt n 80) 1 2 (le-ltb n 80 h) in omega (arith, f, h)) (cases_lt n 80))
    (cases_lt n 40)

-- encoding the decoded arcs gives the same contents
pub arcs_again : (octets : List ℕ) → AllBelowBase 256 octets → oid_form octets ≡ true → oid_octets (arcs_of (subidentifiers 0 octets)) ≡ octets
arcs_again [] below grammar = refl
arcs_again (o ∷ os) below grammar = whole (subidentifiers 0 (o ∷ os)) ∙ subidentifiers_encode_back 0 (o ∷ os) below grammar
  where
    whole : (ns : List ℕ) → oid_octets (arcs_of ns) ≡ flat_map subidentifier_octets ns
    whole [] = refl
    whole (n ∷ ns) = ap (λ k. subidentifier_octets k ++ flat_map subidentifier_octets ns) (first_two n)

pub below_base : (octets : List ℕ) → ((i : ℕ) → slice_index_or octets i 0 < 256) → AllBelowBase 256 octets
below_base [] h = tt
below_base (o ∷ os) h = (h 0, below_base os (λ i. h (suc i)))

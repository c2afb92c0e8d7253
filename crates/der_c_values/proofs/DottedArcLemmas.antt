-- Numbers in decimal in a text, each with a dot after it.
use Rattle.std.proofs.Common.{◌≡◌, ◌≢◌, ℕ, suc, ◌+◌, ◌*◌, ◌<◌, ◌≤◌, ⊎_elim, Option, Some, List, [], ◌∷◌, ◌++◌, length, drop, get_or, refl, sym, ap, subst, ◌∙◌, append_assoc, length-append, add-one, arith}
use Rattle.std.proofs.Math.ListN.{get_or-append}
use Rattle.std.proofs.Math.Seq.{drop-cons, get_or-append_seam}
use Rattle.std.proofs.lemmas.Bool.{cases_lt}
use Rattle.std.proofs.lemmas.List.{map-append}
use Rattle.std.proofs.lemmas.Int.Digits.{all_below_base_digits_of, number_digits_of, number_push, first_digits_of}
use Rattle.std.specs.Int.Digits.{AllBelowBase, number_from_digits, digits_of}
use Rattle.der.specs.Length.{digits}
use Rattle.der.proofs.DigitLemmas.{digits_positive, length_digits_positive, digits_of_number, all_below_push}
use Rattle.der_asn1.specs.Arcs.{subidentifier_value}
use Rattle.der_c_values.specs.Dotted.{decimal_text}
use Rattle.der_c_values.proofs.DecimalLemmas.{glyphs}

-- an octet that is no digit
abbrev pub IsNoGlyph : ℕ → Type 0
IsNoGlyph o = (d : ℕ) → d < 10 → 48 + d ≡ o → ⊥

pub dot_no_glyph : IsNoGlyph 46
dot_no_glyph d h e = omega arith

-- digits with another octet after them, in one list: they are the same
pub glyph_front : (ds es : List ℕ) (o p : ℕ) (x y : List ℕ) → AllBelowBase 10 ds → AllBelowBase 10 es → IsNoGlyph o → IsNoGlyph p → glyphs ds ++ o ∷ x ≡ glyphs es ++ p ∷ y
    → (ds ≡ es) × (o ≡ p) × (x ≡ y)
glyph_front [] [] o p x y a b f g e = (refl, cc, cc)
glyph_front [] (q ∷ es) o p x y a b f g e = absurd (f q b.0 (let h : o ≡ 48 + q = cc in sym h))
glyph_front (d ∷ ds) [] o p x y a b f g e = absurd (g d a.0 (let h : 48 + d ≡ p = cc in h))
glyph_front (d ∷ ds) (q ∷ es) o p x y a b f g e =
    let head : 48 + d ≡ 48 + q = cc in
    let same : d ≡ q = omega arith in
    let tail : glyphs ds ++ o ∷ x ≡ glyphs es ++ p ∷ y = cc in
    let more = glyph_front ds es o p x y a.1 b.1 f g tail in
    let rest : ds ≡ es = more.0 in
    ((let whole : d ∷ ds ≡ q ∷ es = cc in whole), more.1, more.2)

-- the digits of a number: one at least, below the base, the first not 0 if there are more, and of
-- this number
module _ (b n : ℕ) (two : 2 ≤ b) where
  zero_or_more : (P : List ℕ → Type 0) → P (0 ∷ []) → (0 < n → P (digits_of b n)) → P (digits b n)
  zero_or_more P zero more =
      ⊎_elim (λ pos. subst P (sym (digits_positive b n pos)) (more pos))
      (λ none. let is : 0 ≡ n = omega arith in subst (λ k. P (digits b k)) is zero)
      (cases_lt 0 n)

  pub digits_below : AllBelowBase b (digits b n)
  digits_below = zero_or_more (AllBelowBase b) (omega arith, tt) (λ pos. all_below_base_digits_of b n two)

  pub digits_some : 0 < length (digits b n)
  digits_some = zero_or_more (λ l. 0 < length l) (omega arith) (λ pos. length_digits_positive b n two pos)

  pub digits_first : (d e : ℕ) (ds : List ℕ) → digits b n ≡ d ∷ e ∷ ds → d ≢ 0
  digits_first = zero_or_more (λ l. (d e : ℕ) (ds : List ℕ) → l ≡ d ∷ e ∷ ds → d ≢ 0)
      (λ d e ds is. absurd (let size : 1 ≡ suc (suc (length ds)) = ap length is in omega arith))
      (λ pos d e ds is zero.
      let first : get_or (digits_of b n) 0 0 ≡ d = ap (λ l. get_or l 0 0) is in
      let some = first_digits_of b n two pos in
      omega arith)

  pub digits_number : number_from_digits b (digits b n) ≡ n
  digits_number =
      ⊎_elim (λ pos. ap (number_from_digits b) (digits_positive b n pos) ∙ number_digits_of b n two)
      (λ none. let is : 0 ≡ n = omega arith in subst (λ k. number_from_digits b (digits b k) ≡ k) is (let zero : 0 * b + 0 ≡ 0 = omega arith in zero))
      (cases_lt 0 n)

nil_of : (ds : List ℕ) → length ds ≤ 0 → ds ≡ []
nil_of [] h = refl
nil_of (d ∷ ds) h = absurd (omega arith)

-- digits without leading zeros are those of their number
pub digits_again : (d : ℕ) (ds : List ℕ) → AllBelowBase 10 (d ∷ ds) → (d ≡ 0 → ds ≡ []) → digits 10 (number_from_digits 10 (d ∷ ds)) ≡ d ∷ ds
digits_again d ds below shortest =
    ⊎_elim
    (λ pos. let some : d ≢ 0 = omega arith in
    let n = number_from_digits 10 (d ∷ ds) in
    let same = digits_of_number 10 d ds (omega arith) some below in
    ⊎_elim (λ p. digits_positive 10 n p ∙ same)
    (λ none. absurd (let is : n ≡ 0 = omega arith in let no : digits_of 10 0 ≡ d ∷ ds = ap (digits_of 10) (sym is) ∙ same in let size : 0 ≡ suc (length ds) = ap length no in omega arith))
    (cases_lt 0 n))
    (λ none. let zero : d ≡ 0 = omega arith in
    let alone : ds ≡ [] = shortest zero in
    let is : d ∷ ds ≡ 0 ∷ [] = cc in
    subst (λ l. digits 10 (number_from_digits 10 l) ≡ l) (sym is) refl)
    (cases_lt 0 d)

-- a number with a dot after it determines both
pub number_text_front : (m n : ℕ) (x y : List ℕ) → decimal_text m ++ 46 ∷ x ≡ decimal_text n ++ 46 ∷ y → (m ≡ n) × (x ≡ y)
number_text_front m n x y e =
    let both = glyph_front (digits 10 m) (digits 10 n) 46 46 x y (digits_below 10 m (omega arith)) (digits_below 10 n (omega arith)) dot_no_glyph dot_no_glyph e in
    (sym (digits_number 10 m (omega arith)) ∙ ap (number_from_digits 10) both.0 ∙ digits_number 10 n (omega arith), both.2)

-- digits of the text from a position on, and their number
pub record IsReadingDigits (text : List ℕ) (at : ℕ) (number : Option ℕ) (end : ℕ) : Type 0 where
  pub digits : List ℕ
  pub below : AllBelowBase 10 digits
  pub count : end ≡ at + length digits
  pub within : end ≤ length text
  pub there : drop at (text ++ 46 ∷ []) ≡ glyphs digits ++ drop end (text ++ 46 ∷ [])
  pub value : number ≡ subidentifier_value (number_from_digits 10 digits)

module _ (text : List ℕ) where
  -- an octet of the text, or the dot after it
  octet_at : (end : ℕ) → end ≤ length text → drop end (text ++ 46 ∷ []) ≡ get_or (text ++ 46 ∷ []) end 0 ∷ drop (end + 1) (text ++ 46 ∷ [])
  octet_at end h =
      drop-cons (text ++ 46 ∷ []) end 0 (omega (arith, length-append text (46 ∷ [])))
      ∙ ap (λ k. get_or (text ++ 46 ∷ []) end 0 ∷ drop k (text ++ 46 ∷ [])) (sym (add-one end))

  inner_octet : (end : ℕ) → end < length text → get_or (text ++ 46 ∷ []) end 0 ≡ get_or text end 0
  inner_octet end h = get_or-append text (46 ∷ []) 0 end h

  last_octet : (end : ℕ) → end ≡ length text → get_or (text ++ 46 ∷ []) end 0 ≡ 46
  last_octet end h = ap (λ k. get_or (text ++ 46 ∷ []) k 0) h ∙ get_or-append_seam text 46 [] 0

  pub reading_starts : (at : ℕ) → at ≤ length text → IsReadingDigits text at (Some 0) at
  reading_starts at h = record { digits = []; below = tt; count = omega arith; within = h; there = refl; value = refl }

  pub reading_continues : {at end : ℕ} {number after : Option ℕ} (d : ℕ) → IsReadingDigits text at number end → end < length text → get_or text end 0 ≡ 48 + d → d < 10
      → ((n : ℕ) → number ≡ subidentifier_value n → after ≡ subidentifier_value (n * 10 + d)) → IsReadingDigits text at after (end + 1)
  reading_continues {at} {end} d r inside octet small continues =
      let more = r.digits ++ d ∷ [] in
      let next : drop end (text ++ 46 ∷ []) ≡ (48 + d) ∷ drop (end + 1) (text ++ 46 ∷ []) =
      octet_at end (omega arith) ∙ ap (λ o. o ∷ drop (end + 1) (text ++ 46 ∷ [])) (inner_octet end inside ∙ octet) in
      record {
        digits = more;
        below = all_below_push 10 r.digits d r.below small;
        count = omega (arith, r.count, length-append r.digits (d ∷ []));
        within = omega arith;
        there = r.there ∙ ap (λ l. glyphs r.digits ++ l) next ∙ sym (append_assoc (glyphs r.digits) ((48 + d) ∷ []) (drop (end + 1) (text ++ 46 ∷ [])))
            ∙ ap (λ l. l ++ drop (end + 1) (text ++ 46 ∷ [])) (sym (map-append (λ x. 48 + x) r.digits (d ∷ [])));
        value = continues (number_from_digits 10 r.digits) r.value ∙ ap subidentifier_value (sym (number_push 10 r.digits d));
      }

  -- the octet after the digits, which is none
  abbrev pub Ends : ℕ → Type 0
  Ends end = IsNoGlyph (get_or (text ++ 46 ∷ []) end 0)

  pub ends_at_end : (end : ℕ) → end ≡ length text → Ends end
  ends_at_end end h = subst IsNoGlyph (sym (last_octet end h)) dot_no_glyph

  pub ends_inside : (end : ℕ) → end < length text → IsNoGlyph (get_or text end 0) → Ends end
  ends_inside end h none = subst IsNoGlyph (sym (inner_octet end h)) none

  module _ {at end : ℕ} {number : Option ℕ} (r : IsReadingDigits text at number end) (e : Ends end) where
    -- a number that is there has these digits
    only_number : (n : ℕ) (more : List ℕ) → drop at (text ++ 46 ∷ []) ≡ decimal_text n ++ 46 ∷ more → (r.digits ≡ digits 10 n) × (get_or (text ++ 46 ∷ []) end 0 ≡ 46)
    only_number n more is =
        let q = get_or (text ++ 46 ∷ []) end 0 in
        let whole : glyphs r.digits ++ q ∷ drop (end + 1) (text ++ 46 ∷ []) ≡ decimal_text n ++ 46 ∷ more = sym (r.there ∙ ap (λ l. glyphs r.digits ++ l) (octet_at end r.within)) ∙ is in
        let both = glyph_front r.digits (digits 10 n) q 46 _ more r.below (digits_below 10 n (omega arith)) e dot_no_glyph whole in
        (both.0, both.1)

    pub no_dot_after : (get_or (text ++ 46 ∷ []) end 0 ≡ 46 → ⊥) → (n : ℕ) (more : List ℕ) → drop at (text ++ 46 ∷ []) ≡ decimal_text n ++ 46 ∷ more → ⊥
    no_dot_after other n more is = other (only_number n more is).1

    first_digit : (d : ℕ) (ds : List ℕ) → r.digits ≡ d ∷ ds → at < length text → get_or text at 0 ≡ 48 + d
    first_digit d ds is inside =
        let front : get_or text at 0 ∷ drop (at + 1) (text ++ 46 ∷ []) ≡ glyphs r.digits ++ drop end (text ++ 46 ∷ []) =
        sym (octet_at at (omega arith) ∙ ap (λ o. o ∷ drop (at + 1) (text ++ 46 ∷ [])) (inner_octet at inside)) ∙ r.there in
        let shown : get_or text at 0 ∷ drop (at + 1) (text ++ 46 ∷ []) ≡ (48 + d) ∷ (glyphs ds ++ drop end (text ++ 46 ∷ [])) = front ∙ ap (λ l. glyphs l ++ drop end (text ++ 46 ∷ [])) is in
        cc

    -- digits that are no number
    pub no_number : ((at < end) × (get_or text at 0 ≡ 48 → end ≤ at + 1) → ⊥) → (n : ℕ) (more : List ℕ) → drop at (text ++ 46 ∷ []) ≡ decimal_text n ++ 46 ∷ more → ⊥
    no_number other n more is = go r.digits refl
      where
        same : r.digits ≡ digits 10 n
        same = (only_number n more is).0

        go : (ds : List ℕ) → r.digits ≡ ds → ⊥
        go [] none =
            let size : length (digits 10 n) ≡ 0 = ap length (sym same ∙ none) in
            let some = digits_some 10 n (omega arith) in
            omega arith
        go (d ∷ []) one = let size : length r.digits ≡ 1 = ap length one in other (omega (arith, r.count), λ zero. omega (arith, r.count))
        go (d ∷ f ∷ ds) more =
            let size : length r.digits ≡ suc (suc (length ds)) = ap length more in
            let octet = first_digit d (f ∷ ds) more (omega (arith, r.count, r.within)) in
            other (omega (arith, r.count), λ zero. absurd (digits_first 10 n (omega arith) d f ds (sym same ∙ more) (omega arith)))

    pub number_is_there : get_or (text ++ 46 ∷ []) end 0 ≡ 46 → (at < end) × (get_or text at 0 ≡ 48 → end ≤ at + 1)
        → (n : ℕ) × (number ≡ subidentifier_value n) × (end ≤ length text) × (drop at (text ++ 46 ∷ []) ≡ decimal_text n ++ 46 ∷ drop (end + 1) (text ++ 46 ∷ []))
    number_is_there dot shape = go r.digits refl
      where
        go : (ds : List ℕ) → r.digits ≡ ds → (n : ℕ) × (number ≡ subidentifier_value n) × (end ≤ length text) × (drop at (text ++ 46 ∷ []) ≡ decimal_text n ++ 46 ∷ drop (end + 1) (text ++ 46 ∷ []))
        go [] same = absurd (let size : length r.digits ≡ 0 = ap length same in let some = shape.0 in omega (arith, r.count))
        go (d ∷ ds) same =
            let size : length r.digits ≡ suc (length ds) = ap length same in
            let octet = first_digit d ds same (omega (arith, r.within, r.count)) in
            let again = digits_again d ds (subst (AllBelowBase 10) same r.below)
            (λ zero. let short : end ≤ at + 1 = shape.1 (octet ∙ ap (λ k. 48 + k) zero) in nil_of ds (omega (arith, r.count))) in (
              number_from_digits 10 (d ∷ ds),
              r.value ∙ ap (λ l. subidentifier_value (number_from_digits 10 l)) same,
              r.within,
              r.there ∙ ap (λ l. glyphs r.digits ++ l) (octet_at end r.within ∙ ap (λ o. o ∷ drop (end + 1) (text ++ 46 ∷ [])) dot)
                  ∙ ap (λ l. glyphs l ++ 46 ∷ drop (end + 1) (text ++ 46 ∷ [])) (same ∙ sym again),
            )

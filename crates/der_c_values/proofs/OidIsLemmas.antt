-- A text that is compared with arcs.
use Rattle.std.proofs.Common.{◌≡◌, ◌≢◌, ℕ, Bool, true, false, not, suc, ◌+◌, ◌<◌, ◌≤◌, Option, Some, List, [], ◌∷◌, ◌++◌, ⊎_elim, length, take, drop, get_or, refl, sym, ap, ◌∙◌, append_assoc, length-append, length-take, length-drop, add-one, arith}
use Rattle.std.proofs.Math.ListN.{get_or-append}
use Rattle.std.proofs.Math.Seq.{drop-cons, get_or-append_seam}
use Rattle.std.proofs.lemmas.Bool.{cases_lt}
use Rattle.std.proofs.lemmas.List.{drop-drop, take-append-drop, drop-append-le, take-append-le}
use Rattle.std.proofs.lemmas.Slice.Eq.{bytes_eq-Decides}
use Rattle.std.specs.Str.{bytes_eq}
use Rattle.der.proofs.DigitLemmas.{same_length_front}
use Rattle.der_c_values.specs.Dotted.{decimal_text, items_text, all_fit}

-- whether the arcs left are what is left of the text, as all arcs are the text
pub record IsMatching (all left : List (Option ℕ)) (text : List ℕ) (at : ℕ) : Type 0 where
  pub within : at ≤ length text + 1
  pub fit : all_fit left ≡ all_fit all
  pub there : items_text left ≡ drop at (text ++ 46 ∷ []) → items_text all ≡ text ++ 46 ∷ []
  pub back : items_text all ≡ text ++ 46 ∷ [] → items_text left ≡ drop at (text ++ 46 ∷ [])

module _ (text : List ℕ) where
  -- n octets of the text, and what follows them
  split_at : (at n : ℕ) → at + n ≤ length text → drop at (text ++ 46 ∷ []) ≡ take n (drop at text) ++ drop (at + n) (text ++ 46 ∷ [])
  split_at at n h =
      let inside : at ≤ length text = omega arith in
      let rest = drop-append-le at text (46 ∷ []) inside in
      let fits : n ≤ length (drop at text) = omega (arith, length-drop at text) in
      sym (take-append-drop n (drop at (text ++ 46 ∷ [])))
      ∙ ap (λ x. x ++ drop n (drop at (text ++ 46 ∷ []))) (ap (take n) rest ∙ take-append-le n (drop at text) (46 ∷ []) fits)
      ∙ ap (λ x. take n (drop at text) ++ x) (drop-drop n at (text ++ 46 ∷ []))

  -- a dot, or the end of the text
  dot_at : (end : ℕ) → end ≤ length text → (end < length text → get_or text end 0 ≡ 46) → drop end (text ++ 46 ∷ []) ≡ 46 ∷ drop (end + 1) (text ++ 46 ∷ [])
  dot_at end h is =
      let inside : end < length (text ++ 46 ∷ []) = omega (arith, length-append text (46 ∷ [])) in
      let octet : get_or (text ++ 46 ∷ []) end 0 ≡ 46 =
      ⊎_elim (λ l. get_or-append text (46 ∷ []) 0 end l ∙ is l)
      (λ g. let last : end ≡ length text = omega arith in ap (λ k. get_or (text ++ 46 ∷ []) k 0) last ∙ get_or-append_seam text 46 [] 0)
      (cases_lt end (length text)) in
      drop-cons (text ++ 46 ∷ []) end 0 inside ∙ ap (λ o. o ∷ drop (suc end) (text ++ 46 ∷ [])) octet ∙ ap (λ k. 46 ∷ drop k (text ++ 46 ∷ [])) (sym (add-one end))

  -- the digits are there, and a dot after them
  pub number_there : (at : ℕ) (digits : List ℕ) → at + length digits ≤ length text → take (length digits) (drop at text) ≡ digits
      → (at + length digits < length text → get_or text (at + length digits) 0 ≡ 46)
      → drop at (text ++ 46 ∷ []) ≡ digits ++ 46 ∷ drop (at + length digits + 1) (text ++ 46 ∷ [])
  number_there at digits h same is =
      split_at at (length digits) h ∙ ap (λ x. x ++ drop (at + length digits) (text ++ 46 ∷ [])) same
      ∙ ap (λ x. digits ++ x) (dot_at (at + length digits) h is)

  -- digits that are there are those of the text, and what follows them too
  pub number_only : (at : ℕ) (digits more : List ℕ) → at + length digits ≤ length text → drop at (text ++ 46 ∷ []) ≡ digits ++ 46 ∷ more
      → (take (length digits) (drop at text) ≡ digits) × (drop (at + length digits) (text ++ 46 ∷ []) ≡ 46 ∷ more)
  number_only at digits more h is =
      let size : length (take (length digits) (drop at text)) ≡ length digits = omega (arith, length-take (length digits) (drop at text), length-drop at text) in
      same_length_front _ _ _ _ size (sym (split_at at (length digits) h) ∙ is)

  -- an octet after the digits that is no dot
  pub no_dot : (end : ℕ) (more : List ℕ) → end < length text → drop end (text ++ 46 ∷ []) ≡ 46 ∷ more → get_or text end 0 ≡ 46
  no_dot end more h is =
      let inside : end < length (text ++ 46 ∷ []) = omega (arith, length-append text (46 ∷ [])) in
      sym (get_or-append text (46 ∷ []) 0 end h) ∙ ap (λ l. get_or l 0 46) (sym (drop-cons (text ++ 46 ∷ []) end 0 inside) ∙ is)

not_false : (b : Bool) → not b ≡ false → b ≡ true
not_false true h = refl
not_false false h = sym h

-- what a comparison of octets says
pub octets_same : (a b : List ℕ) (differ : Bool) → differ ≡ not (bytes_eq a b) → differ ≡ false → a ≡ b
octets_same a b differ is none = (bytes_eq-Decides a b).0 (not_false (bytes_eq a b) (sym is ∙ none))

pub octets_apart : (a b : List ℕ) (differ : Bool) → differ ≡ not (bytes_eq a b) → differ ≡ true → a ≢ b
octets_apart a b differ is some same = absurd (let wrong : true ≡ false = sym some ∙ is ∙ ap not ((bytes_eq-Decides a b).1 same) in cc)

-- one more arc is in the text
pub matching_continues : {all left rest : List (Option ℕ)} {text : List ℕ} {at : ℕ} (n end : ℕ) (digits : List ℕ) → IsMatching all left text at → left ≡ Some n ∷ rest → digits ≡ decimal_text n
    → end ≤ length text + 1 → drop at (text ++ 46 ∷ []) ≡ digits ++ 46 ∷ drop end (text ++ 46 ∷ []) → IsMatching all rest text end
matching_continues {all} {left} {rest} {text} {at} n end digits m next is within there =
    let spelled : items_text left ≡ digits ++ 46 ∷ items_text rest =
    ap items_text next ∙ append_assoc (decimal_text n) (46 ∷ []) (items_text rest) ∙ ap (λ d. d ++ 46 ∷ items_text rest) (sym is) in
    record {
      within = within;
      fit = ap all_fit (sym next) ∙ m.fit;
      there = λ same. m.there (spelled ∙ ap (λ x. digits ++ 46 ∷ x) same ∙ sym there);
      back = λ same.
          let both : digits ++ 46 ∷ items_text rest ≡ digits ++ 46 ∷ drop end (text ++ 46 ∷ []) = sym spelled ∙ m.back same ∙ there in
          ap (drop 1) (same_length_front digits digits _ _ refl both).1;
    }

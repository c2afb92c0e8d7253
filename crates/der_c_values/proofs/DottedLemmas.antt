-- Arcs in decimal.
use Rattle.std.proofs.Common.{◌≡◌, ℕ, ◌+◌, ◌-◌, ◌≤◌, ◌^◌, Option, Some, List, [], ◌∷◌, ◌++◌, length, take, drop, min, sym, ap, ◌∙◌, append_assoc, length-append, arith}
use Rattle.std.proofs.lemmas.List.{drop-drop}
use Rattle.der_c_values.specs.Dotted.{decimal_text, items_text, all_fit}

-- what was counted, and what is left, are the whole, up to the largest count
pub record IsCounting (all left : List (Option ℕ)) (count : ℕ) : Type 0 where
  pub few : count ≤ 2 ^ 128 - 1
  pub same : all_fit left ≡ all_fit all
  pub counted : min (count + length (items_text left)) (2 ^ 128 - 1) ≡ min (length (items_text all)) (2 ^ 128 - 1)

-- what was put, and what is left, are the whole
pub record IsPutting (all left : List (Option ℕ)) (at : ℕ) (old new : List ℕ) : Type 0 where
  pub size : length new ≡ length old
  pub within : at + length (items_text left) ≡ length (items_text all)
  pub put : take at new ++ items_text left ≡ items_text all
  pub following : drop at new ≡ drop at old

-- nothing is left to count
pub counting_done : {all left : List (Option ℕ)} {count : ℕ} → IsCounting all left count → left ≡ [] → count ≡ min (length (items_text all)) (2 ^ 128 - 1)
counting_done {all} {left} {count} c none =
    let counted : min (count + 0) (2 ^ 128 - 1) ≡ min (length (items_text all)) (2 ^ 128 - 1) = ap (λ l. min (count + length (items_text l)) (2 ^ 128 - 1)) (sym none) ∙ c.counted in
    omega (arith, c.few)

drop_further : (a b : List ℕ) (i j : ℕ) → i ≤ j → drop i a ≡ drop i b → drop j a ≡ drop j b
drop_further a b i j h e =
    let k : i + (j - i) ≡ j = omega arith in
    ap (λ m. drop m a) (sym k) ∙ sym (drop-drop (j - i) i a) ∙ ap (drop (j - i)) e ∙ drop-drop (j - i) i b ∙ ap (λ m. drop m b) k

-- one more arc is put
pub putting_continues : {all left rest : List (Option ℕ)} {at : ℕ} {old now : List ℕ} (n end after : ℕ) (digits first second : List ℕ)
    → IsPutting all left at old now → left ≡ Some n ∷ rest → digits ≡ decimal_text n
    → end ≡ at + length digits → length first ≡ length now → take end first ≡ take at now ++ digits → drop end first ≡ drop end now
    → after ≡ end + 1 → length second ≡ length first → take after second ≡ take end first ++ 46 ∷ [] → drop after second ≡ drop after first
    → IsPutting all rest after old second
putting_continues {all} {left} {rest} {at} {old} {now} n end after digits first second p next is to size1 put1 kept1 to2 size2 put2 kept2 =
    record {
      size = size2 ∙ size1 ∙ p.size;
      within = omega (arith, p.within, ap (λ l. length (items_text l)) next, length-append (decimal_text n ++ 46 ∷ []) (items_text rest), length-append (decimal_text n) (46 ∷ []), ap length is);
      put = ap (λ l. l ++ items_text rest) (put2 ∙ ap (λ l. l ++ 46 ∷ []) (put1 ∙ ap (λ d. take at now ++ d) is))
          ∙ append_assoc (take at now ++ decimal_text n) (46 ∷ []) (items_text rest)
          ∙ append_assoc (take at now) (decimal_text n) (46 ∷ items_text rest)
          ∙ ap (λ l. take at now ++ l) (sym (append_assoc (decimal_text n) (46 ∷ []) (items_text rest)))
          ∙ ap (λ l. take at now ++ items_text l) (sym next) ∙ p.put;
      following = kept2 ∙ drop_further first now end after (omega arith) kept1 ∙ drop_further now old at after (omega arith) p.following;
    }

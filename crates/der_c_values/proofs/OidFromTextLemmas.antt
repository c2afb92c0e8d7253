-- Arcs that are read from a text one by one, and the contents of arcs.
use Rattle.std.proofs.Common.{◌≡◌, ◌≢◌, ℕ, zero, suc, ◌+◌, ◌-◌, ◌*◌, ◌<◌, ◌≤◌, true, false, List, [], ◌∷◌, ◌++◌, length, drop, refl, sym, ap, subst, ◌∙◌, append_assoc, append-nil, length-append, length-drop, arith}
use Rattle.std.proofs.lemmas.Bool.{lt-ltb, le-ltb, ne_eqb}
use Rattle.std.specs.Int.Digits.{AllBelowBase, number_from_digits, number_from_digits_after}
use Rattle.std.specs.List.{flat_map}
use Rattle.der.specs.Length.{digits}
use Rattle.der.specs.Tag.{continuation_octets}
use Rattle.der.proofs.DigitLemmas.{same_length_front}
use Rattle.der_asn1.specs.Arcs.{arcs_of, first_arc, oid_arcs, oid_octets, subidentifier_octets, subidentifiers}
use Rattle.der_asn1.specs.Forms.{ends_subidentifiers, oid_form}
use Rattle.der_c_values.specs.Dotted.{decimal_text, dotted_text}
use Rattle.der_c_values.specs.OidFromText.{AreOidArcs, IsDotted, IsEncoded}
use Rattle.der_c_values.specs.OidContents.{Holds, Pushes}
use Rattle.der_c_values.specs.declared.oid_contents.OidContents.{OidContents}
use Rattle.der_c_values.proofs.DottedArcLemmas.{digits_below, digits_first, digits_number, digits_some, number_text_front}
use Rattle.der_c_values.proofs.OidTextLemmas.{terminated, terminated_dotted}

-- continuation octets of digits are decoded as their number
decoded_digits : (v d : ℕ) (ds rest : List ℕ) → AllBelowBase 128 (d ∷ ds) → subidentifiers v (continuation_octets (d ∷ ds) ++ rest) ≡ number_from_digits_after 128 v (d ∷ ds) ∷ subidentifiers 0 rest
decoded_digits v d [] rest below = rw (lt-ltb d 128 below.0) refl
decoded_digits v d (e ∷ ds) rest below =
    let high : 128 ≤ 128 + d = omega arith in
    let same : 128 + d - 128 ≡ d = omega arith in
    rw (le-ltb (128 + d) 128 high) (ap (λ k. subidentifiers (v * 128 + k) (continuation_octets (e ∷ ds) ++ rest)) same ∙ decoded_digits (v * 128 + d) e ds rest below.1)

decoded_front : (n : ℕ) (rest : List ℕ) → subidentifiers 0 (subidentifier_octets n ++ rest) ≡ n ∷ subidentifiers 0 rest
decoded_front n rest = go (digits 128 n) refl
  where
    go : (ds : List ℕ) → digits 128 n ≡ ds → subidentifiers 0 (subidentifier_octets n ++ rest) ≡ n ∷ subidentifiers 0 rest
    go [] none = absurd (let size : length (digits 128 n) ≡ 0 = ap length none in let some = digits_some 128 n (omega arith) in omega arith)
    go (d ∷ ds) is =
        ap (λ l. subidentifiers 0 (continuation_octets l ++ rest)) is
        ∙ decoded_digits 0 d ds rest (subst (AllBelowBase 128) is (digits_below 128 n (omega arith)))
        ∙ ap (λ k. k ∷ subidentifiers 0 rest) (ap (number_from_digits 128) (sym is) ∙ digits_number 128 n (omega arith))

decoded_all : (ns : List ℕ) → subidentifiers 0 (flat_map subidentifier_octets ns) ≡ ns
decoded_all [] = refl
decoded_all (n ∷ ns) = decoded_front n (flat_map subidentifier_octets ns) ∙ ap (λ l. n ∷ l) (decoded_all ns)

-- they are whole subidentifiers in the fewest octets
ends_inside : (d : ℕ) (ds rest : List ℕ) → AllBelowBase 128 (d ∷ ds) → ends_subidentifiers false (continuation_octets (d ∷ ds) ++ rest) ≡ ends_subidentifiers true rest
ends_inside d [] rest below = rw (lt-ltb d 128 below.0) refl
ends_inside d (e ∷ ds) rest below = rw (le-ltb (128 + d) 128 (omega arith)) (ends_inside e ds rest below.1)

ends_front : (n : ℕ) (rest : List ℕ) → ends_subidentifiers true (subidentifier_octets n ++ rest) ≡ ends_subidentifiers true rest
ends_front n rest = go (digits 128 n) refl
  where
    below : AllBelowBase 128 (digits 128 n)
    below = digits_below 128 n (omega arith)

    go : (ds : List ℕ) → digits 128 n ≡ ds → ends_subidentifiers true (subidentifier_octets n ++ rest) ≡ ends_subidentifiers true rest
    go [] none = absurd (let size : length (digits 128 n) ≡ 0 = ap length none in let some = digits_some 128 n (omega arith) in omega arith)
    go (d ∷ []) is =
        let small : d < 128 = (subst (AllBelowBase 128) is below).0 in
        ap (λ l. ends_subidentifiers true (continuation_octets l ++ rest)) is
        ∙ rw (ne_eqb d 128 (omega arith), lt-ltb d 128 small) refl
    go (d ∷ e ∷ ds) is =
        let some : d ≢ 0 = digits_first 128 n (omega arith) d e ds is in
        ap (λ l. ends_subidentifiers true (continuation_octets l ++ rest)) is
        ∙ rw (ne_eqb (128 + d) 128 (omega arith), le-ltb (128 + d) 128 (omega arith)) (ends_inside e ds rest (subst (AllBelowBase 128) is below).1)

ends_all : (ns : List ℕ) → ends_subidentifiers true (flat_map subidentifier_octets ns) ≡ true
ends_all [] = refl
ends_all (n ∷ ns) = ends_front n (flat_map subidentifier_octets ns) ∙ ends_all ns

-- the contents of arcs have the form, and these arcs
first_arc_is : (a b : ℕ) → a ≤ 2 → (a < 2 → b < 40) → first_arc (40 * a + b) ≡ a
first_arc_is zero b few below =
    let small : b < 40 = below (omega arith) in
    let is : 40 * 0 + b ≡ b = omega arith in
    ap first_arc is ∙ rw (lt-ltb b 40 small) refl
first_arc_is (suc zero) b few below =
    let small : b < 40 = below (omega arith) in
    let is : 40 * 1 + b ≡ 40 + b = omega arith in
    ap first_arc is ∙ rw (le-ltb (40 + b) 40 (omega arith), lt-ltb (40 + b) 80 (omega arith)) refl
first_arc_is (suc (suc zero)) b few below =
    let is : 40 * 2 + b ≡ 80 + b = omega arith in
    ap first_arc is ∙ rw (le-ltb (80 + b) 40 (omega arith), le-ltb (80 + b) 80 (omega arith)) refl
first_arc_is (suc (suc (suc a))) b few below = absurd (omega arith)

pub arcs_are_decoded : (arcs : List ℕ) → AreOidArcs arcs → oid_arcs (oid_octets arcs) ≡ arcs
arcs_are_decoded [] none = absurd none
arcs_are_decoded (a ∷ []) none = absurd none
arcs_are_decoded (a ∷ b ∷ more) are =
    let n = 40 * a + b in
    let first : first_arc n ≡ a = first_arc_is a b are.0 are.1 in
    let second : n - 40 * first_arc n ≡ b = ap (λ k. n - 40 * k) first ∙ (let s : n - 40 * a ≡ b = omega arith in s) in
    ap arcs_of (decoded_all (n ∷ more)) ∙ ap (λ k. k ∷ (n - 40 * first_arc n) ∷ more) first ∙ ap (λ k. a ∷ k ∷ more) second

pub arcs_have_form : (arcs : List ℕ) → AreOidArcs arcs → oid_form (oid_octets arcs) ≡ true
arcs_have_form [] none = absurd none
arcs_have_form (a ∷ []) none = absurd none
arcs_have_form (a ∷ b ∷ more) are = go (oid_octets (a ∷ b ∷ more)) refl
  where
    go : (octets : List ℕ) → oid_octets (a ∷ b ∷ more) ≡ octets → oid_form octets ≡ true
    go [] none = absurd (let no : [] ≡ (40 * a + b) ∷ more = ap (subidentifiers 0) (sym none) ∙ decoded_all ((40 * a + b) ∷ more) in let size : 0 ≡ suc (length more) = ap length no in omega arith)
    go (o ∷ os) is = ap (ends_subidentifiers true) (sym is) ∙ ends_all ((40 * a + b) ∷ more)

-- one more arc with a dot
terminated_push : (arcs : List ℕ) (n : ℕ) → terminated (arcs ++ n ∷ []) ≡ terminated arcs ++ (decimal_text n ++ 46 ∷ [])
terminated_push [] n = append-nil (decimal_text n ++ 46 ∷ [])
terminated_push (a ∷ arcs) n = ap (λ l. (decimal_text a ++ 46 ∷ []) ++ l) (terminated_push arcs n) ∙ sym (append_assoc (decimal_text a ++ 46 ∷ []) (terminated arcs) (decimal_text n ++ 46 ∷ []))

dotted_once : (n : ℕ) (l : List ℕ) → (decimal_text n ++ 46 ∷ []) ++ l ≡ decimal_text n ++ 46 ∷ l
dotted_once n l = append_assoc (decimal_text n) (46 ∷ []) l

-- arcs that begin as others do
terminated_front : (done all rest : List ℕ) → terminated all ≡ terminated done ++ rest → (more : List ℕ) × (all ≡ done ++ more) × (terminated more ≡ rest)
terminated_front [] all rest e = (all, refl, e)
terminated_front (d ∷ ds) [] rest e =
    absurd (let size : 0 ≡ length (((decimal_text d ++ 46 ∷ []) ++ terminated ds) ++ rest) = ap length e in
    omega (arith, length-append ((decimal_text d ++ 46 ∷ []) ++ terminated ds) rest, length-append (decimal_text d ++ 46 ∷ []) (terminated ds), length-append (decimal_text d) (46 ∷ [])))
terminated_front (d ∷ ds) (a ∷ others) rest e =
    let whole : decimal_text a ++ 46 ∷ terminated others ≡ decimal_text d ++ 46 ∷ (terminated ds ++ rest) =
    sym (dotted_once a (terminated others)) ∙ e ∙ append_assoc (decimal_text d ++ 46 ∷ []) (terminated ds) rest ∙ dotted_once d (terminated ds ++ rest) in
    let both = number_text_front a d (terminated others) (terminated ds ++ rest) whole in
    let more = terminated_front ds others rest both.1 in
    (more.0, ap (λ k. k ∷ others) both.0 ∙ ap (λ l. d ∷ l) more.1, more.2)

nothing_left : (arcs : List ℕ) → terminated arcs ≡ [] → arcs ≡ []
nothing_left [] e = refl
nothing_left (a ∷ arcs) e =
    absurd (let size : length ((decimal_text a ++ 46 ∷ []) ++ terminated arcs) ≡ 0 = ap length e in
    omega (arith, length-append (decimal_text a ++ 46 ∷ []) (terminated arcs), length-append (decimal_text a) (46 ∷ [])))

-- a text in dotted notation is its arcs with a dot after each, without the last dot
dotted_terminated : (text arcs : List ℕ) → IsDotted text arcs → text ++ 46 ∷ [] ≡ terminated arcs
dotted_terminated text [] d = absurd d.0
dotted_terminated text (a ∷ arcs) d = ap (λ l. l ++ 46 ∷ []) d.1 ∙ sym (terminated_dotted a arcs)

terminated_text : (text arcs : List ℕ) → AreOidArcs arcs → text ++ 46 ∷ [] ≡ terminated arcs → text ≡ dotted_text arcs
terminated_text text [] are e = absurd are
terminated_text text (a ∷ arcs) are e =
    let whole : text ++ 46 ∷ [] ≡ dotted_text (a ∷ arcs) ++ 46 ∷ [] = e ∙ terminated_dotted a arcs in
    let size : length text ≡ length (dotted_text (a ∷ arcs)) = omega (arith, ap length whole, length-append text (46 ∷ []), length-append (dotted_text (a ∷ arcs)) (46 ∷ [])) in
    (same_length_front text (dotted_text (a ∷ arcs)) (46 ∷ []) (46 ∷ []) size whole).0

-- the arcs before a position are read, and pushed
pub record IsReadingArcs (text : List ℕ) (c : OidContents) (at : ℕ) : Type 0 where
  pub arcs : List ℕ
  pub within : at ≤ length text + 1
  pub holds : Holds c arcs
  pub read : text ++ 46 ∷ [] ≡ terminated arcs ++ drop at (text ++ 46 ∷ [])

pub arcs_start : (text : List ℕ) (c : OidContents) → Holds c [] → IsReadingArcs text c 0
arcs_start text c h = record { arcs = []; within = omega arith; holds = h; read = refl }

module _ {text : List ℕ} {c : OidContents} {at : ℕ} (r : IsReadingArcs text c at) where
  pub arcs_continue : {new : OidContents} (n end : ℕ) → end ≤ length text → drop at (text ++ 46 ∷ []) ≡ decimal_text n ++ 46 ∷ drop (end + 1) (text ++ 46 ∷ [])
      → Pushes r.arcs n true new → IsReadingArcs text new (end + 1)
  arcs_continue n end inside there pushed =
      record {
        arcs = r.arcs ++ n ∷ [];
        within = omega arith;
        holds = pushed;
        read = r.read ∙ ap (λ l. terminated r.arcs ++ l) (there ∙ sym (dotted_once n (drop (end + 1) (text ++ 46 ∷ []))))
            ∙ sym (append_assoc (terminated r.arcs) (decimal_text n ++ 46 ∷ []) (drop (end + 1) (text ++ 46 ∷ [])))
            ∙ ap (λ l. l ++ drop (end + 1) (text ++ 46 ∷ [])) (sym (terminated_push r.arcs n));
      }

  -- arcs of the text are those that are read, and more
  more_arcs : (arcs : List ℕ) → IsDotted text arcs → (more : List ℕ) × (arcs ≡ r.arcs ++ more) × (terminated more ≡ drop at (text ++ 46 ∷ []))
  more_arcs arcs d = terminated_front r.arcs arcs (drop at (text ++ 46 ∷ [])) (sym (dotted_terminated text arcs d) ∙ r.read)

  -- there is one more before the end
  next_arc : at ≤ length text → (arcs : List ℕ) → IsDotted text arcs → (n : ℕ) × (more : List ℕ) × (arcs ≡ r.arcs ++ n ∷ more) × (drop at (text ++ 46 ∷ []) ≡ decimal_text n ++ 46 ∷ terminated more)
  next_arc inside arcs d = go (more_arcs arcs d)
    where
      go : ((more : List ℕ) × (arcs ≡ r.arcs ++ more) × (terminated more ≡ drop at (text ++ 46 ∷ [])))
          → (n : ℕ) × (more : List ℕ) × (arcs ≡ r.arcs ++ n ∷ more) × (drop at (text ++ 46 ∷ []) ≡ decimal_text n ++ 46 ∷ terminated more)
      go ([], is, e) = absurd (let size : 0 ≡ length (drop at (text ++ 46 ∷ [])) = ap length e in omega (arith, length-drop at (text ++ 46 ∷ []), length-append text (46 ∷ [])))
      go (n ∷ more, is, e) = (n, more, is, sym e ∙ dotted_once n (terminated more))

  pub no_arc : at ≤ length text → ((n : ℕ) (more : List ℕ) → drop at (text ++ 46 ∷ []) ≡ decimal_text n ++ 46 ∷ more → ⊥) → (arcs : List ℕ) → IsDotted text arcs → ⊥
  no_arc inside none arcs d = let one = next_arc inside arcs d in none one.0 (terminated one.1) one.3

  pub no_push : (n end : ℕ) → at ≤ length text → drop at (text ++ 46 ∷ []) ≡ decimal_text n ++ 46 ∷ drop (end + 1) (text ++ 46 ∷ [])
      → ((more : List ℕ) → AreOidArcs (r.arcs ++ n ∷ more) → ⊥) → (arcs : List ℕ) → IsDotted text arcs → ⊥
  no_push n end inside there none arcs d =
      let one = next_arc inside arcs d in
      let same = number_text_front one.0 n (terminated one.1) (drop (end + 1) (text ++ 46 ∷ [])) (sym one.3 ∙ there) in
      none one.1 (subst AreOidArcs (one.2 ∙ ap (λ k. r.arcs ++ k ∷ one.1) same.0) d.0)

  -- all arcs are read
  module _ (ended : length text < at) where
    all_read : text ++ 46 ∷ [] ≡ terminated r.arcs
    all_read = r.read ∙ ap (λ l. terminated r.arcs ++ l) rest_none ∙ append-nil (terminated r.arcs)
      where
        none_of : (l : List ℕ) → length l ≤ 0 → l ≡ []
        none_of [] h = refl
        none_of (x ∷ l) h = absurd (omega arith)

        rest_none : drop at (text ++ 46 ∷ []) ≡ []
        rest_none = none_of (drop at (text ++ 46 ∷ [])) (omega (arith, length-drop at (text ++ 46 ∷ []), length-append text (46 ∷ [])))

    pub too_few : (AreOidArcs r.arcs → ⊥) → (arcs : List ℕ) → IsDotted text arcs → ⊥
    too_few none arcs d =
        let more = terminated_front r.arcs arcs [] (sym (dotted_terminated text arcs d) ∙ all_read ∙ sym (append-nil (terminated r.arcs))) in
        none (subst AreOidArcs (more.1 ∙ ap (λ l. r.arcs ++ l) (nothing_left more.0 more.2) ∙ append-nil r.arcs) d.0)

    pub whole_dotted : AreOidArcs r.arcs → IsDotted text r.arcs
    whole_dotted are = (are, terminated_text text r.arcs are all_read)

    pub whole_encoded : AreOidArcs r.arcs → (octets : List ℕ) → octets ≡ oid_octets r.arcs → IsEncoded text octets
    whole_encoded are octets is = (
      ap oid_form is ∙ arcs_have_form r.arcs are,
      terminated_text text r.arcs are all_read ∙ ap dotted_text (sym (arcs_are_decoded r.arcs are) ∙ ap oid_arcs (sym is)),
    )

-- The arcs of an iterator, and their dotted notation.
use Rattle.std.proofs.Math.ListN.{set}
use Rattle.std.proofs.Math.Seq.{set-append_seam}
use Rattle.std.proofs.Common.{◌≡◌, ℕ, ◌+◌, ◌-◌, ◌*◌, ◌^◌, ◌<◌, ◌≤◌, ◌&&◌, ⊎_elim, Bool, true, false, nat_lt, List, [], ◌∷◌, ◌++◌, drop, map, refl, sym, ap, ◌∙◌, subst, append_assoc, append-nil, length, length-append, arith}
use Rattle.std.proofs.lemmas.Bool.{cases_lt, lt-ltb, le-ltb}
use Rattle.std.specs.List.{flat_map, list_all}
use Rattle.der_asn1.specs.Arcs.{arcs_of, arcs_at, arcs_left, arc_items, items_at, items_of, first_arc, oid_arcs, oid_octets, second_item, subidentifier_value, subidentifiers}
use Rattle.der_asn1.specs.Forms.{oid_form}
use Rattle.der_asn1.specs.declared.identifiers.arcs.Arcs.{Arcs}
use Rattle.der_asn1.specs.declared.identifiers.arcs.Stage.{Stage}
use Rattle.der_asn1.specs.declared.identifiers.arcs.Stage.TheVariants as stage
use Rattle.der_c_values.specs.Dotted.{decimal_text, dotted_text, oid_text, items_text, all_fit, are_small_arcs}

-- arcs in decimal with a dot after each
abbrev pub terminated : List ℕ → List ℕ
terminated arcs = flat_map (λ n. decimal_text n ++ 46 ∷ []) arcs

abbrev pub all_small : List ℕ → Bool
all_small ns = list_all (λ n. nat_lt n (2 ^ 128)) ns

-- subidentifiers that fit are arcs that fit
fit_others : (ns : List ℕ) → all_fit (map subidentifier_value ns) ≡ all_small ns
fit_others [] = refl
fit_others (n ∷ ns) = ⊎_elim
    (λ l. rw (lt-ltb n (2 ^ 128) l) (fit_others ns))
    (λ g. rw (le-ltb n (2 ^ 128) g) refl)
    (cases_lt n (2 ^ 128))

text_others : (ns : List ℕ) → all_fit (map subidentifier_value ns) ≡ true → items_text (map subidentifier_value ns) ≡ terminated ns
text_others [] fit = refl
text_others (n ∷ ns) fit = ⊎_elim
    (λ l. let small = lt-ltb n (2 ^ 128) l in
    rw small (ap (λ x. (decimal_text n ++ 46 ∷ []) ++ x) (text_others ns (rw small at fit))))
    (λ g. absurd (let wrong : false ≡ true = rw (le-ltb n (2 ^ 128) g) at fit in cc))
    (cases_lt n (2 ^ 128))

fit_second : (n : ℕ) (ns : List ℕ) → all_fit (second_item n ∷ map subidentifier_value ns) ≡ (nat_lt n (2 ^ 128) && all_small ns)
fit_second n ns = ⊎_elim
    (λ l. rw (lt-ltb n (2 ^ 128) l) (fit_others ns))
    (λ g. rw (le-ltb n (2 ^ 128) g) refl)
    (cases_lt n (2 ^ 128))

text_second : (n : ℕ) (ns : List ℕ) → all_fit (second_item n ∷ map subidentifier_value ns) ≡ true
    → items_text (second_item n ∷ map subidentifier_value ns) ≡ terminated ((n - 40 * first_arc n) ∷ ns)
text_second n ns fit = ⊎_elim
    (λ l. let small = lt-ltb n (2 ^ 128) l in
    rw small (ap (λ x. (decimal_text (n - 40 * first_arc n) ++ 46 ∷ []) ++ x) (text_others ns (rw small at fit))))
    (λ g. absurd (let wrong : false ≡ true = rw (le-ltb n (2 ^ 128) g) at fit in cc))
    (cases_lt n (2 ^ 128))

first_two : (n : ℕ) → 40 * first_arc n + (n - 40 * first_arc n) ≡ n
first_two n = ⊎_elim
    (λ l. rw (lt-ltb n 40 l) (omega arith))
    (λ g. ⊎_elim
    (λ l. rw (le-ltb n 40 g, lt-ltb n 80 l) (omega (arith, g)))
    (λ h. rw (le-ltb n 40 g, le-ltb n 80 h) (omega (arith, h)))
    (cases_lt n 80))
    (cases_lt n 40)

-- the first arc is 0, 1 or 2
pub first_small : (n : ℕ) → first_arc n ≤ 2
first_small n = ⊎_elim
    (λ l. rw (lt-ltb n 40 l) (omega arith))
    (λ g. ⊎_elim
    (λ l. rw (le-ltb n 40 g, lt-ltb n 80 l) (omega arith))
    (λ h. rw (le-ltb n 40 g, le-ltb n 80 h) (omega arith))
    (cases_lt n 80))
    (cases_lt n 40)

-- arcs that all fit are the arcs that are left
stage_text : (at : Stage) (octets : List ℕ) → all_fit (items_at at octets) ≡ true → items_text (items_at at octets) ≡ terminated (arcs_at at octets)
stage_text stage.First octets fit = go (subidentifiers 0 octets) fit
  where
    go : (ns : List ℕ) → all_fit (items_of ns) ≡ true → items_text (items_of ns) ≡ terminated (arcs_of ns)
    go [] h = refl
    go (n ∷ ns) h = ap (λ x. (decimal_text (first_arc n) ++ 46 ∷ []) ++ x) (text_second n ns h)
stage_text stage.Second octets fit = go (subidentifiers 0 octets) fit
  where
    go : (ns : List ℕ) → all_fit (drop 1 (items_of ns)) ≡ true → items_text (drop 1 (items_of ns)) ≡ terminated (drop 1 (arcs_of ns))
    go [] h = refl
    go (n ∷ ns) h = text_second n ns h
stage_text stage.Other octets fit = text_others (subidentifiers 0 octets) fit

pub arcs_text : (a : Arcs) → all_fit (arc_items a) ≡ true → items_text (arc_items a) ≡ terminated (arcs_left a)
arcs_text a fit = stage_text a.stage a.octets.now fit

-- after a small first arc, an arc that does not fit does not fit with it
tail_large : (x : ℕ) (ns : List ℕ) → all_small ns ≡ false → are_small_arcs (x ∷ ns) ≡ false
tail_large x [] large = absurd (let wrong : true ≡ false = large in cc)
tail_large x (b ∷ more) large = ⊎_elim
    (λ l. let rest : all_small more ≡ false = rw (lt-ltb b (2 ^ 128) l) at large in rw rest (and_false (nat_lt (40 * x + b) (2 ^ 128))))
    (λ g. rw (le-ltb (40 * x + b) (2 ^ 128) (omega (arith, g))) refl)
    (cases_lt b (2 ^ 128))
  where
    and_false : (c : Bool) → (c && false) ≡ false
    and_false true = refl
    and_false false = refl

-- the first of these arcs is 0, 1 or 2
abbrev pub BeginsSmall : List ℕ → Type 0
BeginsSmall [] = Unit {0}
BeginsSmall (a ∷ arcs) = a ≤ 2

begins_small : (ns : List ℕ) → BeginsSmall (arcs_of ns)
begins_small [] = tt
begins_small (n ∷ ns) = first_small n

second_large : (n : ℕ) (ns : List ℕ) → BeginsSmall ((n - 40 * first_arc n) ∷ ns) → (nat_lt n (2 ^ 128) && all_small ns) ≡ false → are_small_arcs ((n - 40 * first_arc n) ∷ ns) ≡ false
second_large n ns small large =
    let few : n < 2 ^ 128 = omega (arith, small, first_small n) in
    tail_large (n - 40 * first_arc n) ns (rw (lt-ltb n (2 ^ 128) few) at large)

stage_large : (at : Stage) (octets : List ℕ) → BeginsSmall (arcs_at at octets) → all_fit (items_at at octets) ≡ false → are_small_arcs (arcs_at at octets) ≡ false
stage_large stage.First octets small large = go (subidentifiers 0 octets) large
  where
    go : (ns : List ℕ) → all_fit (items_of ns) ≡ false → are_small_arcs (arcs_of ns) ≡ false
    go [] h = absurd (let wrong : true ≡ false = h in cc)
    go (n ∷ ns) h = ap (λ m. nat_lt m (2 ^ 128) && all_small ns) (first_two n) ∙ (sym (fit_second n ns) ∙ h)
stage_large stage.Second octets small large = go (subidentifiers 0 octets) small large
  where
    go : (ns : List ℕ) → BeginsSmall (drop 1 (arcs_of ns)) → all_fit (drop 1 (items_of ns)) ≡ false → are_small_arcs (drop 1 (arcs_of ns)) ≡ false
    go [] b h = absurd (let wrong : true ≡ false = h in cc)
    go (n ∷ ns) b h = second_large n ns b (sym (fit_second n ns) ∙ h)
stage_large stage.Other octets small large = go (subidentifiers 0 octets) small (sym (fit_others (subidentifiers 0 octets)) ∙ large)
  where
    go : (ns : List ℕ) → BeginsSmall ns → all_small ns ≡ false → are_small_arcs ns ≡ false
    go [] b h = absurd (let wrong : true ≡ false = h in cc)
    go (n ∷ ns) b h = let few : n < 2 ^ 128 = omega (arith, b) in tail_large n ns (rw (lt-ltb n (2 ^ 128) few) at h)

-- an arc that does not fit, of the arcs of contents
pub arcs_large : (a : Arcs) (octets : List ℕ) → arcs_left a ≡ oid_arcs octets → all_fit (arc_items a) ≡ false → are_small_arcs (oid_arcs octets) ≡ false
arcs_large a octets same large =
    subst (λ arcs. are_small_arcs arcs ≡ false) same
    (stage_large a.stage a.octets.now (subst BeginsSmall (sym same) (begins_small (subidentifiers 0 octets))) large)

-- arcs with a dot after each are their dotted notation with a dot at the end
pub terminated_dotted : (a : ℕ) (arcs : List ℕ) → terminated (a ∷ arcs) ≡ dotted_text (a ∷ arcs) ++ 46 ∷ []
terminated_dotted a [] = append-nil (decimal_text a ++ 46 ∷ [])
terminated_dotted a (b ∷ arcs) =
    ap (λ x. (decimal_text a ++ 46 ∷ []) ++ x) (terminated_dotted b arcs)
    ∙ append_assoc (decimal_text a) (46 ∷ []) (dotted_text (b ∷ arcs) ++ 46 ∷ [])
    ∙ sym (append_assoc (decimal_text a) (46 ∷ dotted_text (b ∷ arcs)) (46 ∷ []))

pub oid_terminated : (octets : List ℕ) → oid_form octets ≡ true → oid_octets (oid_arcs octets) ≡ octets → terminated (oid_arcs octets) ≡ dotted_text (oid_arcs octets) ++ 46 ∷ []
oid_terminated octets form back = go (oid_arcs octets) back
  where
    go : (arcs : List ℕ) → oid_octets arcs ≡ octets → terminated arcs ≡ dotted_text arcs ++ 46 ∷ []
    go [] none = absurd (let wrong : false ≡ true = ap oid_form none ∙ form in cc)
    go (a ∷ arcs) some = terminated_dotted a arcs

-- a clone has the same arcs left
pub items_same : (a copy : Arcs) → (copy.octets.now ≡ a.octets.now) × (copy.stage ≡ a.stage) → arc_items copy ≡ arc_items a
items_same a copy e = ap (items_at copy.stage) e.0 ∙ ap (λ at. items_at at a.octets.now) e.1

-- the arcs of contents, if they fit, are the dotted notation with a dot at the end
pub whole_text : (a : Arcs) (octets : List ℕ) → oid_form octets ≡ true → arcs_left a ≡ oid_arcs octets → oid_octets (arcs_left a) ≡ octets → all_fit (arc_items a) ≡ true
    → items_text (arc_items a) ≡ oid_text octets ++ 46 ∷ []
whole_text a octets form same back fit =
    arcs_text a fit ∙ ap terminated same ∙ oid_terminated octets form (ap oid_octets (sym same) ∙ back)

-- a zero octet takes the place of the last dot
pub zero_at_end : (text items old new : List ℕ) (end : ℕ) → items ≡ text ++ 46 ∷ [] → end ≡ length items → new ≡ items ++ drop end old
    → set new (end - 1) 0 ≡ text ++ (0 ∷ drop (end - 1 + 1) old)
zero_at_end text items old new end whole count is =
    let size : end ≡ length text + 1 = count ∙ ap length whole ∙ length-append text (46 ∷ []) in
    let last : end - 1 ≡ length text = omega arith in
    let back : end ≡ end - 1 + 1 = omega arith in
    ap (λ x. set x (end - 1) 0) (is ∙ ap (λ x. x ++ drop end old) whole ∙ append_assoc text (46 ∷ []) (drop end old))
    ∙ ap (λ k. set (text ++ (46 ∷ drop end old)) k 0) last
    ∙ set-append_seam text 46 (drop end old) 0
    ∙ ap (λ k. text ++ (0 ∷ drop k old)) back

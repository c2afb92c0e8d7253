-- Lemmas on the certificates of a path from a place on.
use Rattle.std.proofs.Common.{◌≡◌, ◌+◌, ◌-◌, ◌<◌, ◌≤◌, ℕ, Bool, true, false, List, [], ◌∷◌, ◌++◌, length, get_or, take, drop, refl, sym, ap, subst, ◌∙◌, arith}
use Rattle.std.proofs.Common.{append_assoc, length-drop}
use Rattle.std.proofs.lemmas.List.{at_drop_more, drop_more, length-take-le, take-append-drop, take_more}
use Rattle.path_rules.specs.Path.{Asks, IsFault, IsFirstBroken, KeepRules, Keeps, KeptBefore, intermediates, issues, weight}
use Rattle.path_rules.specs.declared.facts.Facts.{Facts}
use Rattle.path_rules.specs.declared.rule.Rule.{Rule}
use Rattle.path_rules.specs.declared.rules.TheConstants.{RULES}

some_issues : (l : List Facts) → 0 < length l → true ≡ issues l
some_issues [] h = absurd (omega arith)
some_issues (c ∷ cs) h = refl

none_issues : (l : List Facts) → length l ≤ 0 → false ≡ issues l
none_issues [] h = refl
none_issues (c ∷ cs) h = absurd (omega arith)

-- a certificate follows before this place, or none from it on
pub follows : (p : List Facts) (i : ℕ) → i < length p → true ≡ issues (drop i p)
follows p i h = some_issues (drop i p) (omega (arith, length-drop i p))

pub ends : (p : List Facts) (i : ℕ) → length p ≤ i → false ≡ issues (drop i p)
ends p i h = none_issues (drop i p) (omega (arith, length-drop i p))

asked : (r : Rule) (f : Facts) (b : Bool) (n : ℕ) (after : List Facts) → b ≡ issues after → n ≡ intermediates after → Asks r f b n → Keeps r f after
asked r f b n after is left h = subst (λ x. Asks r f x (intermediates after)) is (subst (Asks r f b) left h)

-- the first rule that it breaks is one before those that follow
broken_after : (r : Rule) (f : Facts) (b : Bool) (n : ℕ) (after : List Facts) → b ≡ issues after → n ≡ intermediates after → IsFirstBroken RULES r f b n → IsFirstBroken RULES r f (issues after) (intermediates after)
broken_after r f b n after is left h = subst (λ x. IsFirstBroken RULES r f x (intermediates after)) is (subst (IsFirstBroken RULES r f b) left h)

-- how many certificates are left after this place
pub left_after : (p : List Facts) (i : ℕ) (d : Facts) (b : Bool) (w n : ℕ) → i < length p → b ≡ issues (drop (i + 1) p) → w ≡ weight (get_or p i d) b
    → n ≡ intermediates (drop i p) → n - w ≡ intermediates (drop (i + 1) p)
left_after p i d b w n h is weighs counted =
    let e = at_drop_more intermediates p i d h in
    let same = ap (weight (get_or p i d)) is in omega (arith, e, same, weighs, counted)

-- one certificate more keeps all rules
kept_more : (xs : List Facts) (f : Facts) (ys : List Facts) → KeptBefore xs (f ∷ ys) → ((r : Rule) → Keeps r f ys) → KeptBefore (xs ++ f ∷ []) ys
kept_more [] f ys h all = (all, tt)
kept_more (c ∷ xs) f ys h all = (λ r. subst (Keeps r c) (sym (append_assoc xs (f ∷ []) ys)) (h.0 r), kept_more xs f ys h.1 all)

kept_whole : (xs ys : List Facts) → KeptBefore xs ys → KeepRules ys → KeepRules (xs ++ ys)
kept_whole [] ys h more = more
kept_whole (c ∷ xs) ys h more = (h.0, kept_whole xs ys h.1 more)

nothing_left : (l : List Facts) → length l ≤ 0 → KeepRules l
nothing_left [] h = tt
nothing_left (c ∷ cs) h = absurd (omega arith)

-- all certificates keep all rules, at the end of the path
pub kept_all : (p : List Facts) (i : ℕ) → length p ≤ i → KeptBefore (take i p) (drop i p) → KeepRules p
kept_all p i h kept =
    subst KeepRules (take-append-drop i p) (kept_whole (take i p) (drop i p) kept (nothing_left (drop i p) (omega (arith, length-drop i p))))

-- the certificate at this place breaks a rule
pub fault_at : (p : List Facts) (i : ℕ) (d : Facts) (r : Rule) (b : Bool) (n : ℕ) → i < length p → b ≡ issues (drop (i + 1) p) → n ≡ intermediates (drop (i + 1) p)
    → IsFirstBroken RULES r (get_or p i d) b n → KeptBefore (take i p) (drop i p) → IsFault (record { at = i; rule = r }) p
fault_at p i d r b n h is left breaks kept =
    record {
      before = take i p;
      certificate = get_or p i d;
      after = drop (i + 1) p;
      split = sym (take-append-drop i p) ∙ ap (λ x. take i p ++ x) (drop_more p i d h);
      at = length-take-le i p (omega arith);
      first = subst (KeptBefore (take i p)) (drop_more p i d h) kept;
      broken = broken_after r (get_or p i d) b n (drop (i + 1) p) is left breaks;
    }

-- the certificate at this place keeps all rules
pub kept_at : (p : List Facts) (i : ℕ) (d : Facts) (b : Bool) (n : ℕ) → i < length p → b ≡ issues (drop (i + 1) p) → n ≡ intermediates (drop (i + 1) p)
    → ((r : Rule) → Asks r (get_or p i d) b n) → KeptBefore (take i p) (drop i p) → KeptBefore (take (i + 1) p) (drop (i + 1) p)
kept_at p i d b n h is left all kept =
    subst (λ x. KeptBefore x (drop (i + 1) p)) (sym (take_more p i d h))
    (kept_more (take i p) (get_or p i d) (drop (i + 1) p) (subst (KeptBefore (take i p)) (drop_more p i d h) kept)
    (λ r. asked r (get_or p i d) b n (drop (i + 1) p) is left (all r)))

-- Lemmas on the walk over the certificates of a path.
use Rattle.std.proofs.Common.{◌≡◌, ◌⊎◌, ◌+◌, ◌*◌, ◌<◌, ◌≤◌, ℕ, Bool, false, true, List, [], ◌∷◌, ◌++◌, length, get_or, take, drop, inl, inr, refl, sym, ap, subst, ◌∙◌, arith, length-drop}
use Rattle.std.proofs.lemmas.List.{drop_more, length-take-le, take-append-drop, take_all, take_more}
use Rattle.std.specs.Borrow.{Bor}
use Rattle.path_rules.specs.Policies.{Policy}
use Rattle.path_rules.specs.PolicyRules.{IsFirstOf, IsPolicyFault, KeepIssuers, KeepsPolicies, entries, is_end, onto}
use Rattle.path_rules.specs.Steps.{size}
use Rattle.path_rules.specs.declared.counters.Counters.{Counters}
use Rattle.path_rules.specs.declared.node.Node.{Node}
use Rattle.path_rules.specs.declared.policy_facts.PolicyFacts.{PolicyFacts}
use Rattle.path_rules.specs.declared.policy_rule.PolicyRule.{PolicyRule}

onto_push : (before xs : List PolicyFacts) (c : PolicyFacts) → onto before (xs ++ c ∷ []) ≡ c ∷ onto before xs
onto_push before [] c = refl
onto_push before (x ∷ xs) c = onto_push (x ∷ before) xs c

-- one certificate more is the latest
pub onto_more : (p : List PolicyFacts) (i : ℕ) (d : PolicyFacts) → i < length p → onto [] (take (i + 1) p) ≡ get_or p i d ∷ onto [] (take i p)
onto_more p i d lt = ap (onto []) (take_more p i d lt) ∙ onto_push [] (take i p) (get_or p i d)

kept_push : (start : Counters) (allowed : List (Bor Policy)) (before xs : List PolicyFacts) (c : PolicyFacts) → KeepIssuers start allowed before xs
    → ((r : PolicyRule) → KeepsPolicies start allowed false c (onto before xs) r) → KeepIssuers start allowed before (xs ++ c ∷ [])
kept_push start allowed before [] c h keeps = (keeps, tt)
kept_push start allowed before (x ∷ xs) c h keeps = (h.0, kept_push start allowed (x ∷ before) xs c h.1 keeps)

-- one certificate more keeps all rules
pub issuers_more : (start : Counters) (allowed : List (Bor Policy)) (p : List PolicyFacts) (i : ℕ) (d : PolicyFacts) → i < length p
    → KeepIssuers start allowed [] (take i p) → ((r : PolicyRule) → KeepsPolicies start allowed false (get_or p i d) (onto [] (take i p)) r)
    → KeepIssuers start allowed [] (take (i + 1) p)
issuers_more start allowed p i d lt h keeps =
    subst (KeepIssuers start allowed []) (sym (take_more p i d lt)) (kept_push start allowed [] (take i p) (get_or p i d) h keeps)

entries_append : (xs ys : List PolicyFacts) → entries (xs ++ ys) ≡ entries xs + entries ys
entries_append [] ys = omega arith
entries_append (x ∷ xs) ys = omega (arith, entries_append xs ys)

-- the policies and mappings up to a certificate, and its own
pub entries_more : (p : List PolicyFacts) (i : ℕ) (d : PolicyFacts) → i < length p → entries (take i p) + size (get_or p i d) ≡ entries (take (i + 1) p)
entries_more p i d lt =
    let more = ap entries (take_more p i d lt) in
    let split = entries_append (take i p) (get_or p i d ∷ []) in omega (arith, more, split)

pub entries_within : (p : List PolicyFacts) (i : ℕ) (d : PolicyFacts) → i < length p → entries (take i p) + size (get_or p i d) ≤ entries p
entries_within p i d lt =
    let whole = ap entries (take-append-drop (i + 1) p) in
    let split = entries_append (take (i + 1) p) (drop (i + 1) p) in omega (arith, whole, split, entries_more p i d lt)

pub not_end : (xs : List PolicyFacts) → 0 < length xs → is_end xs ≡ false
not_end [] h = absurd (let never : ⊥ = omega (arith, h) in never)
not_end (x ∷ xs) h = refl

pub at_end : (xs : List PolicyFacts) → length xs ≤ 0 → is_end xs ≡ true
at_end [] h = refl
at_end (x ∷ xs) h = absurd (let never : ⊥ = omega (arith, h) in never)

-- the certificate at this place breaks a rule
pub policy_fault_at : (start : Counters) (allowed : List (Bor Policy)) (p : List PolicyFacts) (i : ℕ) (d : PolicyFacts) (r : PolicyRule) (last : Bool) → i < length p
    → is_end (drop (i + 1) p) ≡ last → KeepIssuers start allowed [] (take i p)
    → IsFirstOf (KeepsPolicies start allowed last (get_or p i d) (onto [] (take i p))) r → IsPolicyFault start allowed (record { at = i; rule = r }) p
policy_fault_at start allowed p i d r last lt is kept breaks =
    record {
      before = take i p;
      certificate = get_or p i d;
      after = drop (i + 1) p;
      split = sym (take-append-drop i p) ∙ ap (λ x. take i p ++ x) (drop_more p i d lt);
      at = length-take-le i p (omega arith);
      first = kept;
      broken = subst (λ b. IsFirstOf (KeepsPolicies start allowed b (get_or p i d) (onto [] (take i p))) r) (sym is) breaks;
    }

pub ends_after : (p : List PolicyFacts) (i : ℕ) → length p ≤ i + 1 → is_end (drop (i + 1) p) ≡ true
ends_after p i le = at_end (drop (i + 1) p) (omega (arith, length-drop (i + 1) p))

pub goes_on_after : (p : List PolicyFacts) (i : ℕ) → i + 1 < length p → is_end (drop (i + 1) p) ≡ false
goes_on_after p i lt = not_end (drop (i + 1) p) (omega (arith, length-drop (i + 1) p))

-- a path is its issuers and its last certificate
pub last_split : (p : List PolicyFacts) (i : ℕ) (d : PolicyFacts) → i < length p → length p ≤ i + 1 → p ≡ take i p ++ get_or p i d ∷ []
last_split p i d lt le = sym (take_all (i + 1) p le) ∙ take_more p i d lt

-- a room that is too small for the nodes of a certificate is too small for those of the path
pub no_room : (count size before total expected nodes room : ℕ) → (expected < count + size) ⊎ (nodes < count + size) → count ≤ before → before + size ≤ total
    → room < 2 * (expected + 1) → room < 2 * (nodes + 1) → room < 2 * total
no_room count size before total expected nodes room (inl h) few within one other = omega arith
no_room count size before total expected nodes room (inr h) few within one other = omega arith

pub no_room_end : (e : List Node) (count size before total nodes room : ℕ) → nodes < length (take count e) + size → count ≤ length e → count ≤ before → before + size ≤ total
    → room < 2 * (nodes + 1) → room < 2 * total
no_room_end e count size before total nodes room h fits few within other =
    let front = length-take-le count e fits in omega (arith, front)

pub few_more : (p : List PolicyFacts) (i : ℕ) (d : PolicyFacts) (count next : ℕ) → i < length p → count ≤ entries (take i p)
    → next ≤ count + size (get_or p i d) → next ≤ entries (take (i + 1) p)
few_more p i d count next lt few fits = omega (arith, entries_more p i d lt, few, fits)

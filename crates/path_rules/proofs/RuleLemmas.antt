-- Lemmas on the list of rules.
use Rattle.std.proofs.Common.{◌+◌, ◌<◌, ◌≤◌, ℕ, Bool, List, [], ◌∷◌, ◌++◌, All, Option, Some, None, MatchOption, length, get_or, take, drop, lit<, sym, ap, subst, ◌∙◌}
use Rattle.std.proofs.lemmas.List.{drop_more, take-append-drop, take_all, take_more}
use Rattle.std.proofs.lemmas.List.Elements.{All-append, All-cons, All-nil}
use Rattle.path_rules.specs.Path.{Asks, IsFirstBroken, KeepsAll}
use Rattle.path_rules.specs.declared.facts.Facts.{Facts}
use Rattle.path_rules.specs.declared.rule.Rule.{Rule}
use Rattle.path_rules.specs.declared.rule.Rule.TheVariants as rule
use Rattle.path_rules.specs.declared.rules.TheConstants.{RULES}

-- one more of some rules is kept
pub all_more : {A : Type 0} (P : A → Type 0) (xs : List A) (i : ℕ) (d : A) → i < length xs → All P (take i xs) → P (get_or xs i d) → All P (take (i + 1) xs)
all_more P xs i d h all one =
    subst (All P) (sym (take_more xs i d h)) (All-append P (take i xs) (get_or xs i d ∷ []) all (All-cons P (get_or xs i d) [] one (All-nil P)))

pub all_of : {A : Type 0} (P : A → Type 0) (xs : List A) (i : ℕ) → length xs ≤ i → All P (take i xs) → All P xs
all_of P xs i h all = subst (All P) (take_all i xs h) all

-- the rule at this place is the first that a certificate breaks
pub first_at : (rules : List Rule) (at : ℕ) (d : Rule) (c : Facts) (i : Bool) (n : ℕ) → at < length rules → All (λ q. Asks q c i n) (take at rules)
    → (Asks (get_or rules at d) c i n → ⊥) → IsFirstBroken rules (get_or rules at d) c i n
first_at rules at d c i n h kept breaks =
    record {
      kept = take at rules;
      others = drop (at + 1) rules;
      split = sym (take-append-drop at rules) ∙ ap (λ x. take at rules ++ x) (drop_more rules at d h);
      earlier = kept;
      broken = breaks;
    }

-- the list has all rules
pub every_rule : (c : Facts) (i : Bool) (n : ℕ) → All (λ r. Asks r c i n) RULES → KeepsAll c i n
every_rule c i n all rule.SignatureAlgorithm = all 0 rule.Chain (lit< tt)
every_rule c i n all rule.UniqueIdentifiers = all 1 rule.Chain (lit< tt)
every_rule c i n all rule.ExtensionVersion = all 2 rule.Chain (lit< tt)
every_rule c i n all rule.DistinctExtensions = all 3 rule.Chain (lit< tt)
every_rule c i n all rule.Validity = all 4 rule.Chain (lit< tt)
every_rule c i n all rule.Chain = all 5 rule.Chain (lit< tt)
every_rule c i n all rule.Names = all 6 rule.Chain (lit< tt)
every_rule c i n all rule.Authority = all 7 rule.Chain (lit< tt)
every_rule c i n all rule.PathLength = all 8 rule.Chain (lit< tt)
every_rule c i n all rule.Usage = all 9 rule.Chain (lit< tt)
every_rule c i n all rule.Extensions = all 10 rule.Chain (lit< tt)

-- what is found in the list is found among all rules
pub in_all : (found : Option Rule) (c : Facts) (i : Bool) (n : ℕ) → MatchOption found (All (λ r. Asks r c i n) RULES) (λ r. IsFirstBroken RULES r c i n)
    → MatchOption found (KeepsAll c i n) (λ r. IsFirstBroken RULES r c i n)
in_all None c i n h = every_rule c i n h
in_all (Some r) c i n h = h

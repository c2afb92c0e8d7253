-- Whole runs of calls that search the next path.
use Rattle.std.proofs.Common.{◌⊎◌, ℕ, List, [], ◌∷◌, inl, inr, sym, subst}
use Rattle.path_search.specs.Places.{IsLeft}
use Rattle.path_search.specs.Runs.{AreDistinct, IsOneOf}
use Rattle.path_search.specs.declared.place.Place.{Place}
use Rattle.x509_build.specs.Runs.{Runs}

pub finds_each : (P K R : List ℕ → Type 0) (p q : Place) (room after : List ℕ) (found : List (List ℕ)) → Runs P K R p room found q after
    → (c : List ℕ) → P c → IsLeft p room c → IsOneOf found c ⊎ (IsLeft q after c ⊎ R c)
finds_each P K R p q room after [] (same, still) c is h = inr (inl (subst (λ r. IsLeft q r c) still (subst (λ s. IsLeft s room c) same h)))
finds_each P K R p q room after (f ∷ rest) (mid, between, builds, run) c is h = elim (builds.on c is h) [
  | inl same ↦ inl (inl (sym same))
  | inr (inl left) ↦ elim (finds_each P K R mid q between after rest run c is left) [ inl one ↦ inl (inr one) | inr other ↦ inr other ]
  | inr (inr refused) ↦ inr (inr refused)
]

-- what is found was left, and is kept
found_left : (P K R : List ℕ → Type 0) (p q : Place) (room after : List ℕ) (found : List (List ℕ)) (c : List ℕ) → Runs P K R p room found q after → IsOneOf found c
    → P c × K c × IsLeft p room c
found_left P K R p q room after [] c run one = absurd one
found_left P K R p q room after (f ∷ rest) c (mid, between, builds, run) (inl same) = subst (λ d. P d × K d × IsLeft p room d) same (builds.is, builds.kept, builds.left)
found_left P K R p q room after (f ∷ rest) c (mid, between, builds, run) (inr more) =
    let (is, kept, left) = found_left P K R mid q between after rest c run more in (is, kept, builds.back c is left)

pub finds_kept : (P K R : List ℕ → Type 0) (p q : Place) (room after : List ℕ) (found : List (List ℕ)) → Runs P K R p room found q after
    → (c : List ℕ) → IsOneOf found c → P c × K c
finds_kept P K R p q room after found run c one = let (is, kept, left) = found_left P K R p q room after found c run one in (is, kept)

pub finds_once : (P K R : List ℕ → Type 0) (p q : Place) (room after : List ℕ) (found : List (List ℕ)) → Runs P K R p room found q after → AreDistinct found
finds_once P K R p q room after [] run = tt
finds_once P K R p q room after (f ∷ rest) (mid, between, builds, run) =
    (λ one. let (is, kept, left) = found_left P K R mid q between after rest f run one in builds.passed left, finds_once P K R mid q between after rest run)

-- What whole runs of a search find.
use Rattle.std.proofs.Common.{◌≡◌, ◌⊎◌, ◌↔◌, ℕ, List, [], ◌∷◌, Any, inl, inr, refl, sym, subst, ◌∙◌}
use Rattle.path_search.specs.Places.{Finds, IsLeft}
use Rattle.path_search.specs.Runs.{AreDistinct, IsOneOf, Runs}
use Rattle.path_search.specs.declared.place.Place.{Place}

pub finds_each : (P : List ℕ → Type 0) (p q : Place) (room after : List ℕ) (found : List (List ℕ)) → Runs P p room found q after
    → ((c : List ℕ) → P c → IsLeft q after c → ⊥) → (c : List ℕ) → P c → IsLeft p room c ↔ IsOneOf found c
finds_each P p q room after [] (same, still) none c is = (
  λ left. absurd (none c is (subst (λ r. IsLeft q r c) still (subst (λ s. IsLeft s room c) same left))),
  λ one. absurd one,
)
finds_each P p q room after (f ∷ rest) (mid, between, finds, run) none c is =
    let later = finds_each P mid q between after rest run none c is in (
      λ left. elim ((finds.others c is).0 left) [ inl same ↦ inl (sym same) | inr more ↦ inr (later.0 more) ],
      λ one. elim one [ inl same ↦ (finds.others c is).1 (inl (sym same)) | inr more ↦ (finds.others c is).1 (inr (later.1 more)) ],
    )

-- what is found later was left before, and is a path
found_left : (P : List ℕ → Type 0) (p q : Place) (room after : List ℕ) (found : List (List ℕ)) (c : List ℕ) → Runs P p room found q after → IsOneOf found c
    → P c × IsLeft p room c
found_left P p q room after [] c run one = absurd one
found_left P p q room after (f ∷ rest) c (mid, between, finds, run) (inl same) = subst (λ d. P d × IsLeft p room d) same (finds.path, finds.left)
found_left P p q room after (f ∷ rest) c (mid, between, finds, run) (inr more) =
    let later = found_left P mid q between after rest c run more in (later.0, (finds.others c later.0).1 (inr later.1))

pub finds_once : (P : List ℕ → Type 0) (p q : Place) (room after : List ℕ) (found : List (List ℕ)) → Runs P p room found q after → AreDistinct found
finds_once P p q room after [] run = tt
finds_once P p q room after (f ∷ rest) (mid, between, finds, run) =
    (λ one. finds.passed (found_left P mid q between after rest f run one).1, finds_once P mid q between after rest run)

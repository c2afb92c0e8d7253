-- A search that goes on after chains that are refused.
use Rattle.std.proofs.Common.{ℕ, List, inl, inr, sym, subst}
use Rattle.path_search.specs.Places.{Finds, IsLeft, LeavesAll}
use Rattle.path_search.specs.declared.place.Place.{Place}
use Rattle.x509_build.specs.Builds.{Builds, Passes}

pub nothing_passed : (P R : List ℕ → Type 0) (p : Place) (room : List ℕ) → Passes P R p room p room
nothing_passed P R p room = record { on = λ c is h. inl h; back = λ c is h. h }

-- a chain that is found is refused
pub passed_refused : (P R : List ℕ → Type 0) (p : Place) (room : List ℕ) (q : Place) (mid : List ℕ) (r : Place) (after found : List ℕ) → Passes P R p room q mid
    → Finds P q mid r after found → R found → Passes P R p room r after
passed_refused P R p room q mid r after found passes finds refused =
    record {
      on = λ c is h. elim (passes.on c is h) [
        | inl left ↦ elim ((finds.others c is).0 left) [ inl same ↦ inr (subst R (sym same) refused) | inr later ↦ inl later ]
        | inr other ↦ inr other
      ];
      back = λ c is h. passes.back c is ((finds.others c is).1 (inr h));
    }

-- it is kept
pub builds_later : (P K R : List ℕ → Type 0) (p : Place) (room : List ℕ) (q : Place) (mid : List ℕ) (r : Place) (after found : List ℕ) → Passes P R p room q mid
    → Finds P q mid r after found → K found → Builds P K R p room r after found
builds_later P K R p room q mid r after found passes finds kept =
    record {
      is = finds.path;
      kept = kept;
      left = passes.back found finds.path finds.left;
      passed = finds.passed;
      on = λ c is h. elim (passes.on c is h) [
        | inl left ↦ elim ((finds.others c is).0 left) [ inl same ↦ inl same | inr later ↦ inr (inl later) ]
        | inr other ↦ inr (inr other)
      ];
      back = λ c is h. passes.back c is ((finds.others c is).1 (inr h));
      shortest = λ c is h. elim (passes.on c is h) [ inl left ↦ inl (finds.shortest c is left) | inr other ↦ inr other ];
    }

-- no chain is found
pub all_refused : (P R : List ℕ → Type 0) (p : Place) (room : List ℕ) (q : Place) (mid : List ℕ) → Passes P R p room q mid → ((c : List ℕ) → P c → IsLeft q mid c → ⊥)
    → (c : List ℕ) → P c → IsLeft p room c → R c
all_refused P R p room q mid passes none c is h = elim (passes.on c is h) [ inl left ↦ absurd (none c is left) | inr other ↦ other ]

-- all steps were used
pub passed_on : (P R : List ℕ → Type 0) (p : Place) (room : List ℕ) (q : Place) (mid : List ℕ) (r : Place) (after : List ℕ) → Passes P R p room q mid
    → LeavesAll P q mid r after → Passes P R p room r after
passed_on P R p room q mid r after passes same =
    record {
      on = λ c is h. elim (passes.on c is h) [ inl left ↦ inl ((same c is).0 left) | inr other ↦ inr other ];
      back = λ c is h. passes.back c is ((same c is).1 h);
    }

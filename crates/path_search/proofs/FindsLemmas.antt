-- A path that is found after other turns.
use Rattle.std.proofs.Common.{ℕ, List}
use Rattle.path_search.specs.Places.{Finds, LeavesAll}
use Rattle.path_search.specs.declared.place.Place.{Place}

pub finds_later : (P : List ℕ → Type 0) (p : Place) (room : List ℕ) (q : Place) (mid : List ℕ) (r : Place) (after found : List ℕ) → LeavesAll P p room q mid
    → Finds P q mid r after found → Finds P p room r after found
finds_later P p room q mid r after found same finds =
    record {
      path = finds.path;
      left = (same found finds.path).1 finds.left;
      passed = finds.passed;
      others = λ chain is. (
        λ h. (finds.others chain is).0 ((same chain is).0 h),
        λ h. (same chain is).1 ((finds.others chain is).1 h),
      );
      shortest = λ chain is h. finds.shortest chain is ((same chain is).0 h);
    }

-- Equality of values as equality of their contents octets.
use Rattle.std.specs.Prelude.{ℕ, Bool, List, bytes_eq}
use Rattle.std.specs.Cmp.{IsEquivalence, IsPartialEquivalence, partial_equiv_from_equiv}
use Rattle.std.specs.Cmp.Lexicographic.{on_texts_equal}

-- whether two values have the same contents
abbrev pub equal_contents : {A : Type 0} → (A → List ℕ) → A → A → Bool
equal_contents contents v w = bytes_eq (contents v) (contents w)

pub equal_contents-equivalence : {A : Type 0} (contents : A → List ℕ)
    → IsEquivalence (equal_contents contents)
equal_contents-equivalence contents = on_texts_equal contents

pub equal_contents-partial : {A : Type 0} (contents : A → List ℕ)
    → IsPartialEquivalence (equal_contents contents)
equal_contents-partial contents = partial_equiv_from_equiv (on_texts_equal contents)

-- Tests of the elements inside of an element, made of other tests (`InsideKeeps`, `EachKeeps`,
-- `GuardKeeps`, `LackKeeps`).
use Rattle.std.specs.Prelude.{◌≡◌, ℕ, List}
use Rattle.der.specs.Prelude.{Tag}
use Rattle.x509_lint.specs.Elements.{EachElement}

-- each element inside of one keeps a test
abbrev pub EachKeeps : (Tag → List ℕ → Type 0) → Tag → List ℕ → Type 0
EachKeeps P t c = EachElement P c

-- each element inside of one with this tag keeps a test
abbrev pub InsideKeeps : (Tag → List ℕ → Type 0) → Tag → Tag → List ℕ → Type 0
InsideKeeps P u t c = t ≡ u → EachElement P c

-- if not all elements inside of one keep a test, all of them keep another
abbrev pub GuardKeeps : (Tag → List ℕ → Type 0) → (Tag → List ℕ → Type 0) → Tag → List ℕ → Type 0
GuardKeeps G P t c = (EachElement G c → ⊥) → EachElement P c

-- if not all elements inside of one keep a test, not all of them keep another
abbrev pub LackKeeps : (Tag → List ℕ → Type 0) → (Tag → List ℕ → Type 0) → Tag → List ℕ → Type 0
LackKeeps G P t c = (EachElement G c → ⊥) → EachElement P c → ⊥

-- Elements one after the other, and what each is written as.
use Rattle.std.specs.Prelude.{◌≡◌, ℕ, List, [], ◌∷◌, ◌++◌, IsPermutation}
use Rattle.std.specs.List.{concat}

-- octets are elements, each of which is written as one of these
pub data AreWritten (Is : List ℕ → List ℕ → Type 0) : List ℕ → List (List ℕ) → Type 0 where
  none : AreWritten Is [] []
  more : {before x w : List ℕ} {ws : List (List ℕ)} → AreWritten Is before ws → Is x w
      → AreWritten Is (before ++ x) (ws ++ w ∷ [])

-- octets are elements, which are written in their order
abbrev pub InTheirOrder : (List ℕ → List ℕ → Type 0) → List ℕ → List ℕ → Type 0
InTheirOrder Is inner v = (ws : List (List ℕ)) × AreWritten Is inner ws × (v ≡ concat ws)

-- octets are elements, which are written in some order
abbrev pub InSomeOrder : (List ℕ → List ℕ → Type 0) → List ℕ → List ℕ → Type 0
InSomeOrder Is inner v =
    (ws : List (List ℕ)) × (us : List (List ℕ)) × AreWritten Is inner ws × IsPermutation ws us × (v ≡ concat us)

-- The body of an indefinite length (X.690 8.1.3.6, 8.1.5) is what follows octet `0x80`: items, and
-- the end-of-contents octets. `Item` and `Body` are its grammar; `Items` and `Open` are incomplete
-- beginnings of one.
use Rattle.std.specs.Prelude.{ℕ, suc, ◌+◌, ◌^◌, ◌<◌, ◌≤◌, Bool, true, List, [], ◌∷◌, ◌++◌, length}
use Rattle.der_base.specs.FixedOctets.{indefinite_octet, end_of_contents}
use Rattle.der_base.specs.Length.{length_octets}
use Rattle.der_base.specs.Tag.{IsIdentifier}
use Rattle.der_base.specs.declared.tag.Tag.{Tag}
use Rattle.der_base.specs.declared.encoding_rules.EncodingRules.TheVariants.{Ber}

-- bodies are nested at most 64 deep: the outermost is at level 1
abbrev pub IsLevel : ℕ → Type 0
IsLevel level = (1 ≤ level) × (level ≤ 64)

mutual
  -- an item at a level, and how many identifiers and end-of-contents it contains: definite-length
  -- contents are any octets, indefinite-length contents are a body one level deeper
  pub data Item : ℕ → ℕ → List ℕ → Type 0 where
    definite : {level : ℕ} {id : List ℕ} {t : Tag} {b : Bool} → IsLevel level
        → IsIdentifier Ber id t b → (contents : List ℕ) → length contents < 2 ^ 32
        → Item level 1 (id ++ (length_octets (length contents) ++ contents))
    indefinite : {level parts : ℕ} {id body : List ℕ} {t : Tag} → IsLevel level
        → IsIdentifier Ber id t true → Body (suc level) parts body
        → Item level (suc parts) (id ++ indefinite_octet ∷ body)

  -- a body at a level: the end-of-contents octets alone, or an item and a body
  pub data Body : ℕ → ℕ → List ℕ → Type 0 where
    ends : {level : ℕ} → IsLevel level → Body level 1 end_of_contents
    more : {level m n : ℕ} {item body : List ℕ} → Item level m item → Body level n body
        → Body level (m + n) (item ++ body)

-- a sequence of items at one level
pub data Items : ℕ → ℕ → List ℕ → Type 0 where
  none : {level : ℕ} → IsLevel level → Items level 0 []
  then_item : {level m n : ℕ} {items item : List ℕ} → Items level m items → Item level n item
      → Items level (m + n) (items ++ item)

-- a beginning of a body, cut between items, in which `level` bodies are open
pub data Open : ℕ → ℕ → List ℕ → Type 0 where
  first : {n : ℕ} {items : List ℕ} → Items 1 n items → Open 1 n items
  deeper : {level m n : ℕ} {p id items : List ℕ} {t : Tag} → Open level m p
      → IsIdentifier Ber id t true → Items (suc level) n items
      → Open (suc level) (m + suc n) (p ++ (id ++ indefinite_octet ∷ items))

-- Elements (X.690 8.1) of definite and of indefinite length: a header, contents, and the
-- end-of-contents octets if the length is indefinite.
use Rattle.std.specs.Prelude.{◌≡◌, ◌≢◌, ◌<◌, ℕ, true, List, [], ◌++◌, length}
use Rattle.der_base.specs.FixedOctets.{end_of_contents}
use Rattle.der_base.specs.declared.encoding_rules.EncodingRules.{EncodingRules}
use Rattle.der_base.specs.declared.encoding_rules.EncodingRules.TheVariants.{Der, Ber}
use Rattle.ber.specs.Der.{HasReservedTag}
use Rattle.ber.specs.Header.{IsHeader, end_header, label_of_header}
use Rattle.ber.specs.declared.header.Header.{Header}
use Rattle.ber.specs.declared.length.Length.{Length}
use Rattle.ber.specs.declared.length.Length.TheVariants.{Definite, Indefinite}

-- what follows contents of this length (8.1.5)
abbrev pub ending : Length → List ℕ
ending (Definite n) = []
ending Indefinite = end_of_contents

-- contents have this length
abbrev pub IsCounted : Length → List ℕ → Type 0
IsCounted (Definite n) inner = length inner ≡ n
IsCounted Indefinite inner = Unit {0}

-- a header that the rules allow: a definite length in the fewest octets under DER (10.1)
abbrev pub IsAllowed : EncodingRules → Header → Type 0
IsAllowed Der h = (h.length ≢ Indefinite) × (h.minimal ≡ true)
IsAllowed Ber h = Unit {0}

-- an element of these contents, whose tag is none that no type has (X.680 8.4, table 1);
-- end-of-contents octets are none
pub record IsEnclosed (rules : EncodingRules) (h : Header) (inner octets : List ℕ) : Type 0 where
  pub front : List ℕ
  pub is : IsHeader h front
  pub counted : IsCounted h.length inner
  pub spelled : octets ≡ front ++ (inner ++ ending h.length)
  pub real : h ≢ end_header
  pub known : HasReservedTag (label_of_header h) → ⊥
  pub allowed : IsAllowed rules h

-- octets begin with no element for which a level is left
abbrev pub BeginWithNone : ℕ → List ℕ → Type 0
BeginWithNone depth octets =
    (rules : EncodingRules) (h : Header) (inner x r : List ℕ) → 0 < depth → octets ≡ x ++ r
    → IsEnclosed rules h inner x → ⊥

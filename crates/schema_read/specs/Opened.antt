-- The contents of an element, at a place.
use Rattle.std.specs.Prelude.{◌≡◌, ℕ, Bool, true, false, List, [], ◌++◌, length, ◌⊎◌}
use Rattle.der_base.specs.FixedOctets.{end_of_contents}
use Rattle.ber.specs.Header.{IsHeader}
use Rattle.ber.specs.declared.header.Header.{Header}
use Rattle.ber.specs.declared.length.Length.{Length}
use Rattle.ber.specs.declared.length.Length.TheVariants.{Definite, Indefinite}
use Rattle.schema_read.specs.declared.opened.Opened.{Opened}

-- they are those of the length that the header has, and the octets beyond them follow; or they have
-- all octets after the header
abbrev pub AreAfter : Length → List ℕ → Opened → Type 0
AreAfter (Definite n) after o =
    (after ≡ o.inside.octets.now ++ o.beyond.now) × (length o.inside.octets.now ≡ n) × (o.marked ≡ false)
AreAfter Indefinite after o = (after ≡ o.inside.octets.now) × (o.marked ≡ true)

pub record IsOpened (h : Header) (octets : List ℕ) (o : Opened) : Type 0 where
  pub front : List ℕ
  pub after : List ℕ
  pub is : IsHeader h front
  pub split : octets ≡ front ++ after
  pub are : AreAfter h.length after o

-- no element begins here: there is none, or the end-of-contents octets that end the contents are next
abbrev pub IsEnded : Bool → List ℕ → Type 0
IsEnded marked octets =
    (octets ≡ []) ⊎ ((marked ≡ true) × ((rest : List ℕ) × (octets ≡ end_of_contents ++ rest)))

-- The contents of an OBJECT IDENTIFIER that are made arc by arc: `Holds` says of which arcs they
-- are, and `Pushes` is the result of one more. `ReadsArc` is that of reading one from a text.
use Rattle.std.specs.Prelude.{◌≡◌, ◌⊎◌, ℕ, ◌+◌, ◌^◌, ◌<◌, ◌≤◌, Bool, true, false, Option, Some, None, List, [], ◌∷◌, ◌++◌, length, take, drop}
use Rattle.der_asn1.specs.Arcs.{oid_octets, subidentifier_octets, subidentifier_value}
use Rattle.der_c_values.specs.Dotted.{decimal_text}
use Rattle.der_c_values.specs.OidFromText.{AreOidArcs, AreTooLarge}
use Rattle.der_c_values.specs.declared.oid_contents.OidContents.{OidContents}
use Rattle.der_c_values.specs.declared.oid_contents.NextArc.{NextArc}
use Rattle.der_c_values.specs.declared.oid_contents.NextArc.TheVariants.{First, Second, Other}
use Rattle.der_c_values.specs.declared.dotted_arc.DottedArc.{DottedArc}

abbrev pub held_octets : OidContents → List ℕ
held_octets c = take c.count c.octets

-- the arcs before the next one
abbrev pub AreBefore : NextArc → List ℕ → Type 0
AreBefore First arcs = arcs ≡ []
AreBefore (Second a) arcs = (a ≤ 2) × (arcs ≡ a ∷ [])
AreBefore Other arcs = AreOidArcs arcs

-- the contents are those of these arcs, or the arcs are too large
pub record Holds (c : OidContents) (arcs : List ℕ) : Type 0 where
  pub before : AreBefore c.next arcs
  pub fit : c.fits ≡ true → held_octets c ≡ oid_octets arcs
  pub large : c.fits ≡ false → AreTooLarge arcs

-- one more subidentifier is there; or it is not, since one before it was not, since it does not fit
-- in 128 bits, or since there are more than 256 octets with it
pub record AppendsNumber (n : ℕ) (old new : OidContents) : Type 0 where
  pub next : new.next ≡ old.next
  pub fit : new.fits ≡ true
      → (old.fits ≡ true) × (held_octets new ≡ held_octets old ++ subidentifier_octets n)
  pub large : new.fits ≡ false → (old.fits ≡ false) ⊎ ((2 ^ 128 ≤ n)
      ⊎ ((old.fits ≡ true) × (256 < length (held_octets old) + length (subidentifier_octets n))))

-- one more arc is there; or no OBJECT IDENTIFIER begins with the arcs and this one
abbrev pub Pushes : List ℕ → ℕ → Bool → OidContents → Type 0
Pushes arcs n true new = Holds new (arcs ++ n ∷ [])
Pushes arcs n false new = (more : List ℕ) → AreOidArcs (arcs ++ n ∷ more) → ⊥

-- at a position of a text there is a number in decimal, without leading zeros, and after it a dot
-- or the end of the text; or there is none
abbrev pub ReadsArc : List ℕ → ℕ → Option DottedArc → Type 0
ReadsArc text at None =
    (n : ℕ) (more : List ℕ) → drop at (text ++ 46 ∷ []) ≡ decimal_text n ++ 46 ∷ more → ⊥
ReadsArc text at (Some arc) =
    (n : ℕ) × (arc.number ≡ subidentifier_value n) × (arc.end ≤ length text)
    × (drop at (text ++ 46 ∷ []) ≡ decimal_text n ++ 46 ∷ drop (arc.end + 1) (text ++ 46 ∷ []))

-- Length octets (X.690 8.1.3): `IsLength`, and whether they are the fewest (`IsMinimal`, 10.1).
-- `LengthNext` states that octets begin with a length.
use Rattle.std.specs.Prelude.{◌≡◌, ℕ, ◌^◌, ◌<◌, ◌≤◌, ◌↔◌, Bool, true, IsTrue, List, [], ◌∷◌, ◌++◌, length}
use Rattle.std.specs.Int.Digits.{number_from_digits, AllBelowBase}
use Rattle.der_base.specs.FixedOctets.{long_form, indefinite_octet}
use Rattle.der_base.specs.Length.{length_octets}
use Rattle.ber.specs.declared.length.Length.{Length}
use Rattle.ber.specs.declared.length.Length.TheVariants.{Definite, Indefinite}
use Rattle.ber.specs.declared.length_octets.LengthOctets.{LengthOctets}

-- the short form (8.1.3.4); the long form, in 1 to 126 octets after the first, of which the first may
-- be zero (8.1.3.5); and the indefinite form (8.1.3.6)
pub data IsLength : Length → List ℕ → Type 0 where
  short : (n : ℕ) → n < 128 → IsLength (Definite n) (n ∷ [])
  long : (ds : List ℕ) → 1 ≤ length ds → length ds ≤ 126 → AllBelowBase 256 ds
      → number_from_digits 256 ds < 2 ^ 32
      → IsLength (Definite (number_from_digits 256 ds)) (long_form (length ds) ∷ ds)
  indefinite : IsLength Indefinite (indefinite_octet ∷ [])

-- a definite length is in the fewest octets (10.1)
abbrev pub IsMinimal : Length → List ℕ → Type 0
IsMinimal (Definite n) size = size ≡ length_octets n
IsMinimal Indefinite size = Unit {0}

-- octets begin with this length; an indefinite one follows a constructed identifier (8.1.3.2 a)
pub record LengthNext (l : LengthOctets) (constructed : Bool) (octets : List ℕ) : Type 0 where
  pub size : List ℕ
  pub rest : List ℕ
  pub sized : IsLength l.length size
  pub form : l.length ≡ Indefinite → constructed ≡ true
  pub minimal : IsTrue l.minimal ↔ IsMinimal l.length size
  pub count : l.count ≡ length size
  pub split : octets ≡ size ++ rest

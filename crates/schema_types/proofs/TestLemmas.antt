-- What a test says of its fact.
use Rattle.std.proofs.Common.{◌≡◌, ◌↔◌, Bool, true, false, IsTrue, List, ℕ, Option, Some, None, is_some, refl, sym, ◌∙◌}
use Rattle.std.specs.Str.{is_utf8, IsUtf8}
use Rattle.std.proofs.lemmas.Str.{IsUtf8-from_is_utf8}

-- a test that fails refutes its fact
pub refuted : {b : Bool} {P : Type 0} → IsTrue b ↔ P → b ≡ false → P → ⊥
refuted is e p = let f : false ≡ true = sym e ∙ is.1 p in cc

-- nothing is there where a test finds nothing
pub nothing : {A : Type 0} {o : Option A} → is_some o ≡ false → o ≡ None
nothing {o = None} e = refl
nothing {o = Some x} e = cc

pub is_utf8_false : (octets : List ℕ) → (IsUtf8 octets → ⊥) → is_utf8 octets ≡ false
is_utf8_false octets isnt = go (is_utf8 octets) refl
  where
    go : (b : Bool) → is_utf8 octets ≡ b → b ≡ false
    go true is = absurd (isnt (IsUtf8-from_is_utf8 octets is))
    go false is = refl

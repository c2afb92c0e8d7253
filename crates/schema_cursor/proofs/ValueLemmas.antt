-- Values that are read from contents of elements.
use Rattle.std.proofs.Common.{◌≡◌, List, ℕ, Option, Some, None, IfSome, sym, subst}
use Rattle.schema_cursor.specs.Values.{AreInside}
use Rattle.schema_cursor.specs.declared.cursor.Cursor.{Cursor}

-- a value of these octets has octets inside
pub some_inside : {A : Type 0} {c : Cursor} {octets : List ℕ} (o : Option A) (of : A → List ℕ) → AreInside c octets → IfSome o (λ v. of v ≡ octets) → IfSome o (λ v. AreInside c (of v))
some_inside None of is e = tt
some_inside {c = c} (Some v) of is e = subst (AreInside c) (sym e) is

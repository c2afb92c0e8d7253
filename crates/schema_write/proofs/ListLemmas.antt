-- Elements that were passed, and what is left.
use Rattle.std.proofs.Common.{◌≡◌, ◌∙◌, ℕ, ◌==◌, true, List, [], ◌∷◌, ◌++◌, length, sym, ap, subst, append_assoc, append-nil}
use Rattle.std.proofs.lemmas.Bool.{eqb-true}
use Rattle.std.proofs.lemmas.List.{nil_from_length}
use Rattle.schema_write.specs.Lists.{AreWritten, more}

-- contents are elements that are written as these, and the rest
abbrev pub Written : (List ℕ → List ℕ → Type 0) → List ℕ → List ℕ → List (List ℕ) → Type 0
Written Is contents rest ws =
    (before : List ℕ) × (contents ≡ before ++ rest) × AreWritten Is before ws

-- one more element was passed
pub written_more : {Is : List ℕ → List ℕ → Type 0} {contents rest : List ℕ} {ws us : List (List ℕ)} (x after w : List ℕ) → Written Is contents rest ws
    → rest ≡ x ++ after → Is x w → us ≡ ws ++ w ∷ [] → Written Is contents after us
written_more {Is} {contents} {rest} {ws} {us} x after w (before, split, are) e is last =
    (before ++ x, split ∙ ap (λ q. before ++ q) e ∙ sym (append_assoc before x after), subst (λ q. AreWritten Is (before ++ x) q) (sym last) (more are is))

-- nothing is left
pub written_all : {Is : List ℕ → List ℕ → Type 0} {contents rest : List ℕ} {ws : List (List ℕ)} → Written Is contents rest ws
    → rest ≡ [] → AreWritten Is contents ws
written_all {Is} {contents} {rest} {ws} (before, split, are) e =
    subst (λ q. AreWritten Is q ws) (sym (split ∙ ap (λ q. before ++ q) e ∙ append-nil before)) are

-- octets that are empty are none
pub none_left : (octets : List ℕ) → (length octets == 0) ≡ true → octets ≡ []
none_left octets e = nil_from_length octets (eqb-true (length octets) 0 e)

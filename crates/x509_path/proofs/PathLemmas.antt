-- Lemmas on the facts of the certificates of a path, with one certificate more, and on its signatures.
use Rattle.std.proofs.Common.{◌≡◌, ◌+◌, ◌<◌, ◌≤◌, ℕ, Bool, true, List, [], ◌∷◌, ◌++◌, All, length, get_or, take, refl, sym, ap, subst, ◌∙◌, append_assoc, arith}
use Rattle.std.proofs.lemmas.List.{take_all, take_more}
use Rattle.std.proofs.lemmas.List.Elements.{All-head, All-tail}
use Rattle.path_rules.specs.declared.facts.Facts.{Facts}
use Rattle.x509_path.specs.CertificateFacts.{AreFacts}
use Rattle.x509_path.specs.Paths.{AreFactsFrom, AreSigned, AreVerdicts, Verify}
use Rattle.x509_path.specs.declared.certificate.PathCertificate.{PathCertificate}
use Rattle.x509_path.specs.declared.inputs.Inputs.{Inputs}

-- the facts of one certificate more
pub facts_on : (i : Inputs) (before xs : List PathCertificate) (fs : List Facts) (c : PathCertificate) (f : Facts) → AreFactsFrom i before xs fs → AreFacts i (before ++ xs) c f
    → AreFactsFrom i before (xs ++ c ∷ []) (fs ++ f ∷ [])
facts_on i before [] [] c f are one = (subst (λ b. AreFacts i b c f) (append_nil before) one, tt)
  where
    append_nil : (l : List PathCertificate) → l ++ [] ≡ l
    append_nil [] = refl
    append_nil (o ∷ l) = ap (λ x. o ∷ x) (append_nil l)
facts_on i before [] (g ∷ gs) c f are one = absurd are
facts_on i before (x ∷ xs) [] c f are one = absurd are
facts_on i before (x ∷ xs) (g ∷ gs) c f are one =
    (are.0, facts_on i (before ++ x ∷ []) xs gs c f are.1 (subst (λ b. AreFacts i b c f) (sym (append_assoc before (x ∷ []) xs)) one))

pub facts_more : (i : Inputs) (path : List PathCertificate) (at : ℕ) (d : PathCertificate) (fs gs : List Facts) (f : Facts) → at < length path → AreFactsFrom i [] (take at path) fs → AreFacts i (take at path) (get_or path at d) f → gs ≡ fs ++ f ∷ []
    → AreFactsFrom i [] (take (at + 1) path) gs
facts_more i path at d fs gs f h are one e =
    subst (λ x. AreFactsFrom i [] x gs) (sym (take_more path at d h)) (subst (AreFactsFrom i [] (take at path ++ get_or path at d ∷ [])) (sym e) (facts_on i [] (take at path) fs (get_or path at d) f are one))

-- the facts of all certificates
pub facts_all : (i : Inputs) (path : List PathCertificate) (at : ℕ) (room : List Facts) → at ≤ length path → length path ≤ at → AreFactsFrom i [] (take at path) (take at room) → AreFactsFrom i [] path (take (length path) room)
facts_all i path at room below above are =
    let same : at ≡ length path = omega (arith, below, above) in
    subst (λ ps. AreFactsFrom i [] ps (take (length path) room)) (take_all (length path) path (omega arith)) (subst (λ n. AreFactsFrom i [] (take n path) (take n room)) same are)

-- verdicts that are all true say that each signature verifies
pub signed_by : (verify : Verify) (i : Inputs) (before path : List PathCertificate) (verdicts : List Bool) → AreVerdicts verify i before path verdicts → All (λ b. b ≡ true) verdicts → AreSigned verify i before path
signed_by verify i before [] bs are all = tt
signed_by verify i before (c ∷ cs) [] are all = absurd are
signed_by verify i before (c ∷ cs) (b ∷ bs) are all =
    (sym are.0 ∙ All-head (λ x. x ≡ true) b bs all, signed_by verify i (before ++ c ∷ []) cs bs are.1 (All-tail (λ x. x ≡ true) b bs all))

-- Lemmas on the obligations of a path, and on the verdicts on them.
use Rattle.std.proofs.Common.{◌≡◌, ◌↔◌, ◌+◌, ◌-◌, ◌<◌, ◌≤◌, ℕ, suc, Bool, true, false, List, [], ◌∷◌, ◌++◌, All, length, get_or, take, drop, refl, sym, ap, subst, ◌∙◌, arith}
use Rattle.std.proofs.lemmas.Grind.{not_there}
use Rattle.std.proofs.lemmas.List.{drop_more, length-take-le, take-append-drop, take_all, take_more}
use Rattle.std.proofs.lemmas.List.Elements.{All-append, All-cons, All-head, All-nil, All-tail}
use Rattle.path_rules.specs.Path.{IsPath}
use Rattle.path_rules.specs.declared.facts.Facts.{Facts}
use Rattle.x509_path.proofs.PathLemmas.{signed_by}
use Rattle.x509_path.specs.Obligations.{IsObligation}
use Rattle.x509_path.specs.Paths.{AreFactsFrom, AreSigned, AreVerdicts, IsLast, IsValidPath, KeepsRules, Verify}
use Rattle.x509_path.specs.SignedPaths.{IsFirstFalse, IsObligationAt, IsUnsigned}
use Rattle.x509_path.specs.declared.certificate.PathCertificate.{PathCertificate}
use Rattle.x509_path.specs.declared.inputs.Inputs.{Inputs}
use Rattle.x509_path.specs.declared.obligation.Obligation.{Obligation}
use Rattle.x509_path.specs.declared.unsigned.Unsigned.{Unsigned}
use Rattle.x509_path.specs.declared.unsigned.Unsigned.TheVariants.{Failed, TooFew, TooMany}

no_path : (i : Inputs) (fs : List Facts) → AreFactsFrom i [] [] fs → IsPath fs → ⊥
no_path i [] are is = is.0 refl
no_path i (f ∷ fs) are is = are

-- a path that keeps the rules has a certificate
pub some_certificate : (i : Inputs) (path : List PathCertificate) → KeepsRules i path → 0 < length path
some_certificate i [] keeps = absurd (not_there keeps (λ p. no_path i p.0 p.1 p.2))
some_certificate i (c ∷ cs) keeps = omega arith

-- the last certificate
pub last_of : (path : List PathCertificate) (d : PathCertificate) → 0 < length path → IsLast (get_or path (length path - 1) d) path
last_of path d some =
    let more = take_more path (length path - 1) d (omega (arith, some)) in
    let whole = take_all (length path - 1 + 1) path (omega arith) in
    (take (length path - 1) path, sym whole ∙ more)

-- the obligation of the certificate at a place
pub obligation_at : (i : Inputs) (path : List PathCertificate) (at : ℕ) (d : PathCertificate) (o : Obligation) → at < length path → IsObligation i (take at path) (get_or path at d) o → IsObligationAt i path at o
obligation_at i path at d o h is =
    record {
      before = take at path;
      certificate = get_or path at d;
      after = drop (at + 1) path;
      split = sym (take-append-drop at path) ∙ ap (λ x. take at path ++ x) (drop_more path at d h);
      at = length-take-le at path (omega (arith, h));
      is = is;
    }

-- the verdict at this place is the first that is false
pub false_at : (verdicts : List Bool) (at : ℕ) (d : Bool) → at < length verdicts → All (λ b. b ≡ true) (take at verdicts) → get_or verdicts at d ≡ false → IsFirstFalse at verdicts
false_at verdicts at d h first is =
    record {
      before = take at verdicts;
      after = drop (at + 1) verdicts;
      split = sym (take-append-drop at verdicts) ∙ ap (λ x. take at verdicts ++ x) (drop_more verdicts at d h) ∙ ap (λ x. take at verdicts ++ x ∷ drop (at + 1) verdicts) is;
      at = length-take-le at verdicts (omega (arith, h));
      first = first;
    }

-- one verdict more is true
pub true_more : (verdicts : List Bool) (at : ℕ) (d : Bool) → at < length verdicts → All (λ b. b ≡ true) (take at verdicts) → get_or verdicts at d ≡ true → All (λ b. b ≡ true) (take (at + 1) verdicts)
true_more verdicts at d h all one =
    subst (All (λ b. b ≡ true)) (sym (take_more verdicts at d h)) (All-append (λ b. b ≡ true) (take at verdicts) (get_or verdicts at d ∷ []) all (All-cons (λ b. b ≡ true) (get_or verdicts at d) [] one (All-nil (λ b. b ≡ true))))

pub all_true : (verdicts : List Bool) (at : ℕ) → length verdicts ≤ at → All (λ b. b ≡ true) (take at verdicts) → All (λ b. b ≡ true) verdicts
all_true verdicts at h all = subst (All (λ b. b ≡ true)) (take_all at verdicts h) all

-- there is a verdict for each signature
one_for_each : (verify : Verify) (i : Inputs) (before path : List PathCertificate) (verdicts : List Bool) → AreVerdicts verify i before path verdicts → length verdicts ≡ length path
one_for_each verify i before [] [] are = refl
one_for_each verify i before [] (b ∷ bs) are = absurd are
one_for_each verify i before (c ∷ cs) [] are = absurd are
one_for_each verify i before (c ∷ cs) (b ∷ bs) are = ap suc (one_for_each verify i (before ++ c ∷ []) cs bs are.1)

-- verdicts are true if each signature verifies
signed_all : (verify : Verify) (i : Inputs) (before path : List PathCertificate) (verdicts : List Bool) → AreVerdicts verify i before path verdicts → AreSigned verify i before path → All (λ b. b ≡ true) verdicts
signed_all verify i before [] [] are signed = All-nil (λ b. b ≡ true)
signed_all verify i before [] (b ∷ bs) are signed = absurd are
signed_all verify i before (c ∷ cs) [] are signed = absurd are
signed_all verify i before (c ∷ cs) (b ∷ bs) are signed =
    All-cons (λ x. x ≡ true) b bs (are.0 ∙ signed.0) (signed_all verify i (before ++ c ∷ []) cs bs are.1 signed.1)

not_all : (before after : List Bool) → All (λ b. b ≡ true) (before ++ false ∷ after) → ⊥
not_all [] after all = let wrong : false ≡ true = All-head (λ b. b ≡ true) false after all in cc
not_all (b ∷ bs) after all = not_all bs after (All-tail (λ x. x ≡ true) b (bs ++ false ∷ after) all)

-- an error refutes that all verdicts on the signatures are true
unsigned_not : (e : Unsigned) (count : ℕ) (verdicts : List Bool) → IsUnsigned e count verdicts → length verdicts ≡ count → All (λ b. b ≡ true) verdicts → ⊥
unsigned_not TooFew count verdicts is same all = absurd (omega (arith, is, same))
unsigned_not TooMany count verdicts is same all = absurd (omega (arith, is, same))
unsigned_not (Failed place) count verdicts is same all = not_all is.1.before is.1.after (subst (All (λ b. b ≡ true)) is.1.split all)

-- verdicts of which one is false, or too few or too many, make no path, and there is none
pub unsigned_exactly : (verify : Verify) (i : Inputs) (path : List PathCertificate) (verdicts : List Bool) (e : Unsigned) → IsUnsigned e (length path) verdicts → AreVerdicts verify i [] path verdicts
    → (false ≡ true) ↔ IsValidPath verify i path
unsigned_exactly verify i path verdicts e is are = (
  λ ok. absurd (let wrong : false ≡ true = ok in cc),
  λ valid. absurd (unsigned_not e (length path) verdicts is (one_for_each verify i [] path verdicts are) (signed_all verify i [] path verdicts are valid.1)),
)

-- verdicts that are all true make a path, and there is one
pub signed_exactly : (verify : Verify) (i : Inputs) (path : List PathCertificate) (verdicts : List Bool) → KeepsRules i path → All (λ b. b ≡ true) verdicts → AreVerdicts verify i [] path verdicts
    → (true ≡ true) ↔ IsValidPath verify i path
signed_exactly verify i path verdicts keeps all are = (λ ok. (keeps, signed_by verify i [] path verdicts are all), λ valid. refl)

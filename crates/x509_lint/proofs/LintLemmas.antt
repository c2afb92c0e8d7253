-- Lemmas on the rules that a certificate breaks.
use Rattle.std.proofs.Common.{◌≡◌, ◌↔◌, ◌-◌, ◌≤◌, Bool, true, false, List, [], ◌∷◌, ◌++◌, Option, Some, None, is_some, not, inl, inr, if◌then◌else◌, All, length, take, drop, get_or, append_assoc, refl, sym, ap, subst, ◌∙◌, arith}
use Rattle.std.proofs.lemmas.List.{take_all}
use Rattle.std.proofs.lemmas.List.Elements.{All-append, All-cons, All-head, All-nil, All-tail}
use Rattle.x509_lint.specs.CertificateChecks.{Keeps}
use Rattle.std.specs.Iterator.{Yields}
use Rattle.x509_lint.proofs.FirstLemmas.{at_middle}
use Rattle.x509_lint.specs.Lint.{AreFindings, FindsPlace, GivesFinding, IsPlaceOf}
use Rattle.x509_lint.specs.declared.finding.Finding.{Finding}
use Rattle.x509_lint.specs.declared.lint.Lint.{Lint}
use Rattle.x509.specs.declared.asn1.certificate.Certificate.{Certificate as TheCertificate}
use Rattle.x509_lint.specs.declared.place.Place.{Place}
use Rattle.x509_lint.specs.declared.place.Place.TheVariants.{Certificate}
use Rattle.x509_lint.specs.declared.rule.Rule.{Rule}

-- the certificate as a whole keeps a rule or breaks it
pub whole_finds : (rule : Rule) (c : TheCertificate) (keeps : Bool) (r : Option Place) → r ≡ (if keeps then None else Some Certificate)
    → (keeps ≡ true) ↔ Keeps rule c → IsPlaceOf rule c Certificate → FindsPlace rule c r
whole_finds rule c true r e h at = subst (FindsPlace rule c) (sym e) (h.0 refl)
whole_finds rule c false r e h at = subst (FindsPlace rule c) (sym e) (λ k. absurd (let no : false ≡ true = h.1 k in cc), at)

-- one more rule is kept
pub pass_on : {A : Type 0} (Q : A → Type 0) (all rules : List A) (d : A) → 1 ≤ length rules → Q (get_or rules 0 d)
    → ((kept : List A) × (all ≡ kept ++ rules) × All Q kept) → (kept : List A) × (all ≡ kept ++ take (length rules - 1) (drop 1 rules)) × All Q kept
pass_on Q all [] d long holds before = absurd (let no : ⊥ = omega (arith, long) in no)
pass_on Q all (r ∷ rules) d long holds before =
    let rest : take (length (r ∷ rules) - 1) (drop 1 (r ∷ rules)) ≡ rules = take_all (length (r ∷ rules) - 1) rules (omega arith) in (
      before.0 ++ r ∷ [],
      before.1 ∙ sym (append_assoc before.0 (r ∷ []) (take (length (r ∷ rules) - 1) (drop 1 (r ∷ rules))) ∙ ap (λ x. before.0 ++ r ∷ x) rest),
      All-append Q before.0 (r ∷ []) before.2 (All-cons Q r [] holds (All-nil Q)),
    )

-- rules that the certificate keeps add no findings
kept_on : (c : TheCertificate) (kept rules : List Rule) (findings : List Finding) → All (λ r. Keeps r c) kept → AreFindings c rules findings → AreFindings c (kept ++ rules) findings
kept_on c [] rules findings h are = are
kept_on c (r ∷ kept) rules findings h are = inl (All-head (λ x. Keeps x c) r kept h, kept_on c kept rules findings (All-tail (λ x. Keeps x c) r kept h) are)

no_findings : (c : TheCertificate) (rules : List Rule) → All (λ r. Keeps r c) rules → AreFindings c rules []
no_findings c [] h = refl
no_findings c (r ∷ rules) h = inl (All-head (λ x. Keeps x c) r rules h, no_findings c rules (All-tail (λ x. Keeps x c) r rules h))

-- what an iterator gives next
abbrev gives : Lint → Option Finding → Lint → Type 0
gives s r t = (t.certificate.now ≡ s.certificate.now) × GivesFinding s.certificate.now s.rules.now r t.rules.now

pub all_given : (findings : List Finding) (s t u : Lint) → Yields gives s findings t → gives t None u → AreFindings s.certificate.now s.rules.now findings
all_given [] s t u y last = subst (λ (x : Lint). AreFindings x.certificate.now x.rules.now []) (sym y) (no_findings t.certificate.now t.rules.now last.1.0)
all_given (f ∷ findings) s t u y last =
    let step = y.1 in
    let found = step.1 in
    let c = s.certificate.now in
    let more : AreFindings c y.0.rules.now findings = subst (λ x. AreFindings x y.0.rules.now findings) step.0 (all_given findings y.0 t u y.2 last) in
    subst (λ rules. AreFindings c rules (f ∷ findings)) (sym found.1)
    (kept_on c found.0 (f.rule ∷ y.0.rules.now) (f ∷ findings) found.2 (inr (f, findings, refl, refl, found.3, more)))

-- a certificate keeps all rules exactly if it breaks none of them
pub keeps_exactly : (c : TheCertificate) (rules : List Rule) (found : Option Finding) (others : List Rule) (b : Bool) → is_some found ≡ not b
    → GivesFinding c rules found others → (b ≡ true) ↔ All (λ r. Keeps r c) rules
keeps_exactly c rules None others true e g = (λ _. g.0, λ _. refl)
keeps_exactly c rules None others false e g = absurd (let no : false ≡ true = e in cc)
keeps_exactly c rules (Some f) others true e g = absurd (let no : true ≡ false = e in cc)
keeps_exactly c rules (Some f) others false e g = (
  λ h. absurd (let no : false ≡ true = h in cc),
  λ all. absurd (g.3.0 (at_middle (λ r. Keeps r c) g.0 f.rule others (subst (All (λ r. Keeps r c)) g.1 all))),
)

-- Lemmas on the judgement on a path.
use Rattle.std.proofs.Common.{◌≡◌, ◌≤◌, ℕ, List, [], ◌∷◌, length, refl, subst}
use Rattle.path_rules.specs.declared.answer.Answer.{Answer}
use Rattle.path_rules.specs.declared.answer.Answer.TheVariants.{Empty}
use Rattle.path_rules.specs.declared.facts.Facts.{Facts}
use Rattle.x509_path.specs.Judgements.{IsFound, IsJudged}
use Rattle.x509_path.specs.Paths.{AreFactsFrom, IsAnswered}
use Rattle.x509_path.specs.declared.certificate.PathCertificate.{PathCertificate}
use Rattle.x509_path.specs.declared.inputs.Inputs.{Inputs}
use Rattle.x509_path.specs.declared.judgement.Judgement.{Judgement}
use Rattle.x509_path.specs.declared.judgement.Judgement.TheVariants as judgement

no_certificate : (i : Inputs) (path : List PathCertificate) (fs : List Facts) → AreFactsFrom i [] path fs → fs ≡ [] → path ≡ []
no_certificate i [] fs are e = refl
no_certificate i (c ∷ cs) [] are e = absurd are
no_certificate i (c ∷ cs) (f ∷ fs) are e = absurd (let wrong : f ∷ fs ≡ [] = e in cc)

-- the answer for a path without certificates
pub empty_path : (i : Inputs) (path : List PathCertificate) (a : Answer) → a ≡ Empty → IsAnswered a i path → path ≡ []
empty_path i path a e answered =
    let is = subst (λ x. IsAnswered x i path) e answered in
    no_certificate i path is.0 is.1 is.2

-- what is found of a path with a room that is large enough
pub judged : (j : Judgement) (i : Inputs) (path : List PathCertificate) (room : ℕ) → length path ≤ room → IsFound j i path → IsJudged j i path room
judged (judgement.IfSigned p) i path room fits is = (fits, is)
judged (judgement.Refused why) i path room fits is = (fits, is)
judged judgement.NoRoom i path room fits is = absurd is

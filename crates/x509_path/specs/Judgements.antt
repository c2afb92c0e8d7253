-- What a judgement says of a path (RFC 5280, 6.1): `IsJudged`.
use Rattle.std.specs.Prelude.{◌≡◌, ◌<◌, ◌≤◌, ℕ, List, [], length}
use Rattle.x509_path.specs.Paths.{BreaksRule}
use Rattle.x509_path.specs.declared.certificate.PathCertificate.{PathCertificate}
use Rattle.x509_path.specs.declared.inputs.Inputs.{Inputs}
use Rattle.x509_path.specs.declared.judgement.Judgement.{Judgement}
use Rattle.x509_path.specs.declared.judgement.Judgement.TheVariants as judgement
use Rattle.x509_path.specs.declared.refusal.Refusal.{Refusal}
use Rattle.x509_path.specs.declared.refusal.Refusal.TheVariants as refusal

-- why a path is refused
abbrev pub IsRefused : Refusal → Inputs → List PathCertificate → Type 0
IsRefused refusal.Empty i path = path ≡ []
IsRefused (refusal.Broken fault) i path = BreaksRule fault i path

-- a path that keeps the rules is this one, with these inputs
abbrev pub IsFound : Judgement → Inputs → List PathCertificate → Type 0
IsFound (judgement.IfSigned p) i path = (p.inputs.now ≡ i) × (p.path.now ≡ path)
IsFound (judgement.Refused why) i path = IsRefused why i path
IsFound judgement.NoRoom i path = ⊥

-- with a room of this length, it is large enough, or not
abbrev pub IsJudged : Judgement → Inputs → List PathCertificate → ℕ → Type 0
IsJudged (judgement.IfSigned p) i path room =
    (length path ≤ room) × IsFound (judgement.IfSigned p) i path
IsJudged (judgement.Refused why) i path room =
    (length path ≤ room) × IsFound (judgement.Refused why) i path
IsJudged judgement.NoRoom i path room = room < length path

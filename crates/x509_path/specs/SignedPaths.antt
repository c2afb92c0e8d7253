-- The obligations of a path that keeps the rules, and the verdicts on them: `IsObligationAt`,
-- `IsSettled`.
use Rattle.std.specs.Prelude.{◌≡◌, ◌<◌, ℕ, Bool, false, true, List, ◌∷◌, ◌++◌, All, Result, Ok, Err, length}
use Rattle.x509_path.specs.Obligations.{IsObligation}
use Rattle.x509_path.specs.declared.certificate.PathCertificate.{PathCertificate}
use Rattle.x509_path.specs.declared.inputs.Inputs.{Inputs}
use Rattle.x509_path.specs.declared.obligation.Obligation.{Obligation}
use Rattle.x509_path.specs.declared.unsigned.Unsigned.{Unsigned}
use Rattle.x509_path.specs.declared.unsigned.Unsigned.TheVariants.{Failed, TooFew, TooMany}
use Rattle.x509_path.specs.declared.valid_path.ValidPath.{ValidPath}

-- the obligation of the certificate at this place of a path
pub record IsObligationAt (i : Inputs) (path : List PathCertificate) (place : ℕ) (o : Obligation)
    : Type 0 where
  pub before : List PathCertificate
  pub certificate : PathCertificate
  pub after : List PathCertificate
  pub split : path ≡ before ++ certificate ∷ after
  pub at : length before ≡ place
  pub is : IsObligation i before certificate o

-- the verdict at this place is false, and those before it are true
pub record IsFirstFalse (place : ℕ) (verdicts : List Bool) : Type 0 where
  pub before : List Bool
  pub after : List Bool
  pub split : verdicts ≡ before ++ false ∷ after
  pub at : length before ≡ place
  pub first : All (λ b. b ≡ true) before

-- what an error says of the verdicts on so many signatures
abbrev pub IsUnsigned : Unsigned → ℕ → List Bool → Type 0
IsUnsigned TooFew count verdicts = length verdicts < count
IsUnsigned TooMany count verdicts = count < length verdicts
IsUnsigned (Failed place) count verdicts =
    (length verdicts ≡ count) × IsFirstFalse place verdicts

-- what verdicts make of a path: this path, if there is one for each signature, and all are true
abbrev pub IsSettled
    : Result ValidPath Unsigned → Inputs → List PathCertificate → List Bool → Type 0
IsSettled (Ok v) i path verdicts =
    (v.inputs.now ≡ i) × (v.path.now ≡ path)
    × (length verdicts ≡ length path) × All (λ b. b ≡ true) verdicts
IsSettled (Err error) i path verdicts = IsUnsigned error (length path) verdicts

-- Valid certification paths (RFC 5280, 6.1), without policies and revocation: `IsValidPath`. The
-- first certificate of a path is the one that the trust anchor issued, the last the one to be
-- validated. `verify key algorithm signed signature` says whether a signature verifies: the caller
-- computes it for each obligation, so what is said holds for every meaning of it.
use Rattle.std.specs.Prelude.{◌≡◌, ℕ, Bool, List, [], ◌∷◌, ◌++◌, IsTrue}
use Rattle.path_rules.specs.Path.{IsAnswer, IsFault, IsPath}
use Rattle.path_rules.specs.declared.answer.Answer.{Answer}
use Rattle.path_rules.specs.declared.facts.Facts.{Facts}
use Rattle.path_rules.specs.declared.fault.Fault.{Fault}
use Rattle.spki.specs.declared.asn1.algorithm_identifier_ref.AlgorithmIdentifierRef.{AlgorithmIdentifierRef}
use Rattle.spki.specs.declared.asn1.subject_public_key_info_ref.SubjectPublicKeyInfoRef.{SubjectPublicKeyInfoRef}
use Rattle.x509_path.specs.CertificateFacts.{AreFacts}
use Rattle.x509_path.specs.Encodings.{signed_octets}
use Rattle.x509_path.specs.Obligations.{issuer_key, signature_by}
use Rattle.x509_path.specs.declared.certificate.PathCertificate.{PathCertificate}
use Rattle.x509_path.specs.declared.inputs.Inputs.{Inputs}

-- the facts of certificates, each after those before it
abbrev pub AreFactsFrom : Inputs → List PathCertificate → List PathCertificate → List Facts → Type 0
AreFactsFrom i before [] [] = Unit {0}
AreFactsFrom i before [] (f ∷ fs) = ⊥
AreFactsFrom i before (c ∷ cs) [] = ⊥
AreFactsFrom i before (c ∷ cs) (f ∷ fs) =
    AreFacts i before c f × AreFactsFrom i (before ++ c ∷ []) cs fs

-- there are facts of the certificates of a path with which it keeps the rules
abbrev pub HasPath : Inputs → List PathCertificate → Type 0
HasPath i path = (facts : List Facts) × AreFactsFrom i [] path facts × IsPath facts

-- a path keeps all rules that are not about signatures
abbrev pub KeepsRules : Inputs → List PathCertificate → Type 0
KeepsRules i path = ∥ HasPath i path ∥₁

-- a certificate of a path breaks a rule
abbrev pub BreaksRule : Fault → Inputs → List PathCertificate → Type 0
BreaksRule fault i path = (facts : List Facts) × AreFactsFrom i [] path facts × IsFault fault facts

abbrev pub Verify : Type 0
Verify = SubjectPublicKeyInfoRef → AlgorithmIdentifierRef → List ℕ → List ℕ → Bool

-- the verdict on the signature of a certificate after those before it (6.1.3 (a) (1))
abbrev pub verdict_on : Verify → Inputs → List PathCertificate → PathCertificate → Bool
verdict_on verify i before c =
    verify (issuer_key i before) c.certificate.signature_algorithm (signed_octets c.certificate)
    (signature_by c.certificate.signature.octets.now)

-- each signature verifies
abbrev pub AreSigned : Verify → Inputs → List PathCertificate → List PathCertificate → Type 0
AreSigned verify i before [] = Unit {0}
AreSigned verify i before (c ∷ cs) =
    IsTrue (verdict_on verify i before c) × AreSigned verify i (before ++ c ∷ []) cs

-- verdicts are those on the signatures
abbrev pub AreVerdicts
    : Verify → Inputs → List PathCertificate → List PathCertificate → List Bool → Type 0
AreVerdicts verify i before [] [] = Unit {0}
AreVerdicts verify i before [] (b ∷ bs) = ⊥
AreVerdicts verify i before (c ∷ cs) [] = ⊥
AreVerdicts verify i before (c ∷ cs) (b ∷ bs) =
    (b ≡ verdict_on verify i before c) × AreVerdicts verify i (before ++ c ∷ []) cs bs

-- a valid path keeps all rules, and its signatures verify
abbrev pub IsValidPath : Verify → Inputs → List PathCertificate → Type 0
IsValidPath verify i path = KeepsRules i path × AreSigned verify i [] path

-- what an answer of the rules says of the certificates: their facts have this answer
abbrev pub IsAnswered : Answer → Inputs → List PathCertificate → Type 0
IsAnswered answer i path =
    (facts : List Facts) × AreFactsFrom i [] path facts × IsAnswer answer facts

-- the certificate to be validated
abbrev pub IsLast : PathCertificate → List PathCertificate → Type 0
IsLast c path = (before : List PathCertificate) × (path ≡ before ++ c ∷ [])

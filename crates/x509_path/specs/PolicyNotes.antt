-- What is noted of the policies of the certificates of a path, whose lists are in rooms of the
-- caller.
use Rattle.std.specs.Prelude.{◌≡◌, ◌↔◌, ◌⊎◌, ◌<◌, ◌≤◌, ◌+◌, ℕ, List, [], ◌∷◌, ◌++◌, IsTrue, length, slice_range, take}
use Rattle.std.specs.Borrow.{Bor}
use Rattle.path_rules.specs.declared.mapping.Mapping.{Mapping}
use Rattle.path_rules.specs.PolicyRules.{IsPolicyAnswer}
use Rattle.path_rules.specs.declared.policy_answer.PolicyAnswer.{PolicyAnswer}
use Rattle.path_rules.specs.declared.policy_facts.PolicyFacts.{PolicyFacts}
use Rattle.path_rules.specs.declared.policy_inputs.PolicyInputs.{PolicyInputs}
use Rattle.x509.specs.declared.asn1.tbs_certificate.TbsCertificate.{TbsCertificate}
use Rattle.x509_path.specs.CertificateFacts.{IsSelfIssued, part}
use Rattle.x509_path.specs.PolicyFactsOf.{ArePolicyFacts, HasAnySkip, HasMappings, HasPolicies, HasSkips}
use Rattle.x509_path.specs.PolicyRooms.{Grows}
use Rattle.x509_path.specs.declared.certificate.PathCertificate.{PathCertificate}
use Rattle.x509_path.specs.declared.policy_note.Noted.{Noted}
use Rattle.x509_path.specs.declared.policy_note.Noted.TheVariants.{NoRoom, Read, Unreadable}
use Rattle.x509_path.specs.declared.policy_note.PolicyNote.{PolicyNote}
use Rattle.x509_path.specs.declared.reading.PolicyReading.{PolicyReading}
use Rattle.x509_path.specs.declared.reading.PolicyReading.TheVariants as reading

abbrev pub Policies : Type 0
Policies = List (Bor (List ℕ))

-- the numbers of a note are those of a certificate
pub record HasNumbers (c : TbsCertificate) (n : PolicyNote) : Type 0 where
  pub skips : HasSkips n.require_explicit n.inhibit_mapping c
  pub any : HasAnySkip n.inhibit_any c
  pub self_issued : IsTrue n.is_self_issued ↔ IsSelfIssued c

-- a note of a certificate, whose lists were put into the rooms after these places
pub record IsNoteAfter (old new : Policies) (older newer : List Mapping) (p m : ℕ)
    (c : TbsCertificate) (n : PolicyNote) : Type 0 where
  pub first_policy : n.policies_from ≡ p
  pub first_mapping : n.mappings_from ≡ m
  pub policies : (xs : Policies) × Grows old new p n.policies_to xs × HasPolicies xs c
  pub mappings : (xs : List Mapping) × Grows older newer m n.mappings_to xs × HasMappings xs c
  pub numbers : HasNumbers c n

-- a note, or too little room for what the certificate says of policies, or it does not say this
abbrev pub IsNoted : Policies → Policies → List Mapping → List Mapping → ℕ → ℕ → TbsCertificate
    → Noted → Type 0
IsNoted old new older newer p m c (Read n) = IsNoteAfter old new older newer p m c n
IsNoted old new older newer p m c NoRoom =
    (f : PolicyFacts) → ArePolicyFacts c f
    → (length old < p + length f.policies.now) ⊎ (length older < m + length f.mappings.now)
IsNoted old new older newer p m c Unreadable = (f : PolicyFacts) → ArePolicyFacts c f → ⊥

-- items are the part of a room from one place to another
pub record IsPart {X : Type 0} (room : List X) (from to : ℕ) (xs : List X) : Type 0 where
  pub front : List X
  pub after : List X
  pub split : room ≡ front ++ (xs ++ after)
  pub start : from ≡ length front
  pub end : to ≡ from + length xs

-- a note of a certificate, whose lists are parts of these rooms
pub record IsNote (policies : Policies) (mappings : List Mapping) (c : TbsCertificate)
    (n : PolicyNote) : Type 0 where
  pub policies_there :
      (xs : Policies) × IsPart policies n.policies_from n.policies_to xs × HasPolicies xs c
  pub mappings_there :
      (xs : List Mapping) × IsPart mappings n.mappings_from n.mappings_to xs × HasMappings xs c
  pub numbers : HasNumbers c n

-- a note of each certificate
abbrev pub AreNotes : Policies → List Mapping → List PathCertificate → List PolicyNote → Type 0
AreNotes policies mappings [] [] = Unit {0}
AreNotes policies mappings [] (n ∷ ns) = ⊥
AreNotes policies mappings (c ∷ cs) [] = ⊥
AreNotes policies mappings (c ∷ cs) (n ∷ ns) =
    IsNote policies mappings (part c) n × AreNotes policies mappings cs ns

-- what each certificate of a path says of policies
abbrev pub AreAllPolicyFacts : List PathCertificate → List PolicyFacts → Type 0
AreAllPolicyFacts [] [] = Unit {0}
AreAllPolicyFacts [] (f ∷ fs) = ⊥
AreAllPolicyFacts (c ∷ cs) [] = ⊥
AreAllPolicyFacts (c ∷ cs) (f ∷ fs) = ArePolicyFacts (part c) f × AreAllPolicyFacts cs fs

-- how many policies and how many mappings a path has
abbrev pub policies_count : List PolicyFacts → ℕ
policies_count [] = 0
policies_count (f ∷ fs) = length f.policies.now + policies_count fs

abbrev pub mappings_count : List PolicyFacts → ℕ
mappings_count [] = 0
mappings_count (f ∷ fs) = length f.mappings.now + mappings_count fs

-- the certificate at a place of a path says nothing of policies that can be read
pub record IsUnreadableAt (path : List PathCertificate) (at : ℕ) : Type 0 where
  pub before : List PathCertificate
  pub certificate : PathCertificate
  pub after : List PathCertificate
  pub split : path ≡ before ++ certificate ∷ after
  pub place : length before ≡ at
  pub none : (f : PolicyFacts) → ArePolicyFacts (part certificate) f → ⊥

-- there is a note of each certificate, or too little room, or a certificate that cannot be read
abbrev pub IsRead
    : Policies → List Mapping → List PolicyNote → List PathCertificate → PolicyReading → Type 0
IsRead policies mappings notes path reading.Read =
    (length path ≤ length notes) × AreNotes policies mappings path (take (length path) notes)
IsRead policies mappings notes path reading.NoRoom =
    (facts : List PolicyFacts) → AreAllPolicyFacts path facts
    → (length policies < policies_count facts)
    ⊎ ((length mappings < mappings_count facts) ⊎ (length notes < length path))
IsRead policies mappings notes path (reading.Unreadable at) = IsUnreadableAt path at

-- facts are what a note says, with its parts of these rooms
pub record AreFactsFromNote (policies : Policies) (mappings : List Mapping) (n : PolicyNote)
    (f : PolicyFacts) : Type 0 where
  pub own_policies : f.policies.now ≡ slice_range policies n.policies_from n.policies_to
  pub own_mappings : f.mappings.now ≡ slice_range mappings n.mappings_from n.mappings_to
  pub explicit : f.require_explicit ≡ n.require_explicit
  pub inhibit : f.inhibit_mapping ≡ n.inhibit_mapping
  pub any : f.inhibit_any ≡ n.inhibit_any
  pub self_issued : f.is_self_issued ≡ n.is_self_issued

-- what an answer says of the certificates of a path: what they say of policies has this answer
abbrev pub IsJudged : PolicyAnswer → PolicyInputs → List PathCertificate → ℕ → Type 0
IsJudged answer inputs path room =
    (facts : List PolicyFacts) × AreAllPolicyFacts path facts
    × IsPolicyAnswer answer inputs facts room

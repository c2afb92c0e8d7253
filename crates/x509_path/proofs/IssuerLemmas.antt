-- Lemmas on the last certificate before another.
use Rattle.std.proofs.Common.{◌≡◌, ◌≢◌, ◌-◌, ◌==◌, ℕ, true, false, List, [], ◌∷◌, length, get_or, drop, refl, sym, ap, ◌∙◌, arith}
use Rattle.x509_path.specs.CertificateFacts.{issuer_name, part}
use Rattle.std.proofs.lemmas.Bool.{cond-false, cond-true, not-false, not-true}
use Rattle.x509_path.specs.Obligations.{has_unused_bits, issuer_key, signature_by}
use Rattle.x509_path.specs.declared.certificate.PathCertificate.{PathCertificate}
use Rattle.x509_path.specs.declared.inputs.Inputs.{Inputs}

-- the last of some certificates
abbrev last : PathCertificate → List PathCertificate → PathCertificate
last c [] = c
last c (d ∷ ds) = last d ds

last_at : (c : PathCertificate) (cs : List PathCertificate) (e : PathCertificate) → get_or (c ∷ cs) (length cs) e ≡ last c cs
last_at c [] e = refl
last_at c (d ∷ ds) e = last_at d ds e

name_of_last : (i : Inputs) (c : PathCertificate) (cs : List PathCertificate) → issuer_name i (c ∷ cs) ≡ (part (last c cs)).subject
name_of_last i c [] = refl
name_of_last i c (d ∷ ds) = name_of_last i d ds

key_of_last : (i : Inputs) (c : PathCertificate) (cs : List PathCertificate) → issuer_key i (c ∷ cs) ≡ (part (last c cs)).subject_public_key_info
key_of_last i c [] = refl
key_of_last i c (d ∷ ds) = key_of_last i d ds

pub name_at_end : (i : Inputs) (cs : List PathCertificate) (e : PathCertificate) → length cs ≢ 0 → (part (get_or cs (length cs - 1) e)).subject ≡ issuer_name i cs
name_at_end i [] e h = absurd (h refl)
name_at_end i (c ∷ cs) e h =
    let at : length (c ∷ cs) - 1 ≡ length cs = omega arith in
    ap (λ k. (part (get_or (c ∷ cs) k e)).subject) at ∙ ap (λ x. (part x).subject) (last_at c cs e) ∙ sym (name_of_last i c cs)

pub key_at_end : (i : Inputs) (cs : List PathCertificate) (e : PathCertificate) → length cs ≢ 0 → (part (get_or cs (length cs - 1) e)).subject_public_key_info ≡ issuer_key i cs
key_at_end i [] e h = absurd (h refl)
key_at_end i (c ∷ cs) e h =
    let at : length (c ∷ cs) - 1 ≡ length cs = omega arith in
    ap (λ k. (part (get_or (c ∷ cs) k e)).subject_public_key_info) at ∙ ap (λ x. (part x).subject_public_key_info) (last_at c cs e) ∙ sym (key_of_last i c cs)

-- the octets of a signature, by whether it has unused bits
pub unused_none : (octets : List ℕ) → has_unused_bits octets ≡ true → signature_by octets ≡ []
unused_none [] h = refl
unused_none (o ∷ os) h = cond-false (o == 0) os [] (not-true (o == 0) h)

pub used_rest : (octets : List ℕ) → has_unused_bits octets ≡ false → signature_by octets ≡ drop 1 octets
used_rest [] h = absurd (let wrong : true ≡ false = h in cc)
used_rest (o ∷ os) h = cond-true (o == 0) os [] (not-false (o == 0) h)

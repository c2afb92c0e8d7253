-- Lemmas on the extensions of a certificate: extensions with the same encoding are understood both, or
-- neither is; and an item that fails, among all.
use Rattle.std.proofs.Common.{◌≡◌, ◌↔◌, ℕ, Bool, false, true, List, [], ◌∷◌, ◌++◌, All, inl, inr, subst}
use Rattle.std.proofs.lemmas.List.Elements.{All-head, All-tail}
use Rattle.der_asn1.specs.Forms.{is_false}
use Rattle.x509.proofs.EncodingLemmas.{extension_same}
use Rattle.x509.specs.CertificateLists.{IsExtension, extension_encoding}
use Rattle.x509.specs.Firsts.{FailsFirstAt}
use Rattle.x509.specs.declared.asn1.extension.Extension.{Extension}
use Rattle.x509_path.specs.Extensions.{IsFormed, IsInterpreted, IsPolicyLimit, IsProcessed, IsUnderstoodAs, IsUnderstoodBy}

-- an item among others has the property that all have
at_middle : {A : Type 0} (P : A → Type 0) (before : List A) (item : A) (after : List A) → All P (before ++ item ∷ after) → P item
at_middle P [] item after h = All-head P item after h
at_middle P (x ∷ before) item after h = at_middle P before item after (All-tail P x (before ++ item ∷ after) h)

-- an item fails, so not all have the property
pub not_all : {A : Type 0} (P : A → Type 0) (items : List A) (place : ℕ) → FailsFirstAt P items place → All P items → ⊥
not_all P items place f h = f.stops (at_middle P f.before f.item f.after (subst (All P) f.split h))

pub understood_keep : (judges : Bool) (v w : Extension) → IsExtension v → IsExtension w → extension_encoding v ≡ extension_encoding w → IsUnderstoodBy judges v → IsUnderstoodBy judges w
understood_keep judges v w is are e h =
    let same = extension_same v w e in
    subst (λ i. IsUnderstoodAs judges i (is_false w.critical.0.octets.now) w.extn_value.octets.now) same.0
    (subst (λ b. IsUnderstoodAs judges v.extn_id.octets.now b w.extn_value.octets.now) same.1.0
    (subst (λ o. IsUnderstoodAs judges v.extn_id.octets.now (is_false v.critical.0.octets.now) o) same.1.1 h))

-- a value that is well-formed, by octets that are the same
pub formed_read : (i id v value : List ℕ) → i ≡ id → v ≡ value → IsFormed i v → IsFormed id value
formed_read i id v value same are h = subst (λ x. IsFormed x value) same (subst (IsFormed i) are h)

-- two facts, of which the first is known, or is false
pub both_true : (said first second : Type 0) → first → (said ↔ second) → (said ↔ (first × second))
both_true said first second h e = (λ s. (h, e.0 s), λ b. e.1 b.1)

pub not_both : (b : Bool) (first second : Type 0) → b ≡ false → (first → b ≡ true) → ((b ≡ true) ↔ (first × second))
not_both b first second e h = (λ t. absurd (let f = e in let g = t in cc), λ p. h p.0)

-- an extension that is processed is understood if it is well-formed and interpreted
pub if_processed : (judges : Bool) (i id : List ℕ) (plain : Bool) (v : List ℕ) (said : Type 0) → i ≡ id → IsProcessed judges i → (said ↔ (IsFormed id v × IsInterpreted id plain v)) → (said ↔ IsUnderstoodAs judges id plain v)
if_processed judges i id plain v said same is formed = (λ y. inl (subst (IsProcessed judges) same is, formed.0 y), λ u. formed.1 (formed_of u))
  where
    formed_of : IsUnderstoodAs judges id plain v → IsFormed id v × IsInterpreted id plain v
    formed_of (inl h) = h.1
    formed_of (inr h) = absurd (h.0 (subst (IsProcessed judges) same is))

-- one that is not is understood if it is not critical, and limits no policies
pub if_unprocessed : (judges : Bool) (i id : List ℕ) (plain : Bool) (value : List ℕ) (said : Type 0) → i ≡ id → (IsProcessed judges i → ⊥) → (said ↔ ((plain ≡ false → ⊥) × (IsPolicyLimit i → ⊥))) → (said ↔ IsUnderstoodAs judges id plain value)
if_unprocessed judges i id plain value said same other harmless =
    subst (λ x. said ↔ IsUnderstoodAs judges x plain value) same (λ y. inr (other, harmless.0 y), λ u. harmless.1 (harmless_of u))
  where
    harmless_of : IsUnderstoodAs judges i plain value → (plain ≡ false → ⊥) × (IsPolicyLimit i → ⊥)
    harmless_of (inl h) = absurd (other h.0)
    harmless_of (inr h) = h.1

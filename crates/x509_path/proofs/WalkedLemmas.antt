-- Lemmas on walks over the items of a list that came to the end.
use Rattle.std.proofs.Common.{◌≡◌, ◌↔◌, ℕ, Bool, true, List, map, Option, None, refl, sym, ap, subst, ◌∙◌}
use Rattle.std.specs.Iterator.{Yields}
use Rattle.der.specs.Prelude.{ObjectIdentifier, ReaderState, element_octets, rest_of}
use Rattle.der_asn1.specs.Forms.{oid_form}
use Rattle.der_asn1.specs.Items.{GivesItem}
use Rattle.der_asn1.specs.SequenceOf.{IsListOf}
use Rattle.x509.proofs.FindLemmas.{gives, octets_drained}
use Rattle.x509_names.specs.Lists.{SomeItem}
use Rattle.x509_path.proofs.SameLemmas.{list_read, some_read}
use Rattle.x509_path.specs.Purpose.{HasPurpose, IsPurpose}

-- a walk over purposes
pub purpose_walked : {S A : Type 0} (vs : List A) (start s t u : S) (state : S → ReaderState) (octets_of : A → List ℕ) (octets asked : List ℕ) (any has : Bool) → start ≡ s
    → rest_of (state s) ≡ octets
    → Yields (gives state (λ v. oid_form (octets_of v) ≡ true) (λ v. element_octets ObjectIdentifier (octets_of v))) start vs t
    → GivesItem (λ v. oid_form (octets_of v) ≡ true) (λ v. element_octets ObjectIdentifier (octets_of v)) (state t) None (state u)
    → (has ≡ true) ↔ SomeItem (λ v. IsPurpose asked any (octets_of v)) vs → HasPurpose asked any octets has
purpose_walked vs start s t u state octets_of octets asked any has same whole yields end is =
    record {
      purposes = list_read (λ v. oid_form (octets_of v) ≡ true) (λ v. element_octets ObjectIdentifier (octets_of v)) (λ p. oid_form p ≡ true) (element_octets ObjectIdentifier) octets_of (λ v h. h) (λ v. refl) octets
          (octets_drained state (λ v. oid_form (octets_of v) ≡ true) (λ v. element_octets ObjectIdentifier (octets_of v)) octets start vs t u (ap (λ i. rest_of (state i)) same ∙ whole) yields end);
      is = (λ e. (some_read octets_of (IsPurpose asked any) vs).0 (is.0 e), λ h. is.1 ((some_read octets_of (IsPurpose asked any) vs).1 h));
    }

-- Lemmas on the purposes of keys.
use Rattle.std.proofs.Common.{◌≡◌, ◌<◌, ◌^◌, ◌↔◌, ℕ, Bool, true, false, List, [], ◌∷◌, ◌++◌, length, map, IfNone, IfSome, Option, Some, None, Result, Ok, Err, refl, sym, ap, subst, ◌∙◌, arith}
use Rattle.der.specs.Prelude.{Error, ObjectIdentifier, Sequence, element_octets}
use Rattle.der_asn1.specs.Forms.{oid_form}
use Rattle.der_asn1.specs.SequenceOf.{AllValid, IsListOf, joined_encodings}
use Rattle.x509.proofs.EncodingLemmas.{element_same, elements_apart}
use Rattle.x509.specs.CertificateLists.{IsExtension, extension_encoding}
use Rattle.x509.specs.ExtensionIdentifiers.{id_ce}
use Rattle.x509.specs.Find.{FindsExtension}
use Rattle.x509.specs.declared.asn1.tbs_certificate.TbsCertificate.{TbsCertificate}
use Rattle.x509.specs.declared.find.error.FindError.{FindError}
use Rattle.x509.specs.declared.find.known.Known.{Known}
use Rattle.x509_names.specs.Lists.{SomeItem}
use Rattle.x509_path.proofs.CertificateLemmas.{has_none, has_some, not_err, not_some}
use Rattle.x509_path.proofs.SameLemmas.{same_mapped}
use Rattle.x509_path.specs.Purpose.{AllowsPurpose, ArePurposes, HasPurpose, IsPurpose, PermitsPurpose}

map_same : {A : Type 0} (xs : List A) → map (λ x. x) xs ≡ xs
map_same [] = refl
map_same (x ∷ xs) = ap (λ l. x ∷ l) (map_same xs)

-- octets are one list of purposes
one_purposes : (octets : List ℕ) (l m : ArePurposes octets) → l.items ≡ m.items
one_purposes octets l m =
    sym (map_same l.items)
    ∙ same_mapped (λ p. oid_form p ≡ true) (element_octets ObjectIdentifier) (elements_apart (λ p. oid_form p ≡ true) ObjectIdentifier (λ p. p)) (λ p. p) (λ p q e. (element_same ObjectIdentifier ObjectIdentifier p q e).1) octets l m
    ∙ map_same m.items

-- a list permits a purpose exactly if it has it
permits_exactly : (asked : List ℕ) (any : Bool) (v c : List ℕ) (has : Bool) → HasPurpose asked any c has → v ≡ element_octets Sequence c → (has ≡ true) ↔ PermitsPurpose asked any (Some v)
permits_exactly asked any v c has h e = (
  λ t. (c, e, (h.purposes, h.is.0 t)),
  λ p. (let same : p.0 ≡ c = (element_same Sequence Sequence p.0 c (sym p.1 ∙ e)).1 in
      let l = subst (λ x. ((l : ArePurposes x) × SomeItem (IsPurpose asked any) l.items)) same p.2 in
      h.is.1 (subst (SomeItem (IsPurpose asked any)) (one_purposes c l.0 h.purposes) l.1)),
)

pub false_not_true : false ≡ true → ⊥
false_not_true e = cc

-- items of a type of Rust, which are made of the octets of purposes
module _ {A : Type 0} (valid : A → Type 0) (encoding : A → List ℕ) (make : (p : List ℕ) → oid_form p ≡ true → A)
    (is : (p : List ℕ) (h : oid_form p ≡ true) → valid (make p h)) (writes : (p : List ℕ) (h : oid_form p ≡ true) → encoding (make p h) ≡ element_octets ObjectIdentifier p) where
  pub made : (ps : List (List ℕ)) → AllValid (λ p. oid_form p ≡ true) ps → List A
  made [] h = []
  made (p ∷ ps) h = make p h.0 ∷ made ps h.1

  pub made_valid : (ps : List (List ℕ)) (h : AllValid (λ p. oid_form p ≡ true) ps) → AllValid valid (made ps h)
  unfolding made
  made_valid [] h = tt
  made_valid (p ∷ ps) h = (is p h.0, made_valid ps h.1)

  pub made_joined : (ps : List (List ℕ)) (h : AllValid (λ p. oid_form p ≡ true) ps) → joined_encodings (element_octets ObjectIdentifier) ps ≡ joined_encodings encoding (made ps h)
  unfolding made
  made_joined [] h = refl
  made_joined (p ∷ ps) h = ap (λ x. x ++ joined_encodings (element_octets ObjectIdentifier) ps) (sym (writes p h.0)) ∙ ap (λ x. encoding (make p h.0) ++ x) (made_joined ps h.1)

  abbrev pub list_made : (octets : List ℕ) → ArePurposes octets → IsListOf valid encoding octets
  list_made octets l = record { items = made l.items l.are_valid; are_valid = made_valid l.items l.are_valid; joined = l.joined ∙ made_joined l.items l.are_valid }

-- a certificate allows a purpose, from what a search in its extensions found
module _ {V : Type 0} (reads : List ℕ → Result V Error → Type 0) (c : TbsCertificate) (result : Result (Option (Known V)) FindError)
    (absent : IfNone c.extensions.0 (result ≡ Ok None))
    (found : IfSome c.extensions.0 (λ e. FindsExtension IsExtension extension_encoding reads (id_ce 37) e.0.items.octets.now result)) (asked : List ℕ) (any : Bool) where
  pub allows_none : result ≡ Ok None → (true ≡ true) ↔ AllowsPurpose asked any c
  allows_none is = (λ _. has_none reads (id_ce 37) (PermitsPurpose asked any) c result absent found is tt, λ _. refl)

  pub allows_some : (k : Known V) (octets : List ℕ) (has : Bool) → result ≡ Ok (Some k) → ((v : List ℕ) → reads v (Ok k.value) → v ≡ element_octets Sequence octets)
      → HasPurpose asked any octets has → (has ≡ true) ↔ AllowsPurpose asked any c
  allows_some k octets true is ok h = (
    λ t. has_some reads (id_ce 37) (PermitsPurpose asked any) c result absent found k is (λ v r. (permits_exactly asked any v octets true h (ok v r)).0 t),
    λ _. refl,
  )
  allows_some k octets false is ok h = (
    λ t. absurd (false_not_true t),
    λ p. absurd (not_some reads (id_ce 37) (PermitsPurpose asked any) c result absent found k is (λ v r q. false_not_true ((permits_exactly asked any v octets false h (ok v r)).1 q)) p),
  )

  pub allows_err : (error : FindError) → result ≡ Err error
      → ((v : List ℕ) (inner : Error) → length v < 2 ^ 32 → reads v (Err inner) → (octets : List ℕ) → v ≡ element_octets Sequence octets → ArePurposes octets → ⊥)
      → (false ≡ true) ↔ AllowsPurpose asked any c
  allows_err error is never = (
    λ t. absurd (false_not_true t),
    λ p. absurd (not_err reads (id_ce 37) (PermitsPurpose asked any) c result absent found error is (λ v inner short r q. never v inner short r q.0 q.1 q.2.0) p),
  )

-- Lemmas on the lists of a certificate that are put into rooms of the caller.
use Rattle.std.proofs.Common.{◌≡◌, ◌≤◌, ◌<◌, ◌^◌, ℕ, List, [], ◌++◌, length, map, IfNone, IfSome, Option, Some, None, Result, Ok, Err, refl, sym, ap, subst, ◌∙◌, arith}
use Rattle.std.proofs.lemmas.List.{length-map}
use Rattle.der.specs.Prelude.{Error, ObjectIdentifier, Sequence, element_octets}
use Rattle.der_asn1.specs.SequenceOf.{IsListOf}
use Rattle.der.proofs.DelimitedLemmas.{element_front}
use Rattle.x509.proofs.EncodingLemmas.{element_same, elements_apart}
use Rattle.x509.proofs.ItemLemmas.{AreApartItems}
use Rattle.x509.specs.CertificateLists.{IsExtension, extension_encoding}
use Rattle.x509.specs.Find.{FindsExtension}
use Rattle.x509.specs.contracts.asn1.policy_mapping.PolicyMappingItem.TheImpl as mapping
use Rattle.x509.specs.declared.asn1.policy_mapping.PolicyMapping.{PolicyMapping}
use Rattle.x509.specs.declared.asn1.tbs_certificate.TbsCertificate.{TbsCertificate}
use Rattle.x509.specs.declared.find.error.FindError.{FindError}
use Rattle.x509.specs.declared.find.known.Known.{Known}
use Rattle.x509_path.proofs.CertificateLemmas.{has_none, has_some, is_some, not_err}
use Rattle.x509_path.proofs.SameLemmas.{same_mapped}
use Rattle.x509_path.specs.ExtensionValue.{ExtensionHas}
use Rattle.x509_path.specs.PolicyFactsOf.{SaysItems, pair, pair_of}
use Rattle.x509_path.proofs.PolicyRoomLemmas.{grows_none}
use Rattle.x509_path.specs.PolicyRooms.{Fills, Puts, filled}
use Rattle.x509_path.specs.declared.filled.Filled.TheVariants.{NoRoom, To, Unreadable}

-- what a search in the extensions of a certificate found
module _ {A X Y : Type 0} (valid : A → Type 0) (encoding : A → List ℕ) (apart : AreApartItems valid encoding) (item : A → Y)
    (keep : (v w : A) → encoding v ≡ encoding w → item v ≡ item w) (says : X → Y)
    {V : Type 0} (reads : List ℕ → Result V Error → Type 0) (id : List ℕ) (c : TbsCertificate) (result : Result (Option (Known V)) FindError)
    (absent : IfNone c.extensions.0 (result ≡ Ok None))
    (found : IfSome c.extensions.0 (λ e. FindsExtension IsExtension extension_encoding reads id e.0.items.octets.now result)) where
  abbrev pub Has : List X → Type 0
  Has xs = ExtensionHas id (SaysItems valid encoding item says xs) c

  pub fills_none : result ≡ Ok None → (room : List X) (start : ℕ) → start ≤ length room → Fills Has room room start (To start)
  fills_none is room start h = ([], grows_none room start h, has_none reads id (SaysItems valid encoding item says []) c result absent found is refl)

  pub fills_to : (k : Known V) (octets : List ℕ) → result ≡ Ok (Some k) → ((v : List ℕ) → reads v (Ok k.value) → v ≡ element_octets Sequence octets) → (l : IsListOf valid encoding octets)
      → (old new : List X) (from to : ℕ) → Puts says old new from (Some to) (map item l.items) → Fills Has old new from (To to)
  fills_to k octets is ok l old new from to h =
      (h.0, h.1, has_some reads id (SaysItems valid encoding item says h.0) c result absent found k is (λ v r. (octets, ok v r, (l, h.2))))

  pub fills_full : (k : Known V) (octets : List ℕ) → result ≡ Ok (Some k) → ((v : List ℕ) → reads v (Ok k.value) → v ≡ element_octets Sequence octets) → (l : IsListOf valid encoding octets)
      → (old new : List X) (from : ℕ) → Puts says old new from None (map item l.items) → Fills Has old new from NoRoom
  fills_full k octets is ok l old new from h xs has =
      let p = is_some reads id (SaysItems valid encoding item says xs) c result absent found k is has in
      let same : p.2.0 ≡ octets = (element_same Sequence Sequence p.2.0 octets (sym p.2.1 ∙ ok p.0 p.1)).1 in
      let m = subst (λ x. ((m : IsListOf valid encoding x) × (map says xs ≡ map item m.items))) same p.2.2 in
      let lists : map item m.0.items ≡ map item l.items = same_mapped valid encoding apart item keep octets m.0 l in
      let count : length xs ≡ length (map item l.items) = sym (length-map xs says) ∙ ap length (m.1 ∙ lists) in
      omega (arith, h, count)

  pub fills_read : (k : Known V) (octets : List ℕ) → result ≡ Ok (Some k) → ((v : List ℕ) → reads v (Ok k.value) → v ≡ element_octets Sequence octets) → (l : IsListOf valid encoding octets)
      → (old new : List X) (from : ℕ) (r : Option ℕ) → Puts says old new from r (map item l.items) → Fills Has old new from (filled r)
  fills_read k octets is ok l old new from None h = fills_full k octets is ok l old new from h
  fills_read k octets is ok l old new from (Some to) h = fills_to k octets is ok l old new from to h

  pub fills_err : (error : FindError) → result ≡ Err error
      → ((v : List ℕ) (inner : Error) → length v < 2 ^ 32 → reads v (Err inner) → (octets : List ℕ) → v ≡ element_octets Sequence octets → IsListOf valid encoding octets → ⊥)
      → (old new : List X) (from : ℕ) → Fills Has old new from Unreadable
  fills_err error is never old new from xs has =
      not_err reads id (SaysItems valid encoding item says xs) c result absent found error is (λ v inner short r q. never v inner short r q.0 q.1 q.2.0) has

-- mappings with the same encoding are the same pair
pub mappings_apart : AreApartItems mapping.ghosts.item.valid mapping.ghosts.item.octets
mappings_apart =
    elements_apart mapping.ghosts.item.valid Sequence (λ m. element_octets ObjectIdentifier m.issuer_domain_policy.octets.now
    ++ element_octets ObjectIdentifier m.subject_domain_policy.octets.now)

both : (a b x y : List ℕ) → a ≡ b → x ≡ y → pair a x ≡ pair b y
both a b x y e f = ap (λ z. pair z x) e ∙ ap (λ z. pair b z) f

pub pair_same : (v w : PolicyMapping) → mapping.ghosts.item.octets v ≡ mapping.ghosts.item.octets w → pair_of v ≡ pair_of w
pair_same v w e =
    let front = element_front ObjectIdentifier ObjectIdentifier v.issuer_domain_policy.octets.now w.issuer_domain_policy.octets.now _ _ (element_same Sequence Sequence _ _ e).1 in
    both _ _ _ _ front.1 (element_same ObjectIdentifier ObjectIdentifier v.subject_domain_policy.octets.now w.subject_domain_policy.octets.now front.2).1

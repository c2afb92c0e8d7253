-- Lemmas on how many policies and mappings the certificates of a path have.
use Rattle.std.proofs.Common.{◌≡◌, ◌⊎◌, ◌≤◌, ◌<◌, ◌+◌, ℕ, List, [], ◌∷◌, ◌++◌, length, get_or, take, drop, map, MatchOption, Option, Some, None, inl, inr, sym, ap, subst, ◌∙◌, arith}
use Rattle.std.specs.Prelude.{bytes_eq}
use Rattle.std.proofs.lemmas.List.{drop_more, length-map, take-append-drop, take_more}
use Rattle.der.specs.Prelude.{Sequence}
use Rattle.der_asn1.specs.SequenceOf.{IsListOf}
use Rattle.path_rules.specs.declared.mapping.Mapping.{Mapping}
use Rattle.path_rules.specs.declared.policy_facts.PolicyFacts.{PolicyFacts}
use Rattle.x509.proofs.EncodingLemmas.{element_same, extension_same, extensions_apart}
use Rattle.x509.proofs.ItemLemmas.{AreApartItems}
use Rattle.x509.specs.CertificateLists.{IsExtension, extension_encoding}
use Rattle.x509.specs.ExtensionIdentifiers.{id_ce}
use Rattle.x509.specs.contracts.asn1.policy_information.PolicyInformationItem.TheImpl as policy
use Rattle.x509.specs.contracts.asn1.policy_mapping.PolicyMappingItem.TheImpl as mapping
use Rattle.x509.specs.declared.asn1.tbs_certificate.TbsCertificate.{TbsCertificate}
use Rattle.x509_path.proofs.PolicyListLemmas.{mappings_apart, pair_same}
use Rattle.x509_path.proofs.QualifierLemmas.{policies_apart, policy_read}
use Rattle.x509_path.proofs.SameLemmas.{same_filtered, same_mapped}
use Rattle.x509_path.specs.CertificateFacts.{part}
use Rattle.x509_path.specs.ExtensionValue.{ExtensionHas, OnlyHas, values_of}
use Rattle.x509_path.specs.PolicyFactsOf.{ArePolicyFacts, HasMappings, HasPolicies, SaysItems, mapping_octets, pair_of, policy_octets, policy_of}
use Rattle.x509_path.specs.PolicyNotes.{AreAllPolicyFacts, IsNoteAfter, Policies, mappings_count, policies_count}
use Rattle.x509_path.specs.declared.certificate.PathCertificate.{PathCertificate}
use Rattle.x509_path.specs.declared.policy_note.PolicyNote.{PolicyNote}

-- a certificate has one number of items
module _ {A X Y : Type 0} (valid : A → Type 0) (encoding : A → List ℕ) (apart : AreApartItems valid encoding) (item : A → Y)
    (keep : (v w : A) → encoding v ≡ encoding w → item v ≡ item w) (says : X → Y) (id : List ℕ) where
  abbrev Says : List X → Option (List ℕ) → Type 0
  Says xs = SaysItems valid encoding item says xs

  only_count : (xs ys : List X) (vs : List (List ℕ)) → OnlyHas (Says xs) vs → OnlyHas (Says ys) vs → length xs ≡ length ys
  only_count xs ys [] h k = ap length h ∙ sym (ap length k)
  only_count xs ys (v ∷ []) h k =
      let same : h.0 ≡ k.0 = (element_same Sequence Sequence h.0 k.0 (sym h.1 ∙ k.1)).1 in
      let m = subst (λ x. ((m : IsListOf valid encoding x) × (map says xs ≡ map item m.items))) same h.2 in
      let lists : map item m.0.items ≡ map item k.2.0.items = same_mapped valid encoding apart item keep k.0 m.0 k.2.0 in
      sym (length-map xs says) ∙ ap length (m.1 ∙ lists ∙ sym k.2.1) ∙ length-map ys says
  only_count xs ys (v ∷ w ∷ vs) h k = absurd h

  option_count : {E : Type 0} (octets_of : E → List ℕ) (o : Option E) (xs ys : List X)
      → MatchOption o (Says xs None) (λ e. (l : IsListOf IsExtension extension_encoding (octets_of e)) × OnlyHas (Says xs) (values_of id l.items))
      → MatchOption o (Says ys None) (λ e. (l : IsListOf IsExtension extension_encoding (octets_of e)) × OnlyHas (Says ys) (values_of id l.items)) → length xs ≡ length ys
  option_count octets_of None xs ys h k = ap length h ∙ sym (ap length k)
  option_count octets_of (Some e) xs ys h k =
      let same : values_of id h.0.items ≡ values_of id k.0.items =
      same_filtered IsExtension extension_encoding extensions_apart (λ e. e.extn_value.octets.now) (λ v w e. (extension_same v w e).1.1) (λ e. bytes_eq e.extn_id.octets.now id) (λ v w e. ap (λ i. bytes_eq i id) (extension_same v w e).0)
      (octets_of e) h.0 k.0 in
      only_count xs ys (values_of id k.0.items) (subst (OnlyHas (Says xs)) same h.1) k.1

  pub one_count : (c : TbsCertificate) (xs ys : List X) → ExtensionHas id (Says xs) c → ExtensionHas id (Says ys) c → length xs ≡ length ys
  one_count c xs ys h k = option_count (λ e. e.0.items.octets.now) c.extensions.0 xs ys h k

policies_one : (c : TbsCertificate) (xs ys : Policies) → HasPolicies xs c → HasPolicies ys c → length xs ≡ length ys
policies_one c xs ys h k = one_count policy.ghosts.item.valid policy.ghosts.item.octets policies_apart policy_of policy_read policy_octets (id_ce 32) c xs ys h k

mappings_one : (c : TbsCertificate) (xs ys : List Mapping) → HasMappings xs c → HasMappings ys c → length xs ≡ length ys
mappings_one c xs ys h k = one_count mapping.ghosts.item.valid mapping.ghosts.item.octets mappings_apart pair_of pair_same mapping_octets (id_ce 33) c xs ys h k

-- what a path says of policies, around one of its certificates
record Around (cs : List PathCertificate) (c : PathCertificate) (facts : List PolicyFacts) : Type 0 where
  before : List PolicyFacts
  own : PolicyFacts
  are : AreAllPolicyFacts cs before
  is : ArePolicyFacts (part c) own
  policies_most : policies_count before + length own.policies.now ≤ policies_count facts
  mappings_most : mappings_count before + length own.mappings.now ≤ mappings_count facts

around : (cs : List PathCertificate) (c : PathCertificate) (ds : List PathCertificate) (facts : List PolicyFacts) → AreAllPolicyFacts (cs ++ c ∷ ds) facts → Around cs c facts
around [] c ds [] h = absurd h
around [] c ds (f ∷ fs) h = record { before = []; own = f; are = tt; is = h.0; policies_most = omega arith; mappings_most = omega arith }
around (b ∷ cs) c ds [] h = absurd h
around (b ∷ cs) c ds (f ∷ fs) h =
    let a = around cs c ds fs h.1 in
    record {
      before = f ∷ a.before;
      own = a.own;
      are = (h.0, a.are);
      is = a.is;
      policies_most = omega (arith, a.policies_most);
      mappings_most = omega (arith, a.mappings_most);
    }

-- places in rooms are no farther than what the certificates before have
abbrev pub AreFew : List PathCertificate → ℕ → ℕ → Type 0
AreFew cs p m = (facts : List PolicyFacts) → AreAllPolicyFacts cs facts → (p ≤ policies_count facts) × (m ≤ mappings_count facts)

pub few_more : (old new : Policies) (older newer : List Mapping) (p m : ℕ) (path : List PathCertificate) (at : ℕ) (d : PathCertificate) (n : PolicyNote) → at < length path → AreFew (take at path) p m
    → IsNoteAfter old new older newer p m (part (get_or path at d)) n → AreFew (take (at + 1) path) n.policies_to n.mappings_to
few_more old new older newer p m path at d n lt few a facts h =
    let s = around (take at path) (get_or path at d) [] facts (subst (λ x. AreAllPolicyFacts x facts) (take_more path at d lt) h) in
    let before = few s.before s.are in
    let ps = policies_one (part (get_or path at d)) a.policies.0 s.own.policies.now a.policies.2 s.is.policies in
    let ms = mappings_one (part (get_or path at d)) a.mappings.0 s.own.mappings.now a.mappings.2 s.is.mappings in
    (omega (arith, before.0, ps, a.policies.1.end, s.policies_most), omega (arith, before.1, ms, a.mappings.1.end, s.mappings_most))

pub too_few : (size sizes count p m : ℕ) (path : List PathCertificate) (at : ℕ) (d : PathCertificate) → at < length path → AreFew (take at path) p m
    → ((f : PolicyFacts) → ArePolicyFacts (part (get_or path at d)) f → (size < p + length f.policies.now) ⊎ (sizes < m + length f.mappings.now))
    → (facts : List PolicyFacts) → AreAllPolicyFacts path facts → (size < policies_count facts) ⊎ ((sizes < mappings_count facts) ⊎ (count < length path))
too_few size sizes count p m path at d lt few none facts h =
    let split : path ≡ take at path ++ get_or path at d ∷ drop (at + 1) path = sym (take-append-drop at path) ∙ ap (λ x. take at path ++ x) (drop_more path at d lt) in
    let s = around (take at path) (get_or path at d) (drop (at + 1) path) facts (subst (λ x. AreAllPolicyFacts x facts) split h) in
    let before = few s.before s.are in
    elim (none s.own s.is) [ inl less ↦ inl (omega (arith, less, before.0, s.policies_most)) | inr less ↦ inr (inl (omega (arith, less, before.1, s.mappings_most))) ]

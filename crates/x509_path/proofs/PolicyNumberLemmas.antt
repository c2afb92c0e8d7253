-- Lemmas on the numbers of a certificate that limit policies.
use Rattle.std.proofs.Common.{◌≡◌, ◌↔◌, ◌<◌, ◌^◌, ℕ, true, false, List, [], ◌++◌, length, IfNone, IfSome, Option, Some, None, Result, Ok, Err, refl, sym, ap, subst, ◌∙◌, append-nil, arith}
use Rattle.std.specs.Option.{option_map}
use Rattle.der.specs.Prelude.{Error, Integer, Sequence, Tag, element_octets}
use Rattle.der.specs.Tag.{label}
use Rattle.der.proofs.DelimitedLemmas.{element_front}
use Rattle.der_asn1.specs.ContextSpecific.{context_tag}
use Rattle.der_asn1.specs.Forms.{integer_form}
use Rattle.der_asn1.specs.Integer.{is_negative}
use Rattle.der_asn1.specs.Optional.{option_encoding}
use Rattle.x509.proofs.EncodingLemmas.{element_same, elements_apart}
use Rattle.x509.specs.CertificateLists.{IsExtension, extension_encoding}
use Rattle.x509.specs.ExtensionIdentifiers.{id_ce}
use Rattle.x509.specs.Find.{FindsExtension}
use Rattle.x509.specs.contracts.asn1.policy_constraints.PolicyConstraintsItem.TheImpl as skips
use Rattle.x509.specs.declared.asn1.policy_constraints.PolicyConstraints.{PolicyConstraints}
use Rattle.x509.specs.declared.asn1.tbs_certificate.TbsCertificate.{TbsCertificate}
use Rattle.x509.specs.declared.find.error.FindError.{FindError}
use Rattle.x509.specs.declared.find.known.Known.{Known}
use Rattle.x509_path.proofs.CertificateLemmas.{has_none, has_some, is_some, not_err}
use Rattle.x509_path.specs.PathLimits.{limit_number}
use Rattle.x509_path.specs.PolicyFactsOf.{AreSkips, HasAnySkip, HasSkips, SaysAnySkip, SaysSkips, explicit_octets, inhibit_octets}
use Rattle.x509_path.specs.declared.policy_numbers.Skips.{Skips}

some_octets : (t : Tag) (n x : List ℕ) → element_octets t n ++ x ≡ [] → ⊥
some_octets t = (elements_apart (λ (_ : List ℕ). Unit {0}) t (λ c. c)).some

-- an element that may be absent
abbrev part : Tag → Option (List ℕ) → List ℕ
part t None = []
part t (Some n) = element_octets t n

tail_same : (t : Tag) (p q : Option (List ℕ)) → part t p ≡ part t q → p ≡ q
tail_same t None None e = refl
tail_same t None (Some n) e = absurd (some_octets t n [] (append-nil (element_octets t n) ∙ sym e))
tail_same t (Some n) None e = absurd (some_octets t n [] (append-nil (element_octets t n) ∙ e))
tail_same t (Some n) (Some m) e = ap Some (element_same t t n m e).1

-- the second alone is not the first with the second after it
mixed : (t u : Tag) → (t ≡ u → ⊥) → (p q : Option (List ℕ)) (d : List ℕ) → part u p ≡ element_octets t d ++ part u q → ⊥
mixed t u apart None q d e = some_octets t d (part u q) (sym e)
mixed t u apart (Some n) q d e = apart (sym (element_front u t n d [] (part u q) (append-nil (element_octets u n) ∙ e)).0)

both_same : (t u : Tag) → (t ≡ u → ⊥) → (o p q r : Option (List ℕ)) → part t o ++ part u p ≡ part t q ++ part u r → (o ≡ q) × (p ≡ r)
both_same t u apart None p None r e = (refl, tail_same u p r e)
both_same t u apart None p (Some d) r e = absurd (mixed t u apart p r d e)
both_same t u apart (Some c) p None r e = absurd (mixed t u apart r p c (sym e))
both_same t u apart (Some c) p (Some d) r e =
    let f = element_front t t c d (part u p) (part u r) e in
    (ap Some f.1, tail_same u p r f.2)

differ : (m n : ℕ) → m ≡ n → m ≡ 0 → n ≡ 1 → ⊥
differ m n e f g = absurd (omega (arith, e, f, g))

other_tags : context_tag false 0 ≡ context_tag false 1 → ⊥
other_tags e = differ (label (context_tag false 0)).number (label (context_tag false 1)).number (ap (λ t. (label t).number) e) refl refl

same_form : {A : Type 0} (t : Tag) (octets_of : A → List ℕ) (o : Option A) → option_encoding (λ n. element_octets t (octets_of n)) o ≡ part t (option_map octets_of o)
same_form t octets_of None = refl
same_form t octets_of (Some n) = refl

spelled : (p : PolicyConstraints) → skips.ghosts.item.octets p ≡ element_octets Sequence (part (context_tag false 0) (explicit_octets p) ++ part (context_tag false 1) (inhibit_octets p))
spelled p =
    ap (λ x. element_octets Sequence (x ++ option_encoding (λ n. element_octets (context_tag false 1) n.0.octets.now) p.inhibit_policy_mapping.0))
    (same_form (context_tag false 0) (λ n. n.0.octets.now) p.require_explicit_policy.0)
    ∙ ap (λ x. element_octets Sequence (part (context_tag false 0) (explicit_octets p) ++ x)) (same_form (context_tag false 1) (λ n. n.0.octets.now) p.inhibit_policy_mapping.0)

-- a policyConstraints is read in one way
skips_same : (p q : PolicyConstraints) → skips.ghosts.item.octets p ≡ skips.ghosts.item.octets q → (explicit_octets p ≡ explicit_octets q) × (inhibit_octets p ≡ inhibit_octets q)
skips_same p q e =
    both_same (context_tag false 0) (context_tag false 1) other_tags (explicit_octets p) (inhibit_octets p) (explicit_octets q) (inhibit_octets q)
    (element_same Sequence Sequence _ _ (sym (spelled p) ∙ e ∙ spelled q)).1

-- what was read of a policyConstraints
abbrev pub AreRead : PolicyConstraints → Skips → Type 0
AreRead p s =
    AreSkips (explicit_octets p) (inhibit_octets p) × (s.explicit ≡ option_map limit_number (explicit_octets p))
    × (s.inhibit ≡ option_map limit_number (inhibit_octets p))

module _ (reads : List ℕ → Result PolicyConstraints Error → Type 0) (c : TbsCertificate) (result : Result (Option (Known PolicyConstraints)) FindError)
    (absent : IfNone c.extensions.0 (result ≡ Ok None))
    (found : IfSome c.extensions.0 (λ e. FindsExtension IsExtension extension_encoding reads (id_ce 36) e.0.items.octets.now result)) where
  pub skips_none : result ≡ Ok None → HasSkips None None c
  skips_none is = has_none reads (id_ce 36) (SaysSkips None None) c result absent found is (refl, refl)

  pub skips_read : (k : Known PolicyConstraints) → result ≡ Ok (Some k) → ((v : List ℕ) → reads v (Ok k.value) → skips.ghosts.item.valid k.value × (v ≡ skips.ghosts.item.octets k.value))
      → (r : Option Skips) → IfSome r (AreRead k.value) → IfSome r (λ s. HasSkips s.explicit s.inhibit c)
  skips_read k is ok None h = h
  skips_read k is ok (Some s) h =
      has_some reads (id_ce 36) (SaysSkips s.explicit s.inhibit) c result absent found k is (λ v r. (let w = ok v r in (k.value, w.0, w.1, h.0, h.1, h.2)))

  pub skips_lost : (k : Known PolicyConstraints) → result ≡ Ok (Some k) → ((v : List ℕ) → reads v (Ok k.value) → skips.ghosts.item.valid k.value × (v ≡ skips.ghosts.item.octets k.value))
      → (r : Option Skips) → IfNone r (AreSkips (explicit_octets k.value) (inhibit_octets k.value) → ⊥) → IfNone r ((e i : Option ℕ) → HasSkips e i c → ⊥)
  skips_lost k is ok (Some s) h = h
  skips_lost k is ok None h = λ e i has.
      (let p = is_some reads (id_ce 36) (SaysSkips e i) c result absent found k is has in
      let same = skips_same p.2.0 k.value (sym p.2.2 ∙ (ok p.0 p.1).1) in
      h (subst (λ o. AreSkips o (inhibit_octets k.value)) same.0 (subst (λ o. AreSkips (explicit_octets p.2.0) o) same.1 p.2.3)))

  pub skips_err : (error : FindError) → result ≡ Err error
      → ((v : List ℕ) (inner : Error) → length v < 2 ^ 32 → reads v (Err inner) → (q : PolicyConstraints) → skips.ghosts.item.valid q → v ≡ skips.ghosts.item.octets q → ⊥)
      → (e i : Option ℕ) → HasSkips e i c → ⊥
  skips_err error is never e i has = not_err reads (id_ce 36) (SaysSkips e i) c result absent found error is (λ v inner short r q. never v inner short r q.0 q.1 q.2) has

module _ {V : Type 0} (reads : List ℕ → Result V Error → Type 0) (c : TbsCertificate) (result : Result (Option (Known V)) FindError)
    (absent : IfNone c.extensions.0 (result ≡ Ok None))
    (found : IfSome c.extensions.0 (λ e. FindsExtension IsExtension extension_encoding reads (id_ce 54) e.0.items.octets.now result)) where
  pub any_none : result ≡ Ok None → HasAnySkip None c
  any_none is = has_none reads (id_ce 54) (SaysAnySkip None) c result absent found is refl

  pub any_read : (k : Known V) (octets : List ℕ) → result ≡ Ok (Some k) → ((v : List ℕ) → reads v (Ok k.value) → (integer_form octets ≡ true) × (v ≡ element_octets Integer octets))
      → (r : Option (Option ℕ)) → IfSome r (λ n. (is_negative octets ≡ false) × (n ≡ Some (limit_number octets))) → IfSome r (λ n. HasAnySkip n c)
  any_read k octets is ok None h = h
  any_read k octets is ok (Some n) h =
      has_some reads (id_ce 54) (SaysAnySkip n) c result absent found k is (λ v r. (let w = ok v r in (octets, w.1, w.0, h.0, h.1)))

  pub any_lost : (k : Known V) (octets : List ℕ) → result ≡ Ok (Some k) → ((v : List ℕ) → reads v (Ok k.value) → (integer_form octets ≡ true) × (v ≡ element_octets Integer octets))
      → (r : Option (Option ℕ)) → IfNone r (is_negative octets ≡ false → ⊥) → IfNone r ((n : Option ℕ) → HasAnySkip n c → ⊥)
  any_lost k octets is ok (Some n) h = h
  any_lost k octets is ok None h = λ n has.
      (let p = is_some reads (id_ce 54) (SaysAnySkip n) c result absent found k is has in
      let same : p.2.0 ≡ octets = (element_same Integer Integer p.2.0 octets (sym p.2.1 ∙ (ok p.0 p.1).1)).1 in
      h (subst (λ o. is_negative o ≡ false) same p.2.3))

  pub any_err : (error : FindError) → result ≡ Err error
      → ((v : List ℕ) (inner : Error) → length v < 2 ^ 32 → reads v (Err inner) → (octets : List ℕ) → v ≡ element_octets Integer octets → integer_form octets ≡ true → ⊥)
      → (n : Option ℕ) → HasAnySkip n c → ⊥
  any_err error is never n has = not_err reads (id_ce 54) (SaysAnySkip n) c result absent found error is (λ v inner short r q. never v inner short r q.0 q.1 q.2) has

-- whether numbers are there that are not negative
with_parts : (e i o q : Option (List ℕ)) (said : Type 0) → e ≡ o → i ≡ q → (said ↔ AreSkips o q) → (said ↔ AreSkips e i)
with_parts e i o q said first second are = subst (λ x. said ↔ AreSkips x i) (sym first) (subst (λ x. said ↔ AreSkips o x) (sym second) are)

some_none : (m : List ℕ) → Some m ≡ None → ⊥
some_none m e = cc

pub skips_both : (e i : Option (List ℕ)) (m n : List ℕ) (said : Type 0) → e ≡ Some m → i ≡ Some n → (said ↔ ((is_negative m ≡ false) × (is_negative n ≡ false))) → (said ↔ AreSkips e i)
skips_both e i m n said first second are =
    with_parts e i (Some m) (Some n) said first second (
      λ s. record { some = λ h. some_none m h.0; first = (are.0 s).0; second = (are.0 s).1 },
      λ h. are.1 (h.first, h.second),
    )

pub skips_first : (e i : Option (List ℕ)) (m : List ℕ) (said : Type 0) → e ≡ Some m → i ≡ None → (said ↔ (is_negative m ≡ false)) → (said ↔ AreSkips e i)
skips_first e i m said first second are =
    with_parts e i (Some m) None said first second (
      λ s. record { some = λ h. some_none m h.0; first = are.0 s; second = tt },
      λ h. are.1 h.first,
    )

pub skips_second : (e i : Option (List ℕ)) (n : List ℕ) (said : Type 0) → e ≡ None → i ≡ Some n → (said ↔ (is_negative n ≡ false)) → (said ↔ AreSkips e i)
skips_second e i n said first second are =
    with_parts e i None (Some n) said first second (
      λ s. record { some = λ h. some_none n h.1; first = tt; second = are.0 s },
      λ h. are.1 h.second,
    )

pub skips_neither : (e i : Option (List ℕ)) (said : Type 0) → e ≡ None → i ≡ None → (said → ⊥) → (said ↔ AreSkips e i)
skips_neither e i said first second never =
    with_parts e i None None said first second (λ s. absurd (never s), λ h. absurd (h.some (refl, refl)))

-- Lemmas on the only extension with an identifier: from what a search found to what a certificate has.
use Rattle.std.proofs.Common.{◌≡◌, ◌≤◌, ◌<◌, ◌^◌, ◌+◌, ℕ, Bool, true, false, List, [], ◌∷◌, ◌++◌, length, map, MatchOption, IfNone, IfSome, Option, Some, None, Result, Ok, Err, refl, sym, ap, subst, ◌∙◌, cond, arith, length-append}
use Rattle.std.specs.Prelude.{bytes_eq, filter}
use Rattle.x509_path.proofs.SameLemmas.{same_filtered}
use Rattle.x509_path.specs.ExtensionValue.{OnlyHas, values_of}
use Rattle.der.specs.Prelude.{Error}
use Rattle.der_asn1.specs.SequenceOf.{IsListOf, joined_encodings}
use Rattle.x509.proofs.ItemLemmas.{AreApartItems}
use Rattle.x509.specs.Find.{FindAnswer, FindsExtension, KnownAnswer, of_type}
use Rattle.x509.specs.declared.asn1.extension.Extension.{Extension}
use Rattle.x509.specs.declared.find.error.FindError.{FindError}
use Rattle.x509.specs.declared.find.error.FindError.TheVariants.{Repeated, Contents}
use Rattle.x509.specs.declared.find.known.Known.{Known}

-- all values have a property
abbrev pub EachValue : (List ℕ → Type 0) → List (List ℕ) → Type 0
EachValue Q [] = Unit {0}
EachValue Q (v ∷ vs) = Q v × EachValue Q vs

module _ {V : Type 0} (reads : List ℕ → Result V Error → Type 0) (P : Option (List ℕ) → Type 0) where
  none_only : (es : List Extension) → FindAnswer reads es (Ok None) → map (λ e. e.extn_value.octets.now) es ≡ []
  none_only [] a = refl
  none_only (e ∷ []) a = absurd a
  none_only (e ∷ f ∷ es) a = absurd (cc)

  some_has_only : (es : List Extension) (k : Known V) → FindAnswer reads es (Ok (Some k)) → ((v : List ℕ) → reads v (Ok k.value) → P (Some v))
      → OnlyHas P (map (λ e. e.extn_value.octets.now) es)
  some_has_only [] k a h = absurd (cc)
  some_has_only (e ∷ []) k a h = h e.extn_value.octets.now a.0
  some_has_only (e ∷ f ∷ es) k a h = absurd (cc)

  some_has_not : (es : List Extension) (k : Known V) → FindAnswer reads es (Ok (Some k)) → ((v : List ℕ) → reads v (Ok k.value) → P (Some v) → ⊥)
      → OnlyHas P (map (λ e. e.extn_value.octets.now) es) → ⊥
  some_has_not [] k a h p = absurd (cc)
  some_has_not (e ∷ []) k a h p = h e.extn_value.octets.now a.0 p
  some_has_not (e ∷ f ∷ es) k a h p = p

  some_is_only : (es : List Extension) (k : Known V) → FindAnswer reads es (Ok (Some k)) → OnlyHas P (map (λ e. e.extn_value.octets.now) es) → ((v : List ℕ) × reads v (Ok k.value) × P (Some v))
  some_is_only [] k a p = absurd (cc)
  some_is_only (e ∷ []) k a p = (e.extn_value.octets.now, a.0, p)
  some_is_only (e ∷ f ∷ es) k a p = absurd p

  err_has_not : (es : List Extension) (error : FindError) → FindAnswer reads es (Err error) → EachValue (λ v. (length v < 2 ^ 32)) (map (λ e. e.extn_value.octets.now) es)
      → ((v : List ℕ) (inner : Error) → length v < 2 ^ 32 → reads v (Err inner) → P (Some v) → ⊥)
      → OnlyHas P (map (λ e. e.extn_value.octets.now) es) → ⊥
  err_has_not [] error a short h p = absurd (cc)
  err_has_not (e ∷ []) Repeated a short h p = a
  err_has_not (e ∷ []) (Contents inner) a short h p = h e.extn_value.octets.now inner short.0 a p
  err_has_not (e ∷ f ∷ es) error a short h p = p

-- the values of a list of extensions are no longer than the list
module _ (encoding : Extension → List ℕ) (part : (e : Extension) → length e.extn_value.octets.now ≤ length (encoding e)) (id : List ℕ) (most : ℕ) where
  short_value : (e : Extension) (b : Bool) (es : List Extension) → length e.extn_value.octets.now < most → EachValue (λ v. length v < most) (values_of id es)
      → EachValue (λ v. length v < most) (map (λ f. f.extn_value.octets.now) (cond b (e ∷ of_type (λ f. f.extn_id.octets.now) id es) (of_type (λ f. f.extn_id.octets.now) id es)))
  short_value e true es one more = (one, more)
  short_value e false es one more = more

  pub short_values : (es : List Extension) → length (joined_encodings encoding es) < most → EachValue (λ v. length v < most) (values_of id es)
  short_values [] h = tt
  short_values (e ∷ es) h =
      let whole : length (joined_encodings encoding (e ∷ es)) ≡ length (encoding e) + length (joined_encodings encoding es) = length-append (encoding e) (joined_encodings encoding es) in
      let within = part e in
      short_value e (bytes_eq e.extn_id.octets.now id) es (omega (arith, within, whole, h)) (short_values es (omega (arith, whole, h)))

-- what a certificate has, from what a search in its extensions found
module _ {E V : Type 0} (octets_of : E → List ℕ) (valid : Extension → Type 0) (encoding : Extension → List ℕ) (apart : AreApartItems valid encoding)
    (part : (e : Extension) → length e.extn_value.octets.now ≤ length (encoding e))
    (same : (v w : Extension) → encoding v ≡ encoding w → (v.extn_id.octets.now ≡ w.extn_id.octets.now) × (v.extn_value.octets.now ≡ w.extn_value.octets.now))
    (short : (e : E) → length (octets_of e) < 2 ^ 32)
    (reads : List ℕ → Result V Error → Type 0) (id : List ℕ) (P : Option (List ℕ) → Type 0) where
  abbrev pub Has : Option E → Type 0
  Has o = MatchOption o (P None) (λ e. (l : IsListOf valid encoding (octets_of e)) × OnlyHas P (values_of id l.items))

  abbrev pub Finds : Option E → Result (Option (Known V)) FindError → Type 0
  Finds o result = IfNone o (result ≡ Ok None) × IfSome o (λ e. FindsExtension valid encoding reads id (octets_of e) result)

  values_same : (octets : List ℕ) (l m : IsListOf valid encoding octets) → values_of id l.items ≡ values_of id m.items
  values_same = same_filtered valid encoding apart (λ e. e.extn_value.octets.now) (λ v w e. (same v w e).1) (λ e. bytes_eq e.extn_id.octets.now id) (λ v w e. ap (λ i. bytes_eq i id) (same v w e).0)

  pub none_has : (o : Option E) (result : Result (Option (Known V)) FindError) → result ≡ Ok None → Finds o result → P None → Has o
  none_has None result is found p = p
  none_has (Some e) result is found p =
      let f = found.1 in
      (f.list, subst (OnlyHas P) (sym (none_only reads P (of_type (λ x. x.extn_id.octets.now) id f.list.items) (subst (FindAnswer reads (of_type (λ x. x.extn_id.octets.now) id f.list.items)) is f.answer))) p)

  pub none_is : (o : Option E) (result : Result (Option (Known V)) FindError) → result ≡ Ok None → Finds o result → Has o → P None
  none_is None result is found p = p
  none_is (Some e) result is found p =
      let f = found.1 in
      subst (OnlyHas P) (values_same (octets_of e) p.0 f.list ∙ none_only reads P (of_type (λ x. x.extn_id.octets.now) id f.list.items) (subst (FindAnswer reads (of_type (λ x. x.extn_id.octets.now) id f.list.items)) is f.answer)) p.1

  pub some_has : (o : Option E) (result : Result (Option (Known V)) FindError) (k : Known V) → result ≡ Ok (Some k) → Finds o result → ((v : List ℕ) → reads v (Ok k.value) → P (Some v)) → Has o
  some_has None result k is found h = let g = found.0 in absurd (cc)
  some_has (Some e) result k is found h =
      let f = found.1 in
      (f.list, some_has_only reads P (of_type (λ x. x.extn_id.octets.now) id f.list.items) k (subst (FindAnswer reads (of_type (λ x. x.extn_id.octets.now) id f.list.items)) is f.answer) h)

  pub some_not : (o : Option E) (result : Result (Option (Known V)) FindError) (k : Known V) → result ≡ Ok (Some k) → Finds o result → ((v : List ℕ) → reads v (Ok k.value) → P (Some v) → ⊥) → Has o → ⊥
  some_not None result k is found h p = let g = found.0 in absurd (cc)
  some_not (Some e) result k is found h p =
      let f = found.1 in
      some_has_not reads P (of_type (λ x. x.extn_id.octets.now) id f.list.items) k (subst (FindAnswer reads (of_type (λ x. x.extn_id.octets.now) id f.list.items)) is f.answer) h
      (subst (OnlyHas P) (values_same (octets_of e) p.0 f.list) p.1)

  pub some_is : (o : Option E) (result : Result (Option (Known V)) FindError) (k : Known V) → result ≡ Ok (Some k) → Finds o result → Has o → ((v : List ℕ) × reads v (Ok k.value) × P (Some v))
  some_is None result k is found p = let g = found.0 in absurd (cc)
  some_is (Some e) result k is found p =
      let f = found.1 in
      some_is_only reads P (of_type (λ x. x.extn_id.octets.now) id f.list.items) k (subst (FindAnswer reads (of_type (λ x. x.extn_id.octets.now) id f.list.items)) is f.answer)
      (subst (OnlyHas P) (values_same (octets_of e) p.0 f.list) p.1)

  pub err_not : (o : Option E) (result : Result (Option (Known V)) FindError) (error : FindError) → result ≡ Err error → Finds o result
      → ((v : List ℕ) (inner : Error) → length v < 2 ^ 32 → reads v (Err inner) → P (Some v) → ⊥) → Has o → ⊥
  err_not None result error is found h p = let g = found.0 in absurd (cc)
  err_not (Some e) result error is found h p =
      let f = found.1 in
      err_has_not reads P (of_type (λ x. x.extn_id.octets.now) id f.list.items) error (subst (FindAnswer reads (of_type (λ x. x.extn_id.octets.now) id f.list.items)) is f.answer)
      (short_values encoding part id (2 ^ 32) f.list.items (subst (λ x. length x < 2 ^ 32) f.list.joined (short e))) h
      (subst (OnlyHas P) (values_same (octets_of e) p.0 f.list) p.1)

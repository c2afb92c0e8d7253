-- Lemmas on the items of a list that have a type.
use Rattle.std.proofs.Common.{◌≡◌, ℕ, subst, Result, Ok, Err, true, List, [], ◌∷◌, ◌++◌, Option, None, refl, sym, ap, ◌∙◌, append-nil, append_assoc}
use Rattle.std.specs.Iterator.{Yields}
use Rattle.std.specs.Prelude.{bytes_eq}
use Rattle.std.proofs.lemmas.List.Elements.{filter-append}
use Rattle.der.specs.Prelude.{Error, ReaderState, rest_of}
use Rattle.der_asn1.specs.Items.{GivesItem}
use Rattle.der_asn1.specs.SequenceOf.{AllValid, IsListOf, joined_encodings}
use Rattle.x509.specs.Find.{AttributeAnswer, FindAnswer, FindAttributeAnswer, FindsAttribute, FindsExtension, HasOccurrence, KnownAnswer, of_type, occurrence, occurrence_with}
use Rattle.x509.specs.declared.asn1.attribute.Attribute.{Attribute}
use Rattle.x509.specs.declared.asn1.extension.Extension.{Extension}
use Rattle.x509.specs.declared.find.error.FindError.{FindError}
use Rattle.x509.specs.declared.find.error.FindError.TheVariants.{Repeated}
use Rattle.x509.specs.declared.find.known.Known.{Known}
use Rattle.x509.specs.declared.find.occurrence.Occurrence.{Occurrence}
use Rattle.x509.specs.declared.find.occurrence.Occurrence.TheVariants.{Absent, Once, Several}

-- one more item
pub occurrence_push : {A : Type 0} (vs : List A) (v : A) → occurrence (vs ++ v ∷ []) ≡ occurrence_with (occurrence vs) v
occurrence_push [] v = refl
occurrence_push (w ∷ []) v = refl
occurrence_push (w ∷ x ∷ vs) v = refl

pub of_type_push : {A : Type 0} (type_of : A → List ℕ) (oid : List ℕ) (vs : List A) (v : A) → bytes_eq (type_of v) oid ≡ true → of_type type_of oid (vs ++ v ∷ []) ≡ of_type type_of oid vs ++ v ∷ []
of_type_push type_of oid vs v same = filter-append (λ w. bytes_eq (type_of w) oid) vs (v ∷ []) ∙ ap (λ x. of_type type_of oid vs ++ x) (alone type_of oid v same)
  where
    alone : {A : Type 0} (type_of : A → List ℕ) (oid : List ℕ) (v : A) → bytes_eq (type_of v) oid ≡ true → of_type type_of oid (v ∷ []) ≡ v ∷ []
    alone type_of oid v same = rw same refl

pub occurrence_more : {A : Type 0} (type_of : A → List ℕ) (oid : List ℕ) (vs : List A) (v : A) (found more : Occurrence A) → bytes_eq (type_of v) oid ≡ true → found ≡ occurrence (of_type type_of oid vs) → more ≡ occurrence_with found v → more ≡ occurrence (of_type type_of oid (vs ++ v ∷ []))
occurrence_more type_of oid vs v found more same is e =
    e ∙ ap (λ x. occurrence_with x v) is ∙ sym (occurrence_push (of_type type_of oid vs) v) ∙ ap occurrence (sym (of_type_push type_of oid vs v same))

-- the items that an iterator has given are encoded in the octets that it has passed
module _ {S A : Type 0} (state : S → ReaderState) (valid : A → Type 0) (encoding : A → List ℕ) where
  abbrev pub gives : S → Option A → S → Type 0
  gives before result after = GivesItem valid encoding (state before) result (state after)

  pub items_taken : (s : S) (xs : List A) (t : S) → Yields gives s xs t → AllValid valid xs × (rest_of (state s) ≡ joined_encodings encoding xs ++ rest_of (state t))
  items_taken s [] t y = (tt, ap (λ x. rest_of (state x)) y)
  items_taken s (x ∷ xs) t y =
      let h = items_taken y.0 xs t y.2 in
      ((y.1.0, h.0), y.1.1.split ∙ ap (λ z. encoding x ++ z) h.1 ∙ sym (append_assoc (encoding x) (joined_encodings encoding xs) (rest_of (state t))))

  abbrev pub items_drained : (s : S) (xs : List A) (t u : S) → Yields gives s xs t → gives t None u → IsListOf valid encoding (rest_of (state s))
  items_drained s xs t u y end =
      let h = items_taken s xs t y in
      record {
        items = xs;
        are_valid = h.0;
        joined = h.1 ∙ ap (λ z. joined_encodings encoding xs ++ z) end.0 ∙ append-nil (joined_encodings encoding xs);
      }

  abbrev pub octets_drained : (octets : List ℕ) (s : S) (xs : List A) (t u : S) → rest_of (state s) ≡ octets → Yields gives s xs t → gives t None u → IsListOf valid encoding octets
  octets_drained octets s xs t u whole y end =
      let h = items_taken s xs t y in
      record {
        items = xs;
        are_valid = h.0;
        joined = sym whole ∙ h.1 ∙ ap (λ z. joined_encodings encoding xs ++ z) end.0 ∙ append-nil (joined_encodings encoding xs);
      }

-- the outcome of a lookup, by what the list has
abbrev pub OccurrenceAnswer : {V : Type 0} → (List ℕ → Result V Error → Type 0) → Occurrence Extension → Result (Option (Known V)) FindError → Type 0
OccurrenceAnswer reads Absent result = result ≡ Ok None
OccurrenceAnswer reads (Once e) result = KnownAnswer reads e result
OccurrenceAnswer reads Several result = result ≡ Err Repeated

abbrev pub OccurrenceAttribute : {V : Type 0} → (List ℕ → Result V Error → Type 0) → Occurrence Attribute → Result (Option V) FindError → Type 0
OccurrenceAttribute reads Absent result = result ≡ Ok None
OccurrenceAttribute reads (Once e) result = AttributeAnswer reads e result
OccurrenceAttribute reads Several result = result ≡ Err Repeated

-- the outcome of a lookup of an extension, from what the list has
module _ {V : Type 0} (reads : List ℕ → Result V Error → Type 0) where
  answered : (vs : List Extension) (o : Occurrence Extension) (result : Result (Option (Known V)) FindError) → o ≡ occurrence vs → OccurrenceAnswer reads o result → FindAnswer reads vs result
  answered [] Absent result e a = a
  answered [] (Once v) result e a = absurd (cc)
  answered [] Several result e a = absurd (cc)
  answered (v ∷ []) Absent result e a = absurd (cc)
  answered (v ∷ []) (Once w) result e a = let f : w ≡ v = cc in subst (λ x. KnownAnswer reads x result) f a
  answered (v ∷ []) Several result e a = absurd (cc)
  answered (v ∷ w ∷ vs) Absent result e a = absurd (cc)
  answered (v ∷ w ∷ vs) (Once x) result e a = absurd (cc)
  answered (v ∷ w ∷ vs) Several result e a = a

  pub finds_extension : {valid : Extension → Type 0} {encoding : Extension → List ℕ} {oid other octets : List ℕ} → oid ≡ other → (o : Occurrence Extension) (result : Result (Option (Known V)) FindError) → HasOccurrence valid encoding (λ e. e.extn_id.octets.now) oid octets o → OccurrenceAnswer reads o result → FindsExtension valid encoding reads other octets result
  finds_extension {valid} {encoding} {oid} {other} {octets} same o result h a =
      let g : HasOccurrence valid encoding (λ e. e.extn_id.octets.now) other octets o = subst (λ x. HasOccurrence valid encoding (λ e. e.extn_id.octets.now) x octets o) same h in
      record { list = g.list; answer = answered (of_type (λ e. e.extn_id.octets.now) other g.list.items) o result g.only a }

-- the outcome of a lookup of an attribute, from what the list has
module _ {V : Type 0} (reads : List ℕ → Result V Error → Type 0) where
  attribute_answered : (vs : List Attribute) (o : Occurrence Attribute) (result : Result (Option V) FindError) → o ≡ occurrence vs → OccurrenceAttribute reads o result → FindAttributeAnswer reads vs result
  attribute_answered [] Absent result e a = a
  attribute_answered [] (Once v) result e a = absurd (cc)
  attribute_answered [] Several result e a = absurd (cc)
  attribute_answered (v ∷ []) Absent result e a = absurd (cc)
  attribute_answered (v ∷ []) (Once w) result e a = let f : w ≡ v = cc in subst (λ x. AttributeAnswer reads x result) f a
  attribute_answered (v ∷ []) Several result e a = absurd (cc)
  attribute_answered (v ∷ w ∷ vs) Absent result e a = absurd (cc)
  attribute_answered (v ∷ w ∷ vs) (Once x) result e a = absurd (cc)
  attribute_answered (v ∷ w ∷ vs) Several result e a = a

  pub finds_attribute : {valid : Attribute → Type 0} {encoding : Attribute → List ℕ} {oid other octets : List ℕ} → oid ≡ other → (o : Occurrence Attribute) (result : Result (Option V) FindError) → HasOccurrence valid encoding (λ e. e.oid.octets.now) oid octets o → OccurrenceAttribute reads o result → FindsAttribute valid encoding reads other octets result
  finds_attribute {valid} {encoding} {oid} {other} {octets} same o result h a =
      let g : HasOccurrence valid encoding (λ e. e.oid.octets.now) other octets o = subst (λ x. HasOccurrence valid encoding (λ e. e.oid.octets.now) x octets o) same h in
      record { list = g.list; answer = attribute_answered (of_type (λ e. e.oid.octets.now) other g.list.items) o result g.only a }

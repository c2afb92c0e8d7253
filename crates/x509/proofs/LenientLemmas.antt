-- Lookup of an extension whose contents may be BER, from what the list has.
use Rattle.std.proofs.Common.{◌≡◌, ◌≢◌, ◌↔◌, ◌^◌, ◌<◌, ◌⊎◌, ⊎_elim, ℕ, subst, Result, Ok, Err, IfOk, Bool, true, false, List, [], ◌∷◌, length, Option, None, refl, sym, ◌∙◌}
use Rattle.std.specs.Prelude.{is_ok}
use Rattle.der.specs.Decode.{SucceedsOrLacks}
use Rattle.der.specs.Prelude.{Error, Tag, element_octets}
use Rattle.x509.specs.Find.{HasOccurrence, of_type, occurrence}
use Rattle.x509.specs.declared.asn1.extension.Extension.{Extension}
use Rattle.x509.specs.declared.find.error.FindError.{FindError}
use Rattle.x509.specs.declared.find.error.FindError.TheVariants.{Repeated}
use Rattle.x509.specs.declared.find.occurrence.Occurrence.{Occurrence}
use Rattle.x509.specs.declared.find.occurrence.Occurrence.TheVariants.{Absent, Once, Several}
use Rattle.x509.specs.Lenient.{AllAnswer, FindsLenient, IsDerOf, LenientAnswer, SaysDerOf}
use Rattle.x509.specs.declared.find.lenient.lenient.Lenient.{Lenient}

-- the outcome of a lookup, by what the list has
abbrev pub OccurrenceAnswer : {V : Type 0} → (List ℕ → Result V Error → Type 0) → (List ℕ → Bool → Type 0) → Occurrence Extension → Result (Option (Lenient V)) FindError → Type 0
OccurrenceAnswer reads says Absent result = result ≡ Ok None
OccurrenceAnswer reads says (Once e) result = LenientAnswer reads says e result
OccurrenceAnswer reads says Several result = result ≡ Err Repeated

module _ {V : Type 0} (reads : List ℕ → Result V Error → Type 0) (says : List ℕ → Bool → Type 0) where
  answered : (vs : List Extension) (o : Occurrence Extension) (result : Result (Option (Lenient V)) FindError) → o ≡ occurrence vs → OccurrenceAnswer reads says o result → AllAnswer reads says vs result
  answered [] Absent result e a = a
  answered [] (Once v) result e a = absurd (cc)
  answered [] Several result e a = absurd (cc)
  answered (v ∷ []) Absent result e a = absurd (cc)
  answered (v ∷ []) (Once w) result e a = let f : w ≡ v = cc in subst (λ x. LenientAnswer reads says x result) f a
  answered (v ∷ []) Several result e a = absurd (cc)
  answered (v ∷ w ∷ vs) Absent result e a = absurd (cc)
  answered (v ∷ w ∷ vs) (Once x) result e a = absurd (cc)
  answered (v ∷ w ∷ vs) Several result e a = a

  pub finds_lenient : {valid : Extension → Type 0} {encoding : Extension → List ℕ} {oid other octets : List ℕ} → oid ≡ other → (o : Occurrence Extension) (result : Result (Option (Lenient V)) FindError) → HasOccurrence valid encoding (λ e. e.extn_id.octets.now) oid octets o → OccurrenceAnswer reads says o result → FindsLenient valid encoding reads says other octets result
  finds_lenient {valid} {encoding} {oid} {other} {octets} same o result h a =
      let g : HasOccurrence valid encoding (λ e. e.extn_id.octets.now) other octets o = subst (λ x. HasOccurrence valid encoding (λ e. e.extn_id.octets.now) x octets o) same h in
      record { list = g.list; answer = answered (of_type (λ e. e.extn_id.octets.now) other g.list.items) o result g.only a }

-- whether octets are DER, from the result of decoding them
pub says_der : {A : Type 0} (p : Error → Bool) (tag : Tag) (valid : A → Type 0) (contents : A → List ℕ) (allocates : Bool) (octets : List ℕ) (r : Result A Error) (b : Bool)
    → IfOk r (λ v. valid v × (octets ≡ element_octets tag (contents v)))
    → ((v : A) → length octets < 2 ^ 32 → valid v → octets ≡ element_octets tag (contents v) → SucceedsOrLacks p allocates r)
    → b ≡ is_ok r → SaysDerOf allocates (IsDerOf tag valid contents) octets b
says_der p tag valid contents allocates octets (Ok v) b ok complete same =
    record { only = λ e. (v, ok.0, ok.1); all = λ never short is. same }
says_der p tag valid contents allocates octets (Err e) b ok complete same =
    record {
      only = λ yes. absurd (let no : false ≡ true = sym same ∙ yes in cc);
      all = λ never short is. ⊎_elim (λ fine. absurd (let no : false ≡ true = fine in cc)) (λ lacks. absurd (let no : false ≡ true = sym never ∙ lacks.0 in cc)) (complete is.0 short is.1 is.2);
    }

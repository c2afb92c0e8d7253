-- Lookup of an extension for C, from what the list has.
use Rattle.std.proofs.Common.{◌≡◌, ℕ, subst, Result, Ok, Err, List, [], ◌∷◌, Option, None}
use Rattle.der.specs.Prelude.{Error, error_of_kind}
use Rattle.der_base.specs.declared.error.ErrorKind.TheVariants.{SetDuplicate}
use Rattle.der_c_core.specs.ErrorCode.{error_code}
use Rattle.der_c_core.specs.declared.error.DerError.{DerError}
use Rattle.x509.specs.Find.{HasOccurrence, of_type, occurrence}
use Rattle.x509.specs.declared.asn1.extension.Extension.{Extension}
use Rattle.x509.specs.declared.find.known.Known.{Known}
use Rattle.x509.specs.declared.find.occurrence.Occurrence.{Occurrence}
use Rattle.x509.specs.declared.find.occurrence.Occurrence.TheVariants.{Absent, Once, Several}
use Rattle.der_c_x509.specs.FindCalls.{FindsInList, ReadsContents, TypeAnswer}

-- the outcome of a lookup, by what the list has
abbrev pub OccurrenceAnswer : {V : Type 0} → (List ℕ → Result V Error → Type 0) → Occurrence Extension → Result (Option (Known V)) DerError → Type 0
OccurrenceAnswer reads Absent result = result ≡ Ok None
OccurrenceAnswer reads (Once e) result = ReadsContents reads e result
OccurrenceAnswer reads Several result = result ≡ Err (error_code (error_of_kind SetDuplicate))

module _ {V : Type 0} (reads : List ℕ → Result V Error → Type 0) where
  answered : (vs : List Extension) (o : Occurrence Extension) (result : Result (Option (Known V)) DerError) → o ≡ occurrence vs → OccurrenceAnswer reads o result → TypeAnswer reads vs result
  answered [] Absent result e a = a
  answered [] (Once v) result e a = absurd (cc)
  answered [] Several result e a = absurd (cc)
  answered (v ∷ []) Absent result e a = absurd (cc)
  answered (v ∷ []) (Once w) result e a = let f : w ≡ v = cc in subst (λ x. ReadsContents reads x result) f a
  answered (v ∷ []) Several result e a = absurd (cc)
  answered (v ∷ w ∷ vs) Absent result e a = absurd (cc)
  answered (v ∷ w ∷ vs) (Once x) result e a = absurd (cc)
  answered (v ∷ w ∷ vs) Several result e a = a

  pub finds_in_list : {valid : Extension → Type 0} {encoding : Extension → List ℕ} {oid other octets : List ℕ} → oid ≡ other → (o : Occurrence Extension) (result : Result (Option (Known V)) DerError) → HasOccurrence valid encoding (λ e. e.extn_id.octets.now) oid octets o → OccurrenceAnswer reads o result → FindsInList valid encoding reads other octets result
  finds_in_list {valid} {encoding} {oid} {other} {octets} same o result h a =
      let g : HasOccurrence valid encoding (λ e. e.extn_id.octets.now) other octets o = subst (λ x. HasOccurrence valid encoding (λ e. e.extn_id.octets.now) x octets o) same h in
      record { list = g.list; answer = answered (of_type (λ e. e.extn_id.octets.now) other g.list.items) o result g.only a }

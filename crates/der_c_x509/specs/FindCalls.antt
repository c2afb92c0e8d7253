-- The results of looking up an extension by its type in the contents of a list of extensions:
-- `FindsType` for the extension, `ReadsKnown` for the struct that C sees of it, and `FindsIn` for an
-- extension that may be BER.
use Rattle.std.specs.Prelude.{◌≡◌, ◌↔◌, ℕ, ◌^◌, ◌<◌, ◌≤◌, true, List, [], ◌∷◌, length, Option, Some, None, Result, Ok, Err}
use Rattle.der_base.specs.Error.{error_of_kind}
use Rattle.der_base.specs.declared.error.Error.{Error}
use Rattle.der_base.specs.declared.error.ErrorKind.TheVariants.{Overflow, SetDuplicate}
use Rattle.der_core.specs.ReaderState.{ReaderState}
use Rattle.der_asn1.specs.ListAnswers.{ListWalked}
use Rattle.der_asn1.specs.SequenceOf.{IsListOf}
use Rattle.der_c_core.specs.ErrorCode.{no_error, error_code}
use Rattle.der_c_core.specs.Located.{LocatesIn}
use Rattle.der_c_core.specs.declared.error.DerError.{DerError}
use Rattle.x509.specs.Find.{of_type}
use Rattle.x509.specs.declared.asn1.extension.Extension.{Extension}
use Rattle.x509.specs.declared.find.error.FindError.{FindError}
use Rattle.x509.specs.declared.find.error.FindError.TheVariants.{Repeated, Contents}
use Rattle.x509.specs.declared.find.known.Known.{Known}

-- an error of octets that are not a list: there are too many of them, or reading the items one
-- after the other returns it
pub record RefusesList {T : Type 0} (reads : ReaderState → Result T Error → ReaderState → Type 0)
    (octets : List ℕ) (e : Error) : Type 0 where
  pub too_long : 2 ^ 32 ≤ length octets → e ≡ error_of_kind Overflow
  pub no_item : length octets < 2 ^ 32 → ListWalked (λ e f. f ≡ e) reads (Err e) octets

-- the outcome for the only extension of a type: its contents are a value; or they have an error,
-- which is reported where they are cut (`LocatesIn`)
pub data ReadsContents {A : Type 0} (reads : List ℕ → Result A Error → Type 0) (e : Extension)
    (result : Result (Option (Known A)) DerError) : Type 0 where
  read : (k : Known A) → reads e.extn_value.octets.now (Ok k.value)
      → ((k.critical ≡ true) ↔ (e.critical.0.octets.now ≡ 255 ∷ [])) → result ≡ Ok (Some k)
      → ReadsContents reads e result
  refused : (error : Error) (code : DerError) → reads e.extn_value.octets.now (Err error)
      → LocatesIn e.extn_value.octets.now error code → result ≡ Err code
      → ReadsContents reads e result

-- the outcome for the extensions of a type; if there are several, it is `SetDuplicate`
abbrev pub TypeAnswer : {A : Type 0} → (List ℕ → Result A Error → Type 0) → List Extension
    → Result (Option (Known A)) DerError → Type 0
TypeAnswer reads [] result = result ≡ Ok None
TypeAnswer reads (e ∷ []) result = ReadsContents reads e result
TypeAnswer reads (e ∷ f ∷ es) result = result ≡ Err (error_code (error_of_kind SetDuplicate))

-- the octets are the encodings of extensions; the outcome for those with this object identifier
pub record FindsInList {A : Type 0} (valid : Extension → Type 0) (encoding : Extension → List ℕ)
    (reads : List ℕ → Result A Error → Type 0) (oid octets : List ℕ)
    (result : Result (Option (Known A)) DerError) : Type 0 where
  pub list : IsListOf valid encoding octets
  pub answer : TypeAnswer reads (of_type (λ e. e.extn_id.octets.now) oid list.items) result

-- the octets are not a list of extensions, or the extension is looked up in the list
pub data FindsType {A : Type 0} (Refuses : List ℕ → Error → Type 0) (valid : Extension → Type 0)
    (encoding : Extension → List ℕ) (reads : List ℕ → Result A Error → Type 0) (oid octets : List ℕ)
    (result : Result (Option (Known A)) DerError) : Type 0 where
  no_list : (e : Error) → Refuses octets e → result ≡ Err (error_code e)
      → FindsType Refuses valid encoding reads oid octets result
  in_list : FindsInList valid encoding reads oid octets result
      → FindsType Refuses valid encoding reads oid octets result

-- the result of a lookup, with its error as C sees it; a type that occurs more than once is
-- `SetDuplicate`
abbrev pub found_answer : {A : Type 0} → Result A FindError → Result A DerError
found_answer (Ok found) = Ok found
found_answer (Err Repeated) = Err (error_code (error_of_kind SetDuplicate))
found_answer (Err (Contents e)) = Err (error_code e)

-- the octets are not a list of extensions, or the extension is looked up in the list
pub data FindsIn {A : Type 0} (Refuses : List ℕ → Error → Type 0)
    (finds : List ℕ → Result A FindError → Type 0) (octets : List ℕ) (result : Result A DerError)
    : Type 0 where
  no_list : (e : Error) → Refuses octets e → result ≡ Err (error_code e)
      → FindsIn Refuses finds octets result
  in_list : (answer : Result A FindError) → finds octets answer
      → result ≡ found_answer answer → FindsIn Refuses finds octets result

-- the extension is absent or found, and the struct is that of it; or there is an error, and the
-- struct is unchanged
pub data ReadsKnown {A S : Type 0} (finds : Result (Option (Known A)) DerError → Type 0)
    (IsOf : Option (Known A) → S → Type 0) (result : DerError) (old new : S) : Type 0 where
  found : (k : Option (Known A)) → finds (Ok k) → IsOf k new → result ≡ no_error
      → ReadsKnown finds IsOf result old new
  refused : finds (Err result) → new ≡ old → ReadsKnown finds IsOf result old new

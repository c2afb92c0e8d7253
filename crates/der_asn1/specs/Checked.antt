-- Checked octets borrowed from the input: those that pass a check (`HasCheckedContents`) are
-- accepted as contents after a header of the type's form (`AcceptsCheckedContents`); others are an
-- error at the position after them (`CheckedContentsRead`).
use Rattle.std.specs.Prelude.{◌≡◌, ℕ, ◌^◌, ◌<◌, Bool, true, List, length, Result, Ok, if◌then◌else◌}
use Rattle.std.proofs.Common.{arith, refl, subst, sym}
use Rattle.der.specs.Prelude.{checked_length, Head, number, Tag, Length, Error, EncodingRules}
use Rattle.der.specs.Prelude.{WriterAnswer, IsLawful, Gives, map_ok, read_slice_outcome}
use Rattle.der.specs.Prelude.{ReaderState, Writes, write_outcome}
use Rattle.der.specs.Tag.{label}
use Rattle.der.specs.ErrorKinds.{Value}
use Rattle.der.specs.Outcome.{Outcome, outcome_of, chained_outcome}
use Rattle.der.specs.Reader.{kind_outcome}
use Rattle.der_asn1.specs.HeaderForm.{FormedRead, HasForm}

-- the contents of a value pass the check
abbrev pub HasCheckedContents : {A : Type 0} → (List ℕ → Bool) → (A → List ℕ) → A → Type 0
HasCheckedContents grammar contents v = grammar (contents v) ≡ true

-- octets that pass the check are the contents of the value, after a header of the form of the tag
abbrev pub AcceptsCheckedContents : {A : Type 0} → Tag → (List ℕ → Bool) → (A → List ℕ) → A
    → EncodingRules → Head → List ℕ → Type 0
AcceptsCheckedContents tag grammar contents v rules h octets =
    HasForm tag h × (grammar octets ≡ true) × (contents v ≡ octets)

-- the octets if they pass the check, or else an error after them
abbrev pub checked_outcome : (List ℕ → Bool) → Tag → List ℕ → ReaderState → Outcome (List ℕ)
checked_outcome grammar tag octets s =
    if grammar octets then outcome_of (Ok octets) s else kind_outcome (List ℕ) (Value tag) s

abbrev pub read_checked_outcome : (List ℕ → Bool) → Tag → ℕ → ReaderState → Outcome (List ℕ)
read_checked_outcome grammar tag n s = chained_outcome (read_slice_outcome n s)
    (checked_outcome grammar tag)

-- the possible results of reading checked contents after a header
abbrev pub CheckedContentsRead : {A : Type 0} → (List ℕ → Bool) → Tag → (A → List ℕ) → Head
    → ReaderState
    → Result A Error → ReaderState → Type 0
CheckedContentsRead grammar tag contents =
    FormedRead tag (λ e f. f ≡ e) (λ h s result t.
    Gives (read_checked_outcome grammar tag (number h.length)) s (map_ok contents result) t)

abbrev pub contents_size : List ℕ → Result Length Error
contents_size octets = checked_length (length octets)

-- the possible results of writing octets unchanged
abbrev pub ContentsWritten : List ℕ → WriterAnswer
ContentsWritten octets s result t = Writes (write_outcome octets s) result t

-- types with checked contents are lawful
pub checked_contents_lawful : {A : Type 0} (tag : Tag) (grammar : List ℕ → Bool)
    (contents : A → List ℕ)
    → (label tag).number < 2 ^ 32
    → IsLawful tag (AcceptsCheckedContents tag grammar contents)
    (HasCheckedContents grammar contents) contents (λ _. 0)
checked_contents_lawful tag grammar contents numbered =
    record {
      exact = λ octets v short. (
        λ h. (subst (λ x. grammar x ≡ true) (sym h.2) h.1, h.2),
        λ h. (refl, subst (λ x. grammar x ≡ true) h.1 h.0, h.1),
      );
      shallow = omega arith;
      numbered = numbered;
    }

-- The form of a header: primitive or constructed, as a tag says (`HasForm`). An OCTET STRING in
-- segments has a constructed header (X.690 8.7.3), and its tag is primitive. Contents after a header
-- of the other form are not accepted (`TakesFormed`), but are an error (`RefusesForm`,
-- `FormedRead`).
use Rattle.std.specs.Prelude.{◌≡◌, ◌≢◌, ℕ, ◌-◌, List, Result, Err}
use Rattle.std.proofs.Common.{refl}
use Rattle.der.specs.Error.{error_at}
use Rattle.der.specs.ErrorKinds.{Noncanonical}
use Rattle.der.specs.Prelude.{EncodingRules, Error, Head, IsLawful, ReaderState, Tag, definite_length}
use Rattle.der.specs.Tag.{label}

-- the header is constructed if the tag is, and primitive if the tag is (X.690 8.1.2.5)
abbrev pub HasForm : Tag → Head → Type 0
HasForm tag h = h.constructed ≡ (label tag).constructed

-- contents are accepted after a header of the form of the tag alone
abbrev pub TakesFormed : {A : Type 0} → Tag → (A → EncodingRules → Head → List ℕ → Type 0) → A
    → EncodingRules → Head → List ℕ → Type 0
TakesFormed tag takes v rules h octets = HasForm tag h × takes v rules h octets

-- a header of the other form is an error at its last octet; the reader is unchanged
pub record RefusesForm (tag : Tag) (h : Head) (s : ReaderState) (e : Error) (t : ReaderState)
    : Type 0 where
  pub other : h.constructed ≢ (label tag).constructed
  pub reported : e ≡ error_at (Noncanonical h.tag) (definite_length (s.position - 1))
  pub leaves : t ≡ s

-- the result of reading: the error of a header of the other form, or the result for the contents
pub data FormedRead {A E : Type 0} (tag : Tag) (converts : Error → E → Type 0)
    (answers : Head → ReaderState → Result A E → ReaderState → Type 0)
    (h : Head) (s : ReaderState) (result : Result A E) (t : ReaderState) : Type 0 where
  other_form : (e : Error) (f : E) → RefusesForm tag h s e t → converts e f → result ≡ Err f
      → FormedRead tag converts answers h s result t
  own_form : HasForm tag h → answers h s result t → FormedRead tag converts answers h s result t

-- a lawful type that refuses headers of the other form is lawful: under DER it has none
pub formed_lawful : {A : Type 0} {tag : Tag}
    {takes : A → EncodingRules → Head → List ℕ → Type 0} {valid : A → Type 0}
    {contents : A → List ℕ} {levels : EncodingRules → ℕ}
    → IsLawful tag takes valid contents levels
    → IsLawful tag (TakesFormed tag takes) valid contents levels
formed_lawful laws =
    record {
      exact = λ octets v short. (
        λ h. (laws.exact octets v short).0 h.1,
        λ h. (refl, (laws.exact octets v short).1 h),
      );
      shallow = laws.shallow;
      numbered = laws.numbered;
    }

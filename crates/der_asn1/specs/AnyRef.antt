-- An element of any tag, but no OCTET STRING in segments (X.690 8.7.3): the valid ones (`IsAny`),
-- which contents are accepted (`TakesAny`), and the possible results of reading and writing one
-- (`AnyRead`, `AnyWritten`).
use Rattle.std.specs.Prelude.{◌≡◌, ℕ, ◌^◌, ◌<◌, List, length, Result}
use Rattle.std.proofs.Common.{ap}
use Rattle.der.specs.Prelude.{checked_length, Head, number, Length, Error, EncodingRules}
use Rattle.der.specs.Prelude.{WriterAnswer, Gives, map_ok, read_slice_outcome, ReaderState, Writes}
use Rattle.der.specs.Prelude.{write_outcome}
use Rattle.der.specs.Tag.{label}
use Rattle.der_asn1.specs.AnyElement.{IsLawfulChoice}
use Rattle.der_asn1.specs.HeaderForm.{FormedRead, HasForm}
use Rattle.der_asn1.specs.declared.elements.any.AnyRef.{AnyRef}

abbrev pub any_contents : AnyRef → List ℕ
any_contents v = v.contents.now

abbrev pub IsAny : AnyRef → Type 0
IsAny v = (label v.tag).number < 2 ^ 32

-- the value has the tag of the header, which has the form of this tag, and exactly these contents
pub record TakesAny (v : AnyRef) (rules : EncodingRules) (h : Head) (octets : List ℕ) : Type 0 where
  pub tagged : h.tag ≡ v.tag
  pub formed : HasForm v.tag h
  pub same : any_contents v ≡ octets
  pub numbered : (label v.tag).number < 2 ^ 32

abbrev pub AnyRead : Head → ReaderState → Result AnyRef Error → ReaderState → Type 0
AnyRead h =
    FormedRead h.tag (λ e f. f ≡ e) (λ h s result t.
    Gives (read_slice_outcome (number h.length)) s (map_ok any_contents result) t) h

abbrev pub any_size : AnyRef → Result Length Error
any_size v = checked_length (length (any_contents v))

abbrev pub AnyWritten : AnyRef → WriterAnswer
AnyWritten v s result t = Writes (write_outcome (any_contents v) s) result t

-- an element of any tag is lawful
pub any_lawful : IsLawfulChoice (λ v. v.tag) TakesAny IsAny any_contents
any_lawful =
    record {
      exact = λ octets t v short small. (
        λ h. (h.numbered, h.tagged, h.same),
        λ h. record {
          tagged = h.1;
          formed = ap (λ x. (label x).constructed) h.1;
          same = h.2;
          numbered = h.0;
        },
      );
      numbered = λ v is. is;
    }

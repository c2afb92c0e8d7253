-- The contents of an element of any tag as a value of another type (`IsDecodedAs`), and the possible
-- results of decoding it (`DecodesAs`).
use Rattle.std.specs.Prelude.{◌≡◌, ◌≢◌, ℕ, ◌^◌, ◌<◌, ◌≤◌, List, length, Result, IsErrAnd}
use Rattle.der.specs.Decode.{WholeThen}
use Rattle.der.specs.Error.{unexpected_tag}
use Rattle.der.specs.ErrorKinds.{Overflow}
use Rattle.der.specs.Lawful.{definite_head}
use Rattle.der.specs.Prelude.{EncodingRules, Error, Head, ReaderState, Tag, error_of_kind}
use Rattle.der.specs.ReaderState.{initial_state, nested_state}
use Rattle.der_asn1.specs.AnyRef.{any_contents}
use Rattle.der_asn1.specs.declared.elements.any.AnyRef.{AnyRef}

-- the header of the element, with the constructed bit of its tag
abbrev pub any_head : AnyRef → Head
any_head any = definite_head any.tag (length (any_contents any))

-- the element has this tag, and a type accepts its contents as this value
pub record IsDecodedAs {A : Type 0} (tag : Tag) (takes : A → EncodingRules → Head → List ℕ → Type 0)
    (any : AnyRef) (rules : EncodingRules) (v : A) : Type 0 where
  pub tagged : any.tag ≡ tag
  pub taken : takes v rules (any_head any) (any_contents any)

-- a reader inside a part that is all of the octets
abbrev pub inside_state : EncodingRules → List ℕ → ReaderState
inside_state rules octets = nested_state (initial_state rules octets) (length octets)

-- the result of decoding: the element has another tag; it has too many contents octets; or the
-- result for the contents, which must be read to their end
pub data DecodesAs {A E : Type 0} (tag : Tag)
    (answers : Head → ReaderState → Result A E → ReaderState → Type 0)
    (converts : Error → E → Type 0) (any : AnyRef) (rules : EncodingRules) (result : Result A E)
    : Type 0 where
  other_tag : any.tag ≢ tag → IsErrAnd result (λ e. converts (unexpected_tag tag any.tag) e)
      → DecodesAs tag answers converts any rules result
  too_long : any.tag ≡ tag → 2 ^ 32 ≤ length (any_contents any)
      → IsErrAnd result (λ e. converts (error_of_kind Overflow) e)
      → DecodesAs tag answers converts any rules result
  decoded : (answer : Result A E) (t : ReaderState) → any.tag ≡ tag
      → length (any_contents any) < 2 ^ 32
      → answers (any_head any) (inside_state rules (any_contents any)) answer t
      → WholeThen converts answer t result → DecodesAs tag answers converts any rules result

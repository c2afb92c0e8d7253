-- Elements of types without a fixed tag, such as ANY and CHOICE (`AnyElementNext`), the possible
-- results of reading one (`AnyElementRead`), and when such a type is lawful (`IsLawfulChoice`).
use Rattle.std.specs.Prelude.{◌≡◌, ◌↔◌, ℕ, ◌^◌, ◌<◌, true, List, length, Result, Err}
use Rattle.der.specs.Arithmetic.{sans_eoc}
use Rattle.der.specs.ScanGrammar.{BodyFault}
use Rattle.der.specs.Tag.{label}
use Rattle.der.specs.Prelude.{Head, Tag, Error, EncodingRules, Der, ElementNext, head_of}
use Rattle.der.specs.Prelude.{HeaderNext, ReaderState, Header}
use Rattle.der.specs.HeaderGrammar.{HeaderFault}
use Rattle.der.specs.Decode.{Passes, Decodes}
use Rattle.der.specs.Element.{head_sans_eoc}
use Rattle.der.specs.Lawful.{definite_head}
use Rattle.der.specs.Nested.{ValueAnswer}

-- an element of some tag, whose contents are accepted as the value under that tag
pub record AnyElementNext {A : Type 0} (takes : A → EncodingRules → Head → List ℕ → Type 0) (v : A)
    (rules : EncodingRules) (octets : List ℕ) (m : ℕ) : Type 0 where
  pub tag : Tag
  pub element : ElementNext tag takes v rules octets m

-- the result of reading: an error of the header, or the result for the contents
pub data AnyElementRead {T E : Type 0} (converts : Error → E → Type 0)
    (answers : Head → ReaderState → Result T E → ReaderState → Type 0)
    (s : ReaderState) (result : Result T E) (t : ReaderState) : Type 0 where
  no_header : (e : Error) (f : E) → Decodes HeaderNext (HeaderFault BodyFault) true s (Err e) t
      → converts e f → result ≡ Err f → AnyElementRead converts answers s result t
  in_contents : (h : Header) (u : ReaderState) → Passes (HeaderNext h) s u
      → ValueAnswer converts (answers (head_sans_eoc (head_of h))) (λ s. s) (λ t. t)
      (sans_eoc (head_of h).length) u result t
      → AnyElementRead converts answers s result t

-- when a type whose values have different tags is lawful: under DER, contents with a tag are
-- accepted as a value if and only if the value is valid, the tag is the value's, and the contents
-- are those that the value is written as
pub record IsLawfulChoice {A : Type 0} (tag_of : A → Tag)
    (takes : A → EncodingRules → Head → List ℕ → Type 0) (valid : A → Type 0)
    (contents : A → List ℕ) : Type 0 where
  pub exact : (octets : List ℕ) (t : Tag) (v : A) → length octets < 2 ^ 32
      → (label t).number < 2 ^ 32 → takes v Der (definite_head t (length octets)) octets
      ↔ (valid v × (t ≡ tag_of v) × (contents v ≡ octets))
  pub numbered : (v : A) → valid v → (label (tag_of v)).number < 2 ^ 32

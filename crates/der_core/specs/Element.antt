-- Elements (X.690 8.1.1): a header, contents, and end-of-contents octets if the length is
-- indefinite (`ElementNext`); outcomes of reading one (`ElementRead`, and by a closure
-- `ElementReadBy`).
use Rattle.std.specs.Prelude.{◌≡◌, ◌≢◌, ℕ, ◌+◌, Bool, true, false, List, [], ◌++◌, length, drop, Result, Err}
use Rattle.der_base.specs.Arithmetic.{sans_eoc}
use Rattle.der_base.specs.ScanGrammar.{BodyFault}
use Rattle.der_base.specs.Error.{unexpected_tag}
use Rattle.der_base.specs.FixedOctets.{end_of_contents}
use Rattle.der_base.specs.Length.{number, is_indefinite}
use Rattle.der_base.specs.HeaderGrammar.{Head, head, HeadNext, HeaderFault}
use Rattle.der_base.specs.declared.tag.Tag.{Tag}
use Rattle.der_base.specs.declared.error.Error.{Error}
use Rattle.der_base.specs.declared.encoding_rules.EncodingRules.{EncodingRules}
use Rattle.der_core.specs.ReaderState.{ReaderState}
use Rattle.der_core.specs.Decode.{Passes, Decodes}
use Rattle.der_core.specs.Header.{head_of, HeaderNext}
use Rattle.der_core.specs.Nested.{ValueAnswer}
use Rattle.der_core.specs.declared.header.Header.{Header}

-- the header with the length of the contents alone, without the end-of-contents octets
abbrev pub head_sans_eoc : Head → Head
head_sans_eoc h = head h.tag (sans_eoc h.length) h.constructed

-- the end-of-contents octets after indefinite-length contents (8.1.5); nothing after
-- definite-length ones
abbrev pub IsEndOfContents : Bool → List ℕ → Type 0
IsEndOfContents false octets = octets ≡ []
IsEndOfContents true octets = octets ≡ end_of_contents

-- the first m octets of a list are an element with this tag, whose contents are accepted as the
-- value
pub record ElementNext {A : Type 0} (tag : Tag)
    (takes : A → EncodingRules → Head → List ℕ → Type 0) (v : A)
    (rules : EncodingRules) (octets : List ℕ) (m : ℕ) : Type 0 where
  pub says : Head
  pub header : ℕ
  pub contents : List ℕ
  pub eoc : List ℕ
  pub following : List ℕ
  pub next : HeadNext says rules octets header
  pub tagged : says.tag ≡ tag
  pub split : drop header octets ≡ contents ++ (eoc ++ following)
  pub sized : length contents ≡ number (sans_eoc says.length)
  pub has_eoc : IsEndOfContents (is_indefinite says.length) eoc
  pub whole : m ≡ header + (length contents + length eoc)
  pub taken : takes v rules (head_sans_eoc says) contents

-- the number of nesting levels that an element requires: one, and those of its contents
abbrev pub element_levels : (EncodingRules → ℕ) → EncodingRules → ℕ
element_levels levels rules = 1 + levels rules

-- an element is read: its header, its tag, and its contents by a closure
pub data ElementReadBy {P Q T E : Type 0} (tag : Tag) (converts : Error → E → Type 0)
    (post : Head → P → Result T E → Q → Type 0) (before : P → ReaderState)
    (after : Q → ReaderState) (s : ReaderState) (result : Result T E) (t : ReaderState)
    : Type 0 where
  no_header : (e : Error) (f : E) → Decodes HeaderNext (HeaderFault BodyFault) true s (Err e) t
      → converts e f → result ≡ Err f → ElementReadBy tag converts post before after s result t
  other_tag : (h : Header) (f : E) → Passes (HeaderNext h) s t
      → (head_of h).tag ≢ tag → converts (unexpected_tag tag (head_of h).tag) f
      → result ≡ Err f → ElementReadBy tag converts post before after s result t
  in_contents : (h : Header) (u : ReaderState)
      → Passes (HeaderNext h) s u → (head_of h).tag ≡ tag
      → ValueAnswer converts (post (head_sans_eoc (head_of h))) before after
      (sans_eoc (head_of h).length) u result t
      → ElementReadBy tag converts post before after s result t

-- an element is read: its header, its tag, and its contents as a value, by the outcomes of its type
abbrev pub ElementRead : {T E : Type 0} → Tag → (Error → E → Type 0)
    → (Head → ReaderState → Result T E → ReaderState → Type 0)
    → ReaderState → Result T E → ReaderState → Type 0
ElementRead tag converts answers = ElementReadBy tag converts answers (λ s. s) (λ t. t)

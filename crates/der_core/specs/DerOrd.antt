-- Results of comparing values by their encodings (X.690 11.6): `element_order` has the cases of
-- `der_cmp` for elements; `IsOrderly` and `OrdersContents` are the conditions under which it is
-- byte order.
use Rattle.std.specs.Prelude.{◌≡◌, ◌≢◌, ℕ, ◌-◌, List, ◌++◌, length, replicate, Result, Ok, Err}
use Rattle.std.specs.declared.cmp.Ordering.{Ordering}
use Rattle.std.specs.declared.cmp.Ordering.TheVariants.{Less, Equal, Greater}
use Rattle.der_base.specs.HeaderGrammar.{header_octets}
use Rattle.der_base.specs.Length.{number}
use Rattle.der_base.specs.Order.{byte_order}
use Rattle.der_base.specs.declared.error.Error.{Error}
use Rattle.der_base.specs.declared.length.Length.{Length}
use Rattle.der_base.specs.declared.tag.Tag.{Tag}
use Rattle.der_core.specs.Encode.{element_octets}

-- the octets of a tag padded with zeros to six, the most that a tag has
abbrev pub six_octets : List ℕ → List ℕ
six_octets octets = octets ++ replicate (6 - length octets) 0

-- the result of a comparison
abbrev pub Compared : Type 0
Compared = Result Ordering Error

-- an ordering, or another result if it is `Equal`
abbrev pub then_compared : Ordering → Compared → Compared
then_compared Less more = Ok Less
then_compared Equal more = more
then_compared Greater more = Ok Greater

-- the comparison of two elements, given their tags, the results of counting their contents octets,
-- and the result of comparing the contents: the first error of counting; otherwise the byte order
-- of the headers decides, and if they are equal, the contents
abbrev pub element_order : Tag → Tag → Result Length Error → Result Length Error → Compared
    → Compared
element_order t u (Ok m) (Ok n) contents =
    then_compared (byte_order (header_octets t (number m)) (header_octets u (number n))) contents
element_order t u (Ok m) (Err e) contents = Err e
element_order t u (Err e) n contents = Err e

-- two contents are compared in byte order if their tags are equal and the contents have equal
-- lengths
abbrev pub AreOrderly : Tag → Tag → List ℕ → List ℕ → Compared → Type 0
AreOrderly t u c d answer = t ≡ u → length c ≡ length d → answer ≡ Ok (byte_order c d)

-- the contents of any two values of a type satisfy `AreOrderly`
abbrev pub IsOrderly : {A : Type 0} → (A → Tag) → (A → List ℕ) → (A → A → Compared) → Type 0
IsOrderly {A} tag_of contents order =
    (v w : A) → AreOrderly (tag_of v) (tag_of w) (contents v) (contents w) (order v w)

-- values compare as their contents do in byte order, if these have equal lengths
abbrev pub OrdersContents : {A : Type 0} → (A → List ℕ) → (A → A → Ordering) → Type 0
OrdersContents {A} contents order =
    (v w : A) → length (contents v) ≡ length (contents w)
    → order v w ≡ byte_order (contents v) (contents w)

-- no encoded element is a proper prefix of another
abbrev pub NoElementBeginsAnother : Type 0
NoElementBeginsAnother =
    (t u : Tag) (c d x y : List ℕ) → element_octets t c ++ x ≡ element_octets u d ++ y
    → (t ≡ u) × (c ≡ d) × (x ≡ y)

-- octets after two different elements do not affect which is the smaller (X.690 11.6)
abbrev pub PaddingNeverDecides : Type 0
PaddingNeverDecides =
    (t u : Tag) (c d x y : List ℕ) → element_octets t c ≢ element_octets u d
    → byte_order (element_octets t c ++ x) (element_octets u d ++ y)
    ≡ byte_order (element_octets t c) (element_octets u d)

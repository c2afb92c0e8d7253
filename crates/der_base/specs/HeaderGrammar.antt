-- Tags, lengths and headers at the start of octets, and why octets do not begin with one (X.690
-- 8.1.2, 8.1.3, 10.1): `IdentifierNext`, `TagNext`, `LengthNext` and `HeadNext`, whose first
-- argument is the value, `LengthFault` and `HeaderFault`. `Head` is the content of a header.
use Rattle.std.specs.Prelude.{◌≡◌, ◌≢◌, ℕ, ◌+◌, ◌^◌, ◌<◌, ◌≤◌, Bool, true, false, List, [], ◌∷◌, ◌++◌, length}
use Rattle.der_base.specs.FixedOctets.{indefinite_octet, long_form}
use Rattle.der_base.specs.Length.{is_indefinite, definite_length, indefinite_length, digits, length_octets}
use Rattle.der_base.specs.Tag.{tag_octets, IsIdentifier, IdentifierFault}
use Rattle.der_base.specs.Body.{Body}
use Rattle.der_base.specs.Error.{Refusal, refusal, end_refusal}
use Rattle.der_base.specs.declared.length.Length.{Length}
use Rattle.der_base.specs.declared.tag.Tag.{Tag}
use Rattle.der_base.specs.declared.error.ErrorKind.{ErrorKind}
use Rattle.der_base.specs.declared.error.ErrorKind.TheVariants.{IndefiniteLength, Length as IncorrectLength}
use Rattle.der_base.specs.declared.encoding_rules.EncodingRules.{EncodingRules}
use Rattle.der_base.specs.declared.encoding_rules.EncodingRules.TheVariants.{Ber, Der}

-- the identifier octets of a tag, followed by the length octets of n
abbrev pub header_octets : Tag → ℕ → List ℕ
header_octets t n = tag_octets t ++ length_octets n

-- the first m octets of a list are the identifier of a tag with a constructed bit
pub data IdentifierNext (x : Tag × Bool) (rules : EncodingRules) : List ℕ → ℕ → Type 0 where
  identifier : {id : List ℕ} (rest : List ℕ) → IsIdentifier rules id x.0 x.1
      → IdentifierNext x rules (id ++ rest) (length id)

-- the first m octets of a list are an identifier of this tag, with either constructed bit
abbrev pub TagNext : Tag → EncodingRules → List ℕ → ℕ → Type 0
TagNext t rules octets m = (b : Bool) × IdentifierNext (t, b) rules octets m

-- the first m octets of a list are a length: a definite one, or under BER octet `0x80` followed by
-- a body, whose octets it counts (8.1.3.6)
pub data LengthNext : Length → EncodingRules → List ℕ → ℕ → Type 0 where
  definite : {rules : EncodingRules} (n : ℕ) (rest : List ℕ) → n < 2 ^ 32
      → LengthNext (definite_length n) rules (length_octets n ++ rest) (length (length_octets n))
  indefinite : {parts : ℕ} {body : List ℕ} (rest : List ℕ) → Body 1 parts body
      → LengthNext (indefinite_length (length body)) Ber (indefinite_octet ∷ (body ++ rest)) 1

-- the content of a header: a tag, a length, and the constructed bit of the identifier
pub record Head : Type 0 where
  pub tag : Tag
  pub length : Length
  pub constructed : Bool

abbrev pub head : Tag → Length → Bool → Head
head t l b = record { tag = t; length = l; constructed = b }

-- the first m octets of a list are a header: an identifier and a length, which is indefinite only
-- if the identifier is constructed (8.1.3.2)
pub data HeadNext (h : Head) (rules : EncodingRules) : List ℕ → ℕ → Type 0 where
  header : {id more : List ℕ} {m : ℕ} → IsIdentifier rules id h.tag h.constructed
      → LengthNext h.length rules more m
      → (is_indefinite h.length ≡ true → h.constructed ≡ true)
      → HeadNext h rules (id ++ more) (length id + m)

-- why octets at a position do not begin with a length; an encoding with more than four octets after
-- the first is an error of kind `wrong` after its first octet; one that is not the shortest is an
-- error of kind `wrong` after all its octets; the fault of a body is found by scanning ahead, and
-- the reader stays after octet `0x80`
pub data LengthFault (BodyFault : ℕ → List ℕ → Refusal → Type 0) (wrong : ErrorKind)
    (rules : EncodingRules) (at : ℕ) : List ℕ → Refusal → Type 0 where
  nothing : LengthFault BodyFault wrong rules at [] (end_refusal at)
  few : (k : ℕ) (ds : List ℕ) → k ≤ 4 → length ds < k
      → LengthFault BodyFault wrong rules at (long_form k ∷ ds) (end_refusal (at + 1 + length ds))
  far : (o : ℕ) (rest : List ℕ) → long_form 5 ≤ o
      → LengthFault BodyFault wrong rules at (o ∷ rest) (refusal wrong (at + 1))
  longer : (k : ℕ) (ds rest : List ℕ) → 1 ≤ k → k ≤ 4 → length ds ≡ k
      → ((n : ℕ) → 128 ≤ n → ds ≢ digits 256 n)
      → LengthFault BodyFault wrong rules at (long_form k ∷ (ds ++ rest))
      (refusal wrong (at + 1 + k))
  indefinite_form : rules ≡ Der → (rest : List ℕ)
      → LengthFault BodyFault wrong rules at (indefinite_octet ∷ rest)
      (refusal IndefiniteLength (at + 1))
  no_body : {r : Refusal} → rules ≡ Ber → (rest : List ℕ) → BodyFault (at + 1) rest r
      → LengthFault BodyFault wrong rules at (indefinite_octet ∷ rest)
      (record r { position = at + 1; fails = false })

-- why octets at a position do not begin with a header: no identifier; an identifier and no length
-- after it; or a primitive identifier and an indefinite length, whose error is after octet `0x80`
pub data HeaderFault (BodyFault : ℕ → List ℕ → Refusal → Type 0) (rules : EncodingRules) (at : ℕ)
    : List ℕ → Refusal → Type 0 where
  no_identifier : {s : List ℕ} {r : Refusal} → IdentifierFault rules at s r
      → HeaderFault BodyFault rules at s r
  no_length : {id more : List ℕ} {t : Tag} {b : Bool} {r : Refusal} → IsIdentifier rules id t b
      → LengthFault BodyFault (IncorrectLength t) rules (at + length id) more r
      → HeaderFault BodyFault rules at (id ++ more) r
  primitive : {id more : List ℕ} {t : Tag} {l : Length} {m : ℕ} → IsIdentifier rules id t false
      → LengthNext l rules more m → is_indefinite l ≡ true
      → HeaderFault BodyFault rules at (id ++ more) (refusal IndefiniteLength (at + length id + m))

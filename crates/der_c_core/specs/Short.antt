-- An element that is there as a whole, with a definite length and a tag of one octet
-- (`IsShortElement`), its header (`IsShortHeader`), and its value (`IsShortValue`). `DeterminesTag` says that the first octet of a
-- header determines its tag.
use Rattle.std.specs.Prelude.{◌≡◌, ◌≢◌, ℕ, ◌∷◌, ◌++◌, ◌+◌, ◌-◌, ◌^◌, ◌<◌, ◌≤◌, ◌%◌, List, length, take, drop, false}
use Rattle.der_base.specs.FixedOctets.{high_number, segments_octet}
use Rattle.der_base.specs.Length.{definite_length, length_octets}
use Rattle.der_base.specs.Tag.{is_constructed}
use Rattle.der_base.specs.declared.tag.Tag.{Tag}
use Rattle.der_core.specs.ReaderState.{ReaderState, rest_of}
use Rattle.der_core.specs.AfterFirstOctet.{IsAlone}
use Rattle.der_core.specs.Decode.{Passes}
use Rattle.der_core.specs.Header.{head_of, HeaderNext}
use Rattle.der_core.specs.declared.header.Header.{Header}
use Rattle.der_c_core.specs.TagWord.{tag_word}
use Rattle.der_c_core.specs.declared.element.DerElement.{DerElement}
use Rattle.der_c_core.specs.declared.short.ShortHeader.{ShortHeader}

-- an octet that is a whole identifier, and the word of its tag
abbrev pub IsPlain : ℕ → Type 0
IsPlain o = IsAlone o × (o % 32 < high_number) × (o ≢ segments_octet)

-- the next octets are this header: an identifier of one octet, and a definite length
pub record IsShortHeader (h : ShortHeader) (s : ReaderState) : Type 0 where
  pub working : s.failed ≡ false
  pub plain : IsPlain h.first
  pub few : h.count < 2 ^ 32
  pub more : List ℕ
  pub next : rest_of s ≡ h.first ∷ (length_octets h.count ++ more)
  pub size : h.size ≡ 1 + length (length_octets h.count)

-- the next element has the identifier `o`, and its contents lie between two positions
pub record IsShortElement (o from to : ℕ) (s : ReaderState) : Type 0 where
  pub header : Header
  pub passed : Passes (HeaderNext header) s (record s { position = from })
  pub word : tag_word (head_of header).tag ≡ o
  pub length : (head_of header).length ≡ definite_length (to - from)
  pub constructed : (head_of header).constructed ≡ is_constructed o
  pub ordered : from ≤ to
  pub there : to ≤ s.end

-- the element with this identifier, which begins at `at`, with its contents between two positions
pub record IsShortValue (octets : List ℕ) (at o from to : ℕ) (e : DerElement) : Type 0 where
  pub contents : e.contents.now ≡ take (to - from) (drop from octets)
  pub tag : e.tag ≡ o
  pub start : e.start ≡ at
  pub contents_start : e.contents_start ≡ from
  pub constructed : e.constructed ≡ is_constructed o
  pub indefinite : e.indefinite ≡ false

-- the octet is the next one, if the reader has not failed and is not at its end
abbrev pub IsNextOctet : ReaderState → ℕ → Type 0
IsNextOctet s o =
    s.failed ≡ false → (p : ℕ) (more : List ℕ) → rest_of s ≡ p ∷ more → o ≡ p

-- the octet is the word of the tag, unless it is that of a segmented OCTET STRING or announces the
-- long form
abbrev pub DeterminesTag : ℕ → Tag → Type 0
DeterminesTag o t = o % 32 < high_number → o ≢ segments_octet → o ≡ tag_word t

-- Contents that are copied or joined from segments (`HasSegments`, `TakesParts`); `ReadsParts` and
-- `RefusesParts` are the possible results of `decode_value_parts`.
use Rattle.std.specs.Prelude.{◌≡◌, ℕ, ◌-◌, true, false, List, Result, Ok, Err}
use Rattle.der_base.specs.Error.{error_at}
use Rattle.der_base.specs.HeaderGrammar.{Head}
use Rattle.der_base.specs.Length.{number, definite_length}
use Rattle.der_base.specs.declared.tag.Tag.{Tag}
use Rattle.der_base.specs.declared.error.Error.{Error}
use Rattle.der_base.specs.declared.error.ErrorKind.TheVariants.{Noncanonical}
use Rattle.der_base.specs.declared.encoding_rules.EncodingRules.{EncodingRules}
use Rattle.der_base.specs.declared.encoding_rules.EncodingRules.TheVariants.{Ber, Der}
use Rattle.der_core.specs.Outcome.{Gives}
use Rattle.der_core.specs.Reader.{read_slice_outcome, VecRefused}
use Rattle.der_core.specs.ReaderState.{ReaderState}
use Rattle.der.specs.Joined.{Joined}
use Rattle.der.specs.Joining.{JoinsAll, RefusesJoining}

-- the contents after a header are segments (X.690 8.7.3): it is constructed, and the rules are BER
pub record HasSegments (h : Head) (rules : EncodingRules) : Type 0 where
  pub bit : h.constructed ≡ true
  pub ber : rules ≡ Ber

-- the number of levels in which segments of contents may be nested: at most 64 nested parts, of
-- which the reader of contents is already inside one
abbrev pub levels_inside : ℕ
levels_inside = 63

-- the value is the contents after a primitive header, or what their segments are joined to
pub data TakesParts (tag : Tag) (out : List ℕ) (rules : EncodingRules) (h : Head)
    (octets : List ℕ) : Type 0 where
  as_contents : h.constructed ≡ false → out ≡ octets → TakesParts tag out rules h octets
  as_segments : HasSegments h rules → Joined tag levels_inside octets out
      → TakesParts tag out rules h octets

-- contents are read: the octets after a primitive header, or what the segments are joined to
pub data ReadsParts (tag : Tag) (h : Head) (s : ReaderState) (out : List ℕ) (t : ReaderState)
    : Type 0 where
  reads_octets : h.constructed ≡ false
      → Gives (read_slice_outcome (number h.length)) s (Ok out) t → ReadsParts tag h s out t
  reads_segments : HasSegments h s.rules → JoinsAll h.length tag s out t → ReadsParts tag h s out t

-- reading contents fails: their octets or segments cannot be read; or the header is constructed
-- under DER, which is an error at the last octet of the header, and the reader has not failed
pub data RefusesParts (tag : Tag) (h : Head) (s : ReaderState) (e : Error) (t : ReaderState)
    : Type 0 where
  no_octets : h.constructed ≡ false → VecRefused (number h.length) s e t
      → RefusesParts tag h s e t
  no_segments : HasSegments h s.rules → RefusesJoining h.length tag s e t
      → RefusesParts tag h s e t
  not_in_segments : h.constructed ≡ true → s.rules ≡ Der
      → e ≡ error_at (Noncanonical h.tag) (definite_length (s.position - 1)) → t ≡ s
      → RefusesParts tag h s e t

-- reading contents returns a value or fails
abbrev pub PartsRead : {A : Type 0} → Tag → (A → List ℕ)
    → Head → ReaderState → Result A Error → ReaderState → Type 0
PartsRead tag octets_of h s (Ok v) t = ReadsParts tag h s (octets_of v) t
PartsRead tag octets_of h s (Err e) t = RefusesParts tag h s e t

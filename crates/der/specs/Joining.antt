-- The possible results of joining segments: `JoinsAll` and `RefusesJoining` are those of
-- `read_constructed_vec`. While it reads, octets are appended (`AppendsOctets`, `AppendsJoined`),
-- or it fails (`RefusesSegment`, `RefusesSegments`).
use Rattle.std.specs.Prelude.{◌≡◌, ◌≢◌, ℕ, ◌+◌, ◌-◌, ◌<◌, ◌≤◌, ◌⊎◌, true, false, List, ◌++◌, length, take, Err}
use Rattle.der_base.specs.Arithmetic.{sans_eoc}
use Rattle.der_base.specs.ScanGrammar.{BodyFault}
use Rattle.der_base.specs.Error.{error_at, error_of_kind, unexpected_tag}
use Rattle.der_base.specs.Length.{number, is_indefinite, definite_length}
use Rattle.der_base.specs.HeaderGrammar.{HeaderFault}
use Rattle.der_base.specs.declared.length.Length.{Length}
use Rattle.der_base.specs.declared.tag.Tag.{Tag}
use Rattle.der_base.specs.declared.error.Error.{Error}
use Rattle.der_base.specs.declared.error.ErrorKind.TheVariants.{IndefiniteLength, Noncanonical, OutOfMemory}
use Rattle.der_base.specs.declared.encoding_rules.EncodingRules.{EncodingRules}
use Rattle.der_base.specs.declared.encoding_rules.EncodingRules.TheVariants.{Ber, Der}
use Rattle.der_core.specs.ReaderState.{ReaderState, rest_of, reader_position, advanced_state, nested_state, resumed_state, stopped_state, Reads}
use Rattle.der_core.specs.Outcome.{Gives}
use Rattle.der_core.specs.Reader.{VecRefused, enter_nested_outcome}
use Rattle.der_core.specs.Nested.{CanNest}
use Rattle.der_core.specs.Decode.{Passes, IsRefusedBy}
use Rattle.der_core.specs.Header.{head_of, HeaderNext}
use Rattle.der_core.specs.declared.header.Header.{Header}
use Rattle.der.specs.Joined.{Joined}

-- the number of levels in which segments may be nested: those that a BER reader can still enter,
-- and none under DER
abbrev pub levels_at : EncodingRules → ℕ → ℕ
levels_at Ber depth = 64 - depth
levels_at Der depth = 0

-- the number of levels left in a reader
abbrev pub levels_left : ReaderState → ℕ
levels_left s = levels_at s.rules s.depth

-- the contents may be segments: after any length under BER, and only after an indefinite one under
-- DER
abbrev pub MayJoin : Length → EncodingRules → Type 0
MayJoin l rules = (rules ≡ Ber) ⊎ (is_indefinite l ≡ true)

-- the next n octets are available, and are appended
pub record AppendsOctets (n : ℕ) (s : ReaderState) (old new : List ℕ) (t : ReaderState)
    : Type 0 where
  pub there : s.position + n ≤ s.end
  pub appended : new ≡ old ++ take n (rest_of s)
  pub leaves : t ≡ advanced_state s n

-- segments are read, and the octets they are joined to are appended
pub record AppendsJoined (tag : Tag) (levels : ℕ) (s : ReaderState) (old new : List ℕ)
    (t : ReaderState) : Type 0 where
  pub octets : List ℕ
  pub out : List ℕ
  pub reads : Reads s t octets
  pub joined : Joined tag levels octets out
  pub appended : new ≡ old ++ out

-- all octets that were left are joined, and the reader is at the end
pub record JoinsAll (l : Length) (tag : Tag) (s : ReaderState) (out : List ℕ) (t : ReaderState)
    : Type 0 where
  pub may_join : MayJoin l s.rules
  pub joined : Joined tag (levels_left s) (rest_of s) out
  pub leaves : t ≡ advanced_state s (length (rest_of s))

-- the header of an element with this tag is read
pub record PassesTagged (tag : Tag) (h : Header) (s u : ReaderState) : Type 0 where
  pub passes : Passes (HeaderNext h) s u
  pub tagged : (head_of h).tag ≡ tag

-- the header of a segment is read, and under DER it is primitive
pub record PassesSegmentHeader (tag : Tag) (h : Header) (s u : ReaderState) : Type 0 where
  pub passes : PassesTagged tag h s u
  pub primitive : s.rules ≡ Der → (head_of h).constructed ≡ false

-- a constructed header under DER is an error at the octet before the position; the reader is
-- unchanged
pub record RefusesConstructed (h : Header) (s : ReaderState) (e : Error) (t : ReaderState)
    : Type 0 where
  pub under_der : s.rules ≡ Der
  pub bit : (head_of h).constructed ≡ true
  pub reported : e ≡ error_at (Noncanonical (head_of h).tag) (definite_length (s.position - 1))
  pub leaves : t ≡ s

-- reading the header of a segment fails: it is no header; it has another tag, and the reader is
-- after it; or it is constructed, under DER
pub data RefusesSegmentHeader (tag : Tag) (s : ReaderState) (e : Error) (t : ReaderState)
    : Type 0 where
  no_header : IsRefusedBy (HeaderFault BodyFault) s e t → RefusesSegmentHeader tag s e t
  other_tag : (h : Header) → Passes (HeaderNext h) s t → (head_of h).tag ≢ tag
      → e ≡ unexpected_tag tag (head_of h).tag → RefusesSegmentHeader tag s e t
  constructed_segment : (h : Header) (u : ReaderState) → PassesTagged tag h s u
      → RefusesConstructed h u e t → RefusesSegmentHeader tag s e t

-- the length of the contents in a header, without end-of-contents octets
abbrev pub contents_number : Header → ℕ
contents_number h = number (sans_eoc (head_of h).length)

mutual
  -- reading a segment fails: its header cannot be read; the octets of a primitive one cannot be
  -- read; a constructed one cannot be entered; or reading the segments inside it fails, and the
  -- reader is where that stopped, with the end and depth of the outer part
  pub data RefusesSegment (tag : Tag) : ReaderState → Error → ReaderState → Type 0 where
    no_segment : {s t : ReaderState} {e : Error} → RefusesSegmentHeader tag s e t
        → RefusesSegment tag s e t
    no_octets : {s t : ReaderState} {e : Error} (h : Header) (u : ReaderState)
        → PassesSegmentHeader tag h s u → (head_of h).constructed ≡ false
        → VecRefused (number (head_of h).length) u e t → RefusesSegment tag s e t
    not_entered : {s t : ReaderState} {e : Error} (h : Header) (u : ReaderState)
        → PassesSegmentHeader tag h s u → (head_of h).constructed ≡ true
        → Gives (enter_nested_outcome (contents_number h)) u (Err e) t → RefusesSegment tag s e t
    refused_inside : {s t : ReaderState} {e : Error} (h : Header) (u v : ReaderState)
        → PassesSegmentHeader tag h s u → (head_of h).constructed ≡ true
        → CanNest u (contents_number h)
        → RefusesSegments tag (nested_state u (contents_number h)) e v
        → t ≡ resumed_state v u.end u.depth → RefusesSegment tag s e t

  -- segments were read and joined, octets are left, and reading the next segment fails
  pub data RefusesSegments (tag : Tag) : ReaderState → Error → ReaderState → Type 0 where
    after_segments : {s t : ReaderState} {e : Error} (u : ReaderState) (octets out : List ℕ)
        → Reads s u octets → Joined tag (levels_left s) octets out → u.position < u.end
        → RefusesSegment tag u e t → RefusesSegments tag s e t

-- joining fails: under DER the length is definite; the allocation for that length fails; or reading
-- a segment fails
pub data RefusesJoining (l : Length) (tag : Tag) (s : ReaderState) (e : Error) (t : ReaderState)
    : Type 0 where
  definite_form : s.rules ≡ Der → is_indefinite l ≡ false
      → e ≡ error_at IndefiniteLength (reader_position s) → t ≡ stopped_state s s.position
      → RefusesJoining l tag s e t
  no_memory : MayJoin l s.rules → e ≡ error_of_kind OutOfMemory → t ≡ s
      → RefusesJoining l tag s e t
  no_segments : MayJoin l s.rules → RefusesSegments tag s e t → RefusesJoining l tag s e t

-- The results of entering the contents of an element in C, and the readers after it:
-- `EntersElement` for an element that is next, `OpensElement` for one that was read.
use Rattle.std.specs.Prelude.{◌≡◌, ◌≢◌, ℕ, ◌+◌, ◌<◌, ◌≤◌, length, true, false}
use Rattle.der_base.specs.Arithmetic.{sans_eoc}
use Rattle.der_base.specs.Error.{error_at, error_of_kind}
use Rattle.der_base.specs.Length.{number, definite_length}
use Rattle.der_base.specs.HeaderGrammar.{Head}
use Rattle.der_base.specs.declared.error.ErrorKind.TheVariants.{Reader, Failed, NestingDepth}
use Rattle.der_core.specs.ReaderState.{ReaderState, reader_position, advanced_state, nested_state, stopped_state}
use Rattle.der_core.specs.Nested.{CanNest}
use Rattle.der_core.specs.Decode.{Passes}
use Rattle.der_core.specs.Header.{head_of, HeaderNext}
use Rattle.der_core.specs.declared.header.Header.{Header}
use Rattle.der_c_core.specs.ErrorCode.{no_error, error_code}
use Rattle.der_c_core.specs.Failure.{Fails, RefusesHeader, RefusesContents}
use Rattle.der_c_core.specs.ElementCalls.{RefusesTag}
use Rattle.der_c_core.specs.TagWord.{tag_word}
use Rattle.der_c_core.specs.CReader.{reader_state}
use Rattle.der_c_core.specs.declared.reader.DerReader.{DerReader}
use Rattle.der_c_core.specs.declared.error.DerError.{DerError}
use Rattle.der_c_core.specs.declared.element.DerElement.{DerElement}

-- the contents are consumed, and the new reader is inside them; or they are truncated; or they are
-- there, and the reader is inside 64 elements
pub data EntersContents (h : Head) (s : ReaderState) (result : DerError) (old new : DerReader)
    (t : ReaderState) : Type 0 where
  missing : Fails (RefusesContents (number h.length) s) result t → new ≡ old
      → EntersContents h s result old new t
  too_deep : s.position + number h.length ≤ s.end → 64 ≤ s.depth
      → result ≡ error_code (error_at NestingDepth (reader_position s))
      → t ≡ stopped_state s s.position → new ≡ old → EntersContents h s result old new t
  entered : CanNest s (number h.length) → result ≡ no_error
      → reader_state new ≡ nested_state s (number (sans_eoc h.length))
      → t ≡ advanced_state s (number h.length) → EntersContents h s result old new t

-- an element with the tag is consumed, and the new reader is inside its contents; or there is an
-- error, as for `ExpectsElement`
pub data EntersElement (word : ℕ) (s : ReaderState) (result : DerError) (old new : DerReader)
    (t : ReaderState) : Type 0 where
  no_header : Fails (RefusesHeader s) result t → new ≡ old → EntersElement word s result old new t
  other_tag : (h : Header) (u : ReaderState) → Passes (HeaderNext h) s u
      → tag_word (head_of h).tag ≢ word
      → RefusesTag word (tag_word (head_of h).tag) s result t → new ≡ old
      → EntersElement word s result old new t
  following : (h : Header) (u : ReaderState) → Passes (HeaderNext h) s u
      → tag_word (head_of h).tag ≡ word → EntersContents (head_of h) u result old new t
      → EntersElement word s result old new t

-- the contents of the element lie in the input
abbrev pub LiesIn : DerElement → ReaderState → Type 0
LiesIn e s = e.contents_start + length e.contents.now ≤ length s.input

-- a reader that has not failed, and is inside fewer than 64 elements, opens an element of its input
abbrev pub CannotOpen : ReaderState → DerElement → Type 0
CannotOpen s e = s.failed ≡ false → LiesIn e s → 64 ≤ s.depth

-- the new reader is at the start of contents that lie in the input; or the reader had failed; or
-- the element is not of this input, which leaves the reader unchanged; or the reader is inside 64
-- elements
pub data OpensElement (s : ReaderState) (e : DerElement) (result : DerError) (old new : DerReader)
    (t : ReaderState) : Type 0 where
  has_failed : s.failed ≡ true → result ≡ error_code (error_at Failed (reader_position s))
      → new ≡ old → t ≡ s → OpensElement s e result old new t
  elsewhere : s.failed ≡ false → length s.input < e.contents_start + length e.contents.now
      → result ≡ error_code (error_of_kind Reader) → new ≡ old → t ≡ s
      → OpensElement s e result old new t
  too_deep : s.failed ≡ false → LiesIn e s → 64 ≤ s.depth
      → result ≡ error_code (error_at NestingDepth (definite_length e.contents_start))
      → new ≡ old → t ≡ stopped_state s s.position → OpensElement s e result old new t
  opened : s.failed ≡ false → LiesIn e s → s.depth < 64 → result ≡ no_error
      → reader_state new ≡ record s {
        end = e.contents_start + length e.contents.now;
        position = e.contents_start;
        depth = s.depth + 1;
      } → t ≡ s → OpensElement s e result old new t

-- The results of reading an element in C, and the readers after it: `ReadsElement`, `SkipsElement`,
-- `ExpectsElement` and `FindsOptional`, each for the function of that name. `MeetsElement` is that of
-- the last two before a tag that does not match is judged.
use Rattle.std.specs.Prelude.{◌≡◌, ◌≢◌, ℕ, ◌/◌, ◌%◌, ◌^◌, Bool, List, take, true, false, Result, Ok, Err}
use Rattle.der_base.specs.Arithmetic.{sans_eoc}
use Rattle.der_base.specs.Length.{number, is_indefinite}
use Rattle.der_base.specs.HeaderGrammar.{Head}
use Rattle.der_base.specs.Error.{error_of_kind}
use Rattle.der_base.specs.declared.error.ErrorKind.TheVariants.{TagNumberInvalid}
use Rattle.der_base.specs.declared.tag.Tag.{Tag}
use Rattle.der_core.specs.ReaderState.{ReaderState, stopped_state}
use Rattle.der_core.specs.Outcome.{Gives}
use Rattle.der_core.specs.Reader.{read_slice_outcome}
use Rattle.der_core.specs.Decode.{Passes}
use Rattle.der_core.specs.Header.{head_of, HeaderNext}
use Rattle.der_core.specs.declared.header.Header.{Header}
use Rattle.der_c_core.specs.ErrorCode.{no_error, error_code, coded}
use Rattle.der_c_core.specs.Failure.{Fails, RefusesHeader, RefusesContents}
use Rattle.der_c_core.specs.TagWord.{tag_word, IsTagWord, NoTagWord}
use Rattle.der_c_core.specs.declared.error.DerError.{DerError}
use Rattle.der_c_core.specs.declared.element.DerElement.{DerElement}

-- the element of the header `h` at position `from`, with its contents at position `following`
pub record IsReturnedElement (h : Head) (octets : List ℕ) (from following : ℕ) (e : DerElement)
    : Type 0 where
  pub contents : e.contents.now ≡ take (number (sans_eoc h.length)) octets
  pub tag : e.tag ≡ tag_word h.tag
  pub start : e.start ≡ from
  pub contents_start : e.contents_start ≡ following
  pub constructed : e.constructed ≡ h.constructed
  pub indefinite : e.indefinite ≡ is_indefinite h.length

-- the contents of a header at position `from` are read, end-of-contents octets included; or they
-- are truncated, which is an error
pub data ReadsContents (h : Head) (from : ℕ) (s : ReaderState) (result : DerError)
    (old new : DerElement) (t : ReaderState) : Type 0 where
  there : (octets : List ℕ) → Gives (read_slice_outcome (number h.length)) s (Ok octets) t
      → result ≡ no_error → IsReturnedElement h octets from s.position new
      → ReadsContents h from s result old new t
  missing : Fails (RefusesContents (number h.length) s) result t → new ≡ old
      → ReadsContents h from s result old new t

-- the header has a fault; or there is a header, and its contents are read
pub data ReadsElement (s : ReaderState) (result : DerError) (old new : DerElement)
    (t : ReaderState) : Type 0 where
  no_header : Fails (RefusesHeader s) result t → new ≡ old → ReadsElement s result old new t
  following : (h : Header) (u : ReaderState) → Passes (HeaderNext h) s u
      → ReadsContents (head_of h) s.position u result old new t → ReadsElement s result old new t

-- an element is consumed, and not returned
pub data SkipsElement (s : ReaderState) (result : DerError) (t : ReaderState) : Type 0 where
  no_header : Fails (RefusesHeader s) result t → SkipsElement s result t
  cut : (h : Header) (u : ReaderState) → Passes (HeaderNext h) s u
      → Fails (RefusesContents (number (head_of h).length) u) result t → SkipsElement s result t
  skipped : (h : Header) (u : ReaderState) (octets : List ℕ) → Passes (HeaderNext h) s u
      → Gives (read_slice_outcome (number (head_of h).length)) u (Ok octets) t
      → result ≡ no_error → SkipsElement s result t

-- the error for an unexpected tag whose header begins at a position, from the words of both tags, of
-- which only 32 bits of a number are kept
abbrev pub unexpected_code : ℕ → ℕ → ℕ → DerError
unexpected_code expected actual at =
    record (coded 17 (expected % 256) (actual % 256) (expected / 256 % 2 ^ 32) (actual / 256 % 2 ^ 32))
    { has_position = true; position = at }

-- the next element has another tag, which leaves the reader unchanged; or the word is that of no tag,
-- and the reader has failed
pub data RefusesTag (word actual : ℕ) (s : ReaderState) (result : DerError) (t : ReaderState)
    : Type 0 where
  unexpected : (tag : Tag) → IsTagWord word tag
      → result ≡ unexpected_code word actual s.position → t ≡ s → RefusesTag word actual s result t
  no_tag : NoTagWord word → result ≡ error_code (error_of_kind TagNumberInvalid)
      → t ≡ stopped_state s s.position → RefusesTag word actual s result t

-- the header has a fault; or the next element has another tag; or it is read
pub data ExpectsElement (word : ℕ) (s : ReaderState) (result : DerError) (old new : DerElement)
    (t : ReaderState) : Type 0 where
  no_header : Fails (RefusesHeader s) result t → new ≡ old → ExpectsElement word s result old new t
  other_tag : (h : Header) (u : ReaderState) → Passes (HeaderNext h) s u
      → tag_word (head_of h).tag ≢ word
      → RefusesTag word (tag_word (head_of h).tag) s result t → new ≡ old
      → ExpectsElement word s result old new t
  following : (h : Header) (u : ReaderState) → Passes (HeaderNext h) s u
      → tag_word (head_of h).tag ≡ word
      → ReadsContents (head_of h) s.position u result old new t
      → ExpectsElement word s result old new t

-- no element with the tag is next: the part is at its end, or another tag is next
pub data IsAbsent (word : ℕ) (s : ReaderState) : Type 0 where
  at_end : s.failed ≡ false → s.position ≡ s.end → IsAbsent word s
  other_tag : (h : Header) (u : ReaderState) (tag : Tag) → Passes (HeaderNext h) s u
      → IsTagWord word tag → tag_word (head_of h).tag ≢ word → IsAbsent word s

-- the header has a fault, or the reader had failed; or no element with the tag is next, and nothing
-- else changes; or an element is next, and the word is that of no tag; or the element is next, and
-- its contents are truncated or read
pub data FindsOptional (word : ℕ) (s : ReaderState) (result : DerError) (old new : DerElement)
    (before present : Bool) (t : ReaderState) : Type 0 where
  no_header : (s.failed ≡ false → s.position ≢ s.end) → Fails (RefusesHeader s) result t
      → new ≡ old → present ≡ before → FindsOptional word s result old new before present t
  absent : IsAbsent word s → result ≡ no_error → new ≡ old → present ≡ false → t ≡ s
      → FindsOptional word s result old new before present t
  no_tag : (h : Header) (u : ReaderState) → Passes (HeaderNext h) s u → NoTagWord word
      → result ≡ error_code (error_of_kind TagNumberInvalid) → new ≡ old → present ≡ before
      → t ≡ stopped_state s s.position → FindsOptional word s result old new before present t
  cut : (h : Header) (u : ReaderState) → Passes (HeaderNext h) s u
      → tag_word (head_of h).tag ≡ word
      → Fails (RefusesContents (number (head_of h).length) u) result t
      → new ≡ old → present ≡ before → FindsOptional word s result old new before present t
  found : (h : Header) (u : ReaderState) (octets : List ℕ) → Passes (HeaderNext h) s u
      → tag_word (head_of h).tag ≡ word
      → Gives (read_slice_outcome (number (head_of h).length)) u (Ok octets) t
      → IsReturnedElement (head_of h) octets s.position u.position new
      → result ≡ no_error → present ≡ true → FindsOptional word s result old new before present t

-- the answer of a call that reads an element if it has this tag: the word of the tag that is next
pub data MeetsElement (word : ℕ) (s : ReaderState) (answer : Result ℕ DerError)
    (old new : DerElement) (t : ReaderState) : Type 0 where
  no_header : (result : DerError) → answer ≡ Err result → Fails (RefusesHeader s) result t
      → new ≡ old → MeetsElement word s answer old new t
  other_tag : (h : Header) (u : ReaderState) → Passes (HeaderNext h) s u
      → tag_word (head_of h).tag ≢ word → answer ≡ Ok (tag_word (head_of h).tag)
      → new ≡ old → t ≡ s → MeetsElement word s answer old new t
  cut : (h : Header) (u : ReaderState) (result : DerError) → Passes (HeaderNext h) s u
      → tag_word (head_of h).tag ≡ word → answer ≡ Err result
      → Fails (RefusesContents (number (head_of h).length) u) result t → new ≡ old
      → MeetsElement word s answer old new t
  met : (h : Header) (u : ReaderState) (octets : List ℕ) → Passes (HeaderNext h) s u
      → tag_word (head_of h).tag ≡ word → answer ≡ Ok word
      → Gives (read_slice_outcome (number (head_of h).length)) u (Ok octets) t
      → IsReturnedElement (head_of h) octets s.position u.position new
      → MeetsElement word s answer old new t

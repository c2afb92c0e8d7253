-- The next tag in C, which is peeked at: `PeeksWord` is its word or why there is none, `PeeksTag` is
-- the result of `der_peek`, and `HasNextTag` says when `der_next_is` is true.
use Rattle.std.specs.Prelude.{◌≡◌, ℕ, Result, Ok, Err}
use Rattle.der_base.specs.Tag.{IdentifierFault}
use Rattle.der_base.specs.HeaderGrammar.{TagNext}
use Rattle.der_base.specs.declared.tag.Tag.{Tag}
use Rattle.der_base.specs.declared.error.Error.{Error}
use Rattle.der_core.specs.ReaderState.{ReaderState}
use Rattle.der_core.specs.Decode.{Passes, IsRefusedBy}
use Rattle.der_c_core.specs.ErrorCode.{no_error, error_code}
use Rattle.der_c_core.specs.TagWord.{tag_word}
use Rattle.der_c_core.specs.declared.error.DerError.{DerError}

-- the reader has not failed, and the next octets are the identifier of the tag with this word
pub record HasNextTag (word : ℕ) (s : ReaderState) : Type 0 where
  pub tag : Tag
  pub after : ReaderState
  pub passed : Passes (TagNext tag) s after
  pub is : tag_word tag ≡ word

-- the reader had failed, or the next octets are no identifier
abbrev pub RefusesTagNext : ReaderState → Error → Type 0
RefusesTagNext s e = (after : ReaderState) × IsRefusedBy IdentifierFault s e after

-- the word of the next tag; or the error that decoding this tag would return
pub data PeeksWord (s : ReaderState) (answer : Result ℕ Error) : Type 0 where
  next : (word : ℕ) → HasNextTag word s → answer ≡ Ok word → PeeksWord s answer
  refused : (e : Error) → RefusesTagNext s e → answer ≡ Err e → PeeksWord s answer

-- the word of the next tag is stored; or the error is returned that decoding this tag would return,
-- and nothing is stored
pub data PeeksTag (s : ReaderState) (result : DerError) (old new : ℕ) : Type 0 where
  next : HasNextTag new s → result ≡ no_error → PeeksTag s result old new
  refused : (e : Error) → RefusesTagNext s e → result ≡ error_code e → new ≡ old
      → PeeksTag s result old new

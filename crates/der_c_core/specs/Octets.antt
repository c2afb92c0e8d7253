-- The whole octets of an element that was read (`GivesOctets`).
use Rattle.std.specs.Prelude.{◌≡◌, ℕ, ◌+◌, ◌-◌, ◌≤◌, List, length, take, drop, true, false, if◌then◌else◌}
use Rattle.der_base.specs.Error.{error_at, error_of_kind}
use Rattle.der_base.specs.declared.error.ErrorKind.TheVariants.{Reader, Failed}
use Rattle.der_core.specs.ReaderState.{ReaderState, reader_position}
use Rattle.der_c_core.specs.ErrorCode.{no_error, error_code}
use Rattle.der_c_core.specs.declared.error.DerError.{DerError}
use Rattle.der_c_core.specs.declared.element.DerElement.{DerElement}
use Rattle.der_c_core.specs.declared.span.DerSpan.{DerSpan}

-- where an element ends: after its contents, and after the two end-of-contents octets of an
-- indefinite length (X.690 8.1.5)
abbrev pub element_end : DerElement → ℕ
element_end e = e.contents_start + length e.contents.now + (if e.indefinite then 2 else 0)

-- start, contents and end of the element lie in the input, in this order
abbrev pub LiesWhole : DerElement → ReaderState → Type 0
LiesWhole e s = (e.start ≤ e.contents_start) × (element_end e ≤ length s.input)

-- the octets of the input from the start of the element to its end
abbrev pub whole_octets : DerElement → ReaderState → List ℕ
whole_octets e s = take (element_end e - e.start) (drop e.start s.input)

-- the octets of the element are returned; or the reader had failed; or the element is not of this
-- input
pub data GivesOctets (s : ReaderState) (e : DerElement) (result : DerError) (old new : DerSpan)
    : Type 0 where
  has_failed : s.failed ≡ true → result ≡ error_code (error_at Failed (reader_position s))
      → new ≡ old → GivesOctets s e result old new
  elsewhere : s.failed ≡ false → (LiesWhole e s → ⊥) → result ≡ error_code (error_of_kind Reader)
      → new ≡ old → GivesOctets s e result old new
  given : s.failed ≡ false → LiesWhole e s → result ≡ no_error
      → new.octets.now ≡ whole_octets e s → GivesOctets s e result old new

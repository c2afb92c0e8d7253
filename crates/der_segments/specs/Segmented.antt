-- An OCTET STRING that is borrowed from the input (X.690 8.7): `segmented_pieces` are the contents
-- of its primitive segments, `segmented_octets` the octets that they are joined to; which contents
-- are accepted (`TakesSegmented`), and the possible results of reading it (`SegmentedRead`) and of
-- writing it (`SegmentedWritten`).
use Rattle.std.specs.Prelude.{◌≡◌, ℕ, ◌-◌, true, false, List, Result, Ok, Err}
use Rattle.std.proofs.Common.{arith, refl, sym, ◌∙◌}
use Rattle.der.specs.ElementSpec.{ElementSpec}
use Rattle.der.specs.Encode.{WriterAnswer}
use Rattle.der.specs.Error.{error_at}
use Rattle.der.specs.ErrorKinds.{Noncanonical}
use Rattle.der.specs.Joining.{RefusesSegments}
use Rattle.der.specs.Octets.{IsCounted}
use Rattle.der.specs.Parts.{HasSegments, ReadsParts, TakesParts, as_contents, as_segments, levels_inside}
use Rattle.der.specs.Prelude.{Ber, Der, EncodingRules, Error, Gives, Head, IsLawful, OctetString, ReaderState, Reads, Writes, definite_length, number, read_slice_outcome}
use Rattle.der.specs.Reader.{remaining_answer}
use Rattle.der.specs.Writer.{write_pieces}
use Rattle.der_segments.specs.Contents.{contents_pieces}
use Rattle.der_segments.specs.Measured.{NotMemory}
use Rattle.der_segments.specs.Pieces.{joined_pieces}
use Rattle.der_segments.specs.declared.segmented.Segmented.{Segmented}

-- the contents of the primitive segments, in order
abbrev pub segmented_pieces : Segmented → List (List ℕ)
segmented_pieces v = contents_pieces v.formed

-- the octets that the segments are joined to
abbrev pub segmented_octets : Segmented → List ℕ
segmented_octets v = joined_pieces (segmented_pieces v)

-- contents are accepted: the octets after a primitive header (8.7.2), or the segments after a
-- constructed one under BER (8.7.3)
abbrev pub TakesSegmented : Segmented → EncodingRules → Head → List ℕ → Type 0
TakesSegmented v rules h octets =
    IsCounted (segmented_octets v) × TakesParts OctetString (segmented_octets v) rules h octets

-- a value was read: its octets, from contents in this form, which it borrows
pub record ReadsSegmented (h : Head) (s : ReaderState) (v : Segmented) (t : ReaderState)
    : Type 0 where
  pub reads : ReadsParts OctetString h s (segmented_octets v) t
  pub form : v.constructed ≡ h.constructed
  pub borrows : Reads s t v.octets.now

-- reading fails: the octets after a primitive header cannot be read; the header is constructed
-- under DER, which is an error at the last octet of the header; the reader had failed; or a segment
-- cannot be read
pub data RefusesSegmented (h : Head) (s : ReaderState) (e : Error) (t : ReaderState)
    : Type 0 where
  no_octets : h.constructed ≡ false → Gives (read_slice_outcome (number h.length)) s (Err e) t
      → RefusesSegmented h s e t
  not_in_segments : h.constructed ≡ true → s.rules ≡ Der
      → e ≡ error_at (Noncanonical h.tag) (definite_length (s.position - 1)) → t ≡ s
      → RefusesSegmented h s e t
  had_failed : HasSegments h s.rules → Err e ≡ remaining_answer s → t ≡ s
      → RefusesSegmented h s e t
  no_segments : HasSegments h s.rules → RefusesSegments OctetString s e t → NotMemory e
      → RefusesSegmented h s e t

-- reading contents returns a value or fails
abbrev pub SegmentedRead : Head → ReaderState → Result Segmented Error → ReaderState → Type 0
SegmentedRead h s (Ok v) t = ReadsSegmented h s v t
SegmentedRead h s (Err e) t = RefusesSegmented h s e t

-- the pieces are written, one write for each
abbrev pub SegmentedWritten : Segmented → WriterAnswer
SegmentedWritten v s result t = Writes (write_pieces (segmented_pieces v) s) result t

-- the levels of nesting that the contents need: none under DER, which has no segments
abbrev pub segmented_levels : EncodingRules → ℕ
segmented_levels Ber = levels_inside
segmented_levels Der = 0

-- the contents of a primitive header are not segments
primitive_contents : {out octets : List ℕ} {rules : EncodingRules} {h : Head}
    → h.constructed ≡ false → TakesParts OctetString out rules h octets → out ≡ octets
primitive_contents bit (as_contents flag same) = same
primitive_contents bit (as_segments segments joined) =
    absurd (let wrong : false ≡ true = sym bit ∙ segments.bit in cc)

-- this type is lawful: under DER its header is primitive, so decoding inverts encoding
pub segmented_lawful : IsLawful OctetString TakesSegmented (λ v. IsCounted (segmented_octets v))
    segmented_octets segmented_levels
segmented_lawful =
    record {
      exact = λ octets v short.
          (λ h. (h.0, primitive_contents refl h.1), λ h. (h.0, as_contents refl h.1));
      shallow = omega arith;
      numbered = omega arith;
    }

-- the specification of its elements
abbrev pub segmented_element : ElementSpec Segmented
segmented_element =
    record {
      tag = OctetString;
      takes = TakesSegmented;
      valid = λ v. IsCounted (segmented_octets v);
      contents = segmented_octets;
      levels = segmented_levels;
      is_compatible = true;
      lawful = λ e. segmented_lawful;
      holds = λ e v rules h octets taken. taken.0;
    }

-- Lemmas: reading segments without copying them reports no failed allocation.
use Rattle.std.proofs.Common.{◌≡◌, ℕ, ◌^◌, Bool, true, false, List, [], ◌∷◌, nat_lt, ◌==◌, refl, sym, subst, if◌then◌else◌}
use Rattle.der_base.specs.Error.{Refusal, missing_refusal, error_at, error_of_kind}
use Rattle.der_base.specs.HeaderGrammar.{LengthFault, nothing, few, far, longer, indefinite_form, no_body, HeaderFault, no_identifier, no_length, primitive}
use Rattle.der_base.specs.Length.{definite_length}
use Rattle.der_base.specs.ScanGrammar.{BodyFault, ScanFault}
use Rattle.der_base.specs.Tag.{IdentifierFault, identifier_kind, cut, refused}
use Rattle.der_base.specs.declared.error.Error.{Error}
use Rattle.der_base.specs.declared.error.ErrorKind.{ErrorKind}
use Rattle.der_base.specs.declared.error.ErrorKind.TheVariants.{TagNumberInvalid, TagUnknown, Incomplete, Overflow}
use Rattle.der_base.specs.declared.encoding_rules.EncodingRules.{EncodingRules}
use Rattle.der_core.specs.Decode.{has_failed, at_fault, is_out_of_memory_kind}
use Rattle.der_core.specs.ReaderState.{ReaderState}
use Rattle.der.specs.Joining.{RefusesSegmentHeader, no_header, other_tag, constructed_segment}
use Rattle.der.specs.Prelude.{Tag}
use Rattle.der_segments.specs.Measured.{NotMemory}

pub not_memory_at : {e f : Error} → e ≡ f → NotMemory f → NotMemory e
not_memory_at same h = subst NotMemory (sym same) h

pub missing_octets : (expected actual p : ℕ) → NotMemory (missing_refusal expected actual p).error
missing_octets expected actual p = go (nat_lt expected (2 ^ 32))
  where
    go : (b : Bool) → NotMemory (if b then error_at (Incomplete (definite_length expected) (definite_length actual)) (definite_length p) else error_of_kind Overflow)
    go true = refl
    go false = refl

no_identifier_kind : (s : List ℕ) (o : ℕ) → is_out_of_memory_kind (identifier_kind s o) ≡ false
no_identifier_kind (first ∷ s) o = refl
no_identifier_kind [] o = go (o == 31)
  where
    go : (b : Bool) → is_out_of_memory_kind (if b then TagNumberInvalid else TagUnknown o) ≡ false
    go true = refl
    go false = refl

identifier_fault : {rules : EncodingRules} {at : ℕ} {s : List ℕ} {r : Refusal} → IdentifierFault rules at s r → NotMemory r.error
identifier_fault (cut s c) = missing_octets _ _ _
identifier_fault (refused s o rest c other) = no_identifier_kind s o

length_fault : {F : ℕ → List ℕ → Refusal → Type 0} → ((at : ℕ) (s : List ℕ) (r : Refusal) → F at s r → NotMemory r.error) → {wrong : ErrorKind} → is_out_of_memory_kind wrong ≡ false
    → {rules : EncodingRules} {at : ℕ} {s : List ℕ} {r : Refusal} → LengthFault F wrong rules at s r → NotMemory r.error
length_fault body not nothing = missing_octets _ _ _
length_fault body not (few k ds h less) = missing_octets _ _ _
length_fault body not (far o rest h) = not
length_fault body not (longer k ds rest h less long other) = not
length_fault body not (indefinite_form der rest) = refl
length_fault body not (no_body {r = r} ber rest f) = body _ rest r f

scan_fault : {level at : ℕ} {s : List ℕ} {r : Refusal} → ScanFault level at s r → NotMemory r.error
scan_fault ScanFault.nothing = missing_octets _ _ _
scan_fault ScanFault.half_eoc = missing_octets _ _ _
scan_fault (ScanFault.no_eoc o rest some) = refl
scan_fault (ScanFault.refused_identifier s o rest some c other) = no_identifier_kind s o
scan_fault (ScanFault.cut_identifier o s c) = missing_octets _ _ _
scan_fault (ScanFault.primitive rest d) = refl
scan_fault (ScanFault.too_deep rest deep d) = refl
scan_fault (ScanFault.no_length d f) = length_fault (λ at s r none. absurd none) refl f
scan_fault (ScanFault.short n rest d small less) = missing_octets _ _ _

header_fault : {rules : EncodingRules} {at : ℕ} {s : List ℕ} {r : Refusal} → HeaderFault BodyFault rules at s r → NotMemory r.error
header_fault (no_identifier f) = identifier_fault f
header_fault (no_length d f) = length_fault (λ at s r b. scan_fault b.stops) refl f
header_fault (primitive d l indefinite) = refl

pub segment_header_refused : {tag : Tag} {s t : ReaderState} {e : Error} → RefusesSegmentHeader tag s e t → NotMemory e
segment_header_refused (no_header (has_failed failed e leaves)) = not_memory_at e refl
segment_header_refused (no_header (at_fault r working f e leaves)) = not_memory_at e (header_fault f)
segment_header_refused (other_tag h p other e) = not_memory_at e refl
segment_header_refused (constructed_segment h u p r) = not_memory_at r.reported refl

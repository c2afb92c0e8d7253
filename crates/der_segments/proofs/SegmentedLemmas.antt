-- Lemmas on a borrowed OCTET STRING, from its contents.
use mathlib.Core.Logic.{∥∥₁_elim, ∥∥₁_map}
use Rattle.std.proofs.Common.{◌≡◌, ℕ, ◌+◌, ◌≤◌, Bool, true, false, Ok, List, [], ◌∷◌, ◌++◌, length, refl, inl, inr, sym, ap, ◌∙◌, subst, append-nil, arith}
use Rattle.std.specs.Coded.{Coded-set, coded_ℕ}
use Rattle.der_core.specs.Outcome.{Gives}
use Rattle.der_core.specs.Reader.{read_slice_outcome}
use Rattle.der_core.specs.Decode.{is_out_of_memory_kind}
use Rattle.der_core.specs.DecodeValue.{IsInside}
use Rattle.der_core.specs.ReaderState.{ReaderState, IsSound, Reads, rest_of}
use Rattle.der.specs.Error.{kind_of}
use Rattle.der.specs.Joined.{Joined}
use Rattle.der.specs.Joining.{levels_left, RefusesJoining, RefusesSegments}
use Rattle.der.specs.Parts.{HasSegments, TakesParts, reads_octets, reads_segments, no_segments}
use Rattle.der.specs.Prelude.{Error, Head, Length, OctetString, number}
use Rattle.der.proofs.JoiningLemmas.{joins_rest, reads_next}
use Rattle.der.proofs.PartsLemmas.{parts_lacking}
use Rattle.der.proofs.RefusedSegmentLemmas.{segments_refused}
use Rattle.der_asn1.proofs.ListAnswerLemmas.{slice_read}
use Rattle.der_asn1.proofs.OptionalReadLemmas.{rest_at_end}
use Rattle.der_segments.specs.Contents.{Contains, IsContents, contents_pieces, has_pieces}
use Rattle.der_segments.specs.Measured.{Measures, NotMemory}
use Rattle.der_segments.specs.PieceLemmas.{pieces_in, pieces_in_are, pieces_of_joined, pieces_prop}
use Rattle.der_segments.specs.Pieces.{joined_pieces, ArePieces, HasPieces}
use Rattle.der_segments.specs.Segmented.{segmented_octets, segmented_levels, ReadsSegmented}
use Rattle.der_segments.specs.declared.segmented.Segmented.{Segmented}
use Rattle.der_segments.proofs.MeasureLemmas.{measures_appends}

-- what contents contain is what their pieces are joined to
pub octets_contained : {constructed : Bool} {octets : List ℕ} {count : ℕ} (t : ∥ IsContents constructed octets count ∥₁) (levels : ℕ) (out : List ℕ) → Contains constructed levels octets out
    → joined_pieces (contents_pieces t) ≡ out
octets_contained {constructed = false} {octets = octets} t levels out h = ap joined_pieces (pieces_in_are {segmented = false} {octets = octets} _ {ps = octets ∷ []} refl) ∙ append-nil octets ∙ sym h
octets_contained {constructed = true} {octets = octets} t levels out h = (let r = pieces_of_joined h in ap joined_pieces (pieces_in_are {segmented = true} {octets = octets} _ {ps = r.0} r.1) ∙ r.2)

-- their number is that which is kept
pub octets_counted : {constructed : Bool} {octets : List ℕ} {count : ℕ} (t : ∥ IsContents constructed octets count ∥₁) → length (joined_pieces (contents_pieces t)) ≡ count
octets_counted {count = count} t = ∥∥₁_elim t (Coded-set coded_ℕ (length (joined_pieces (contents_pieces t))) count) (λ c. ap length (octets_contained t c.levels c.out c.contains) ∙ c.counted)

-- primitive contents were read
pub primitive_read : {h : Head} {s t : ReaderState} {octets : List ℕ} (v : Segmented) → v.constructed ≡ false → v.octets.now ≡ octets → h.constructed ≡ false → IsSound s → (l : Length) → l ≡ h.length
    → Gives (read_slice_outcome (number l)) s (Ok octets) t → ReadsSegmented h s v t
primitive_read {h} {s} {t} {octets} v form same bit sound l is g =
    let here : segmented_octets v ≡ octets = octets_contained v.formed 0 octets (subst (λ b. Contains b 0 v.octets.now octets) (sym form) (sym same)) in
    let r = slice_read g in
    record {
      reads = reads_octets bit (subst (λ x. Gives (read_slice_outcome (number h.length)) s (Ok x) t) (sym here) (subst (λ (x : Length). Gives (read_slice_outcome (number x)) s (Ok octets) t) is g));
      form = form ∙ sym bit;
      borrows = subst (Reads s t) (sym r.front ∙ sym same) (reads_next (number l) s t sound r.fits r.leaves).0;
    }

-- segments were read
pub segments_read : {h : Head} {s t : ReaderState} {n : ℕ} (v : Segmented) → v.constructed ≡ true → v.octets.now ≡ rest_of s → HasSegments h s.rules → Measures s n t → t.end ≡ t.position → ReadsSegmented h s v t
segments_read {h} {s} {t} v form same has m at_end =
    let j = joins_rest (measures_appends m) at_end in
    let here : segmented_octets v ≡ j.out =
    octets_contained v.formed (levels_left s) j.out (subst (λ b. Contains b (levels_left s) v.octets.now j.out) (sym form) (subst (λ x. Joined OctetString (levels_left s) x j.out) (sym same) j.joined)) in
    let all : m.octets ≡ v.octets.now = sym (same ∙ m.reads.split ∙ ap (λ x. m.octets ++ x) (rest_at_end t at_end) ∙ append-nil m.octets) in
    record {
      reads = reads_segments has (record { may_join = inl has.ber; joined = subst (Joined OctetString (levels_left s) (rest_of s)) (sym here) j.joined; leaves = j.leaves });
      form = form ∙ sym has.bit;
      borrows = subst (Reads s t) all m.reads;
    }

-- contents that were measured up to their end
pub measured_contents : {s t : ReaderState} {n : ℕ} {octets : List ℕ} → Measures s n t → t.end ≡ t.position → octets ≡ rest_of s → IsContents true octets n
measured_contents {s} {t} m at_end same =
    let j = joins_rest (measures_appends m) at_end in
    record { levels = levels_left s; out = j.out; contains = subst (λ x. Joined OctetString (levels_left s) x j.out) (sym same) j.joined; counted = ap length (sym j.appended) ∙ sym m.counted }

-- contents that are accepted are read
pub segments_accepted : {h : Head} {s t : ReaderState} {e : Error} {out : List ℕ} → IsInside s (number h.length) → IsSound s → s.depth + segmented_levels s.rules ≤ 64 → TakesParts OctetString out s.rules h (rest_of s)
    → HasSegments h s.rules → RefusesSegments OctetString s e t → NotMemory e → ⊥
segments_accepted {h} {s} {t} {e} {out} is_next sound few taken has r not =
    let lacks = parts_lacking s is_next out t e sound few taken (no_segments has (RefusesJoining.no_segments (inl has.ber) r))
    (λ x same joined. inr (segments_refused r sound is_next.working (omega arith) x joined)) in
    absurd (let other : is_out_of_memory_kind (kind_of e) ≡ true = ap (λ x. is_out_of_memory_kind (kind_of x)) lacks in cc)

pub contents_have_pieces : {constructed : Bool} {octets : List ℕ} {count : ℕ} → ∥ IsContents constructed octets count ∥₁ → ∥ HasPieces constructed octets ∥₁
contents_have_pieces {constructed} {octets} t = ∥∥₁_map t (λ c. has_pieces constructed c.levels octets c.out c.contains)

-- the octets of a value are what its contents contain
pub contents_contain : {constructed : Bool} {octets : List ℕ} {count : ℕ} (t : ∥ IsContents constructed octets count ∥₁) → ∥ ((levels : ℕ) × Contains constructed levels octets (joined_pieces (contents_pieces t))) ∥₁
contents_contain {constructed} {octets} t = ∥∥₁_map t (λ c. (c.levels, subst (Contains constructed c.levels octets) (sym (octets_contained t c.levels c.out c.contains)) c.contains))

-- the same contents have the same pieces
pub same_left : {a b : Bool} {x y : List ℕ} (l : ∥ HasPieces a x ∥₁) (k : ∥ HasPieces b y ∥₁) → a ≡ b → x ≡ y → (pieces_in l).0 ≡ (pieces_in k).0
same_left {a} {b} {x} {y} l k form same =
    ∥∥₁_elim (pieces_in k).1 (pieces_prop (pieces_in l).0 (pieces_in k).0)
    (λ p. pieces_in_are l (subst (λ c. ArePieces c x (pieces_in k).0) (sym form) (subst (λ z. ArePieces b z (pieces_in k).0) (sym same) p)))

pub contents_pieces_are : {constructed : Bool} {octets : List ℕ} {count : ℕ} (t : ∥ IsContents constructed octets count ∥₁) → ∥ ArePieces constructed octets (contents_pieces t) ∥₁
unfolding contents_have_pieces
contents_pieces_are t = (pieces_in (contents_have_pieces t)).1

-- Lemmas on reading segments in sequence.
use Rattle.std.proofs.Common.{◌≡◌, ◌≢◌, ℕ, suc, ◌+◌, ◌-◌, ◌^◌, ◌<◌, ◌≤◌, Bool, true, false, Result, Ok, Err, List, [], ◌++◌, length, take, drop, refl, sym, ap, ◌∙◌, subst, append_assoc, append-nil, length-append, length-take-le, arith}
use Rattle.std.proofs.lemmas.List.{take-append-drop}
use Rattle.der_base.specs.Error.{unexpected_tag}
use Rattle.der_base.specs.Length.{number, is_indefinite, length_octets}
use Rattle.der_base.specs.Tag.{label, tag_octets, IsIdentifier, of_tag, of_segments}
use Rattle.der_base.specs.HeaderGrammar.{header_octets}
use Rattle.der_base.specs.declared.length.Length.{Length}
use Rattle.der_base.specs.declared.tag.Tag.{Tag}
use Rattle.der_base.specs.declared.error.Error.{Error}
use Rattle.der_base.specs.declared.encoding_rules.EncodingRules.{EncodingRules}
use Rattle.der_base.specs.declared.encoding_rules.EncodingRules.TheVariants.{Ber, Der}
use Rattle.der_base.proofs.HeaderLemmas.{LengthView, view_definite, view_indefinite, length_view, HeaderView, header_view_of, header_view}
use Rattle.der_core.specs.ReaderState.{ReaderState, rest_of, advanced_state, IsSound, Same, Reads}
use Rattle.der_core.specs.Reader.{VecRefused}
use Rattle.der_core.specs.Decode.{Passes}
use Rattle.der_core.specs.Encode.{element_octets}
use Rattle.der_core.specs.Header.{head_of, HeaderNext}
use Rattle.der_core.specs.declared.header.Header.{Header}
use Rattle.der_core.proofs.StateLemmas.{reads_none, reads_on, reads_front, length-rest, position_on}
use Rattle.der_core.proofs.TagAssertedLemmas.{tag_asserted}
use Rattle.der.specs.Joined.{Joined, none}
use Rattle.der.specs.Joining.{levels_at, levels_left, AppendsOctets, AppendsJoined, PassesTagged, PassesSegmentHeader, RefusesSegment, no_octets, RefusesSegments, after_segments}
use Rattle.der.proofs.JoinedLemmas.{IsSegment, primitive_form, segment_some, segment_then, segments_then, joined_more}

pub reads_there : (s u : ReaderState) (x more : List ℕ) (m : ℕ) → rest_of s ≡ x ++ more → u ≡ advanced_state s m → m ≡ length x → Reads s u x
reads_there s u x more m e leaves same = subst (λ t. Reads s t x) (ap (advanced_state s) (sym same) ∙ sym leaves) (reads_front s x more e)

-- readers with the same rules and depth have the same number of levels left
pub levels_same : (s t : ReaderState) → t.rules ≡ s.rules → t.depth ≡ s.depth → levels_left t ≡ levels_left s
levels_same s t r d = ap (λ x. levels_at x t.depth) r ∙ ap (levels_at s.rules) d

-- the rules are BER or DER
pub ber_or_der : (rules : EncodingRules) → (rules ≡ Der → ⊥) → rules ≡ Ber
ber_or_der Ber other = refl
ber_or_der Der other = absurd (other refl)

-- an identifier without the constructed bit is that of its tag
primitive_identifier : {rules : EncodingRules} {id : List ℕ} {t : Tag} {b : Bool} → b ≡ false → IsIdentifier rules id t b → (id ≡ tag_octets t) × ((label t).constructed ≡ false)
primitive_identifier e (of_tag h) = (refl, e)
primitive_identifier e of_segments = absurd (cc)

-- the header of a primitive segment, after reading it
record SegmentHeader (tag : Tag) (s u : ReaderState) (n : ℕ) : Type 0 where
  pub primitive : (label tag).constructed ≡ false
  pub small : n < 2 ^ 32
  pub reads : Reads s u (header_octets tag n)

segment_header : {tag : Tag} {s u : ReaderState} (h : Header) → PassesTagged tag h s u → (head_of h).constructed ≡ false → SegmentHeader tag s u (number (head_of h).length)
segment_header {tag} {s} {u} h p primitive = go (header_view p.passes.next)
  where
    m : ℕ
    m = p.passes.octets

    on : {k : ℕ} (id more : List ℕ) → IsIdentifier s.rules id (head_of h).tag (head_of h).constructed → (is_indefinite (head_of h).length ≡ true → (head_of h).constructed ≡ true) → rest_of s ≡ id ++ more → m ≡ length id + k
        → LengthView (head_of h).length s.rules more k → SegmentHeader tag s u (number (head_of h).length)
    on id more d ok e c (view_indefinite body following ber b q says z) = absurd (let no : false ≡ true = sym primitive ∙ ok (ap is_indefinite says) in cc)
    on id more d ok e c (view_definite n following small q says z) =
        let r = primitive_identifier primitive d in
        let count : n ≡ number (head_of h).length = sym (ap number says) in
        let octets : id ++ length_octets n ≡ header_octets tag (number (head_of h).length) = ap (λ l. l ++ length_octets n) (r.0 ∙ ap tag_octets p.tagged) ∙ ap (header_octets tag) count in
        let split : rest_of s ≡ header_octets tag (number (head_of h).length) ++ following = e ∙ ap (λ l. id ++ l) q ∙ sym (append_assoc id (length_octets n) following) ∙ ap (λ l. l ++ following) octets in
        let long : m ≡ length (header_octets tag (number (head_of h).length)) = c ∙ ap (λ l. length id + l) z ∙ sym (length-append id (length_octets n)) ∙ ap length octets in
        record {
          primitive = ap (λ t. (label t).constructed) (sym p.tagged) ∙ r.1;
          small = subst (λ l. l < 2 ^ 32) count small;
          reads = reads_there s u (header_octets tag (number (head_of h).length)) following m split p.passes.leaves long;
        }

    go : HeaderView (head_of h) s.rules (rest_of s) m → SegmentHeader tag s u (number (head_of h).length)
    go (header_view_of id more d l ok e c) = on id more d ok e c (length_view l)

-- reading the next n octets
pub reads_next : (n : ℕ) (s t : ReaderState) → IsSound s → s.position + n ≤ s.end → t ≡ advanced_state s n → Reads s t (take n (rest_of s)) × (length (take n (rest_of s)) ≡ n)
reads_next n s t sound there leaves =
    let long : length (take n (rest_of s)) ≡ n = length-take-le n (rest_of s) (omega (arith, length-rest s sound, there)) in
    (reads_there s t (take n (rest_of s)) (drop n (rest_of s)) n (sym (take-append-drop n (rest_of s))) leaves (sym long), long)

-- nothing has been appended yet
pub appends_none : (tag : Tag) (levels : ℕ) (s : ReaderState) (old : List ℕ) → AppendsJoined tag levels s old old s
appends_none tag levels s old = record { octets = []; out = []; reads = reads_none s; joined = none; appended = sym (append-nil old) }

-- segments followed by segments
pub appends_more : {tag : Tag} {levels : ℕ} {s u t : ReaderState} {old middle new : List ℕ} → AppendsJoined tag levels s old middle u → AppendsJoined tag levels u middle new t → AppendsJoined tag levels s old new t
appends_more {old = old} h g =
    record {
      octets = h.octets ++ g.octets;
      out = h.out ++ g.out;
      reads = reads_on h.reads g.reads;
      joined = joined_more h.joined g.joined;
      appended = g.appended ∙ ap (λ l. l ++ g.out) h.appended ∙ append_assoc old h.out g.out;
    }

-- the same with an equal number of levels
pub appends_at : {tag : Tag} {levels other : ℕ} {s t : ReaderState} {old new : List ℕ} → levels ≡ other → AppendsJoined tag levels s old new t → AppendsJoined tag other s old new t
appends_at {tag} {s = s} {t} {old} {new} e h = subst (λ n. AppendsJoined tag n s old new t) e h

-- the same after segments that this reader has read
pub appends_after : {tag : Tag} {s u t : ReaderState} {old middle new : List ℕ} → Same s u → AppendsJoined tag (levels_left s) s old middle u → AppendsJoined tag (levels_left u) u middle new t → AppendsJoined tag (levels_left s) s old new t
appends_after {s = s} {u = u} same h g = appends_more h (appends_at (levels_same s u same.rules same.depth) g)

-- one segment is joined
pub joined_segment : {tag : Tag} {levels : ℕ} {c e : List ℕ} → IsSegment tag false c e → Joined tag levels e c
joined_segment {tag} {levels} {c} {e} s = subst (λ x. Joined tag levels x c) (append-nil e) (subst (Joined tag levels (e ++ [])) (append-nil c) (segment_then s none))

pub joined_segments : {tag : Tag} {below : ℕ} {c e out : List ℕ} → IsSegment tag true c e → Joined tag below c out → Joined tag (suc below) e out
joined_segments {tag} {below} {c} {e} {out} s h = subst (λ x. Joined tag (suc below) x out) (append-nil e) (subst (Joined tag (suc below) (e ++ [])) (append-nil out) (segments_then s h none))

-- a segment was read and joined, and the position of the reader has increased
pub record AppendsSegment (tag : Tag) (levels : ℕ) (s : ReaderState) (old new : List ℕ) (t : ReaderState) : Type 0 where
  pub appends : AppendsJoined tag levels s old new t
  pub forward : s.position < t.position

pub segment_appended : {tag : Tag} {levels : ℕ} {b : Bool} {c e out old new : List ℕ} {s t : ReaderState} → IsSegment tag b c e → Reads s t e → Joined tag levels e out → new ≡ old ++ out → AppendsSegment tag levels s old new t
segment_appended {e = e} {out = out} form reads joined appended =
    record {
      appends = record { octets = e; out = out; reads = reads; joined = joined; appended = appended };
      forward = omega (arith, position_on reads, segment_some form);
    }

-- a header whose tag was compared with the expected one
pub passes_tagged : {tag t w : Tag} {h : Header} {s u v : ReaderState} (r : Result Tag Error) → Passes (HeaderNext h) s u → t ≡ (head_of h).tag → r ≡ Ok w → (t ≢ tag → r ≡ Err (unexpected_tag tag t)) → v ≡ u
    → PassesTagged tag h s v
passes_tagged {tag} {t} {w} {h} {s} r passes is ok other unmoved = record { passes = subst (Passes (HeaderNext h) s) (sym unmoved) passes; tagged = sym is ∙ tag_asserted t tag w r ok other }

-- after the header of a primitive segment with this length
module _ (tag : Tag) (s u t : ReaderState) (h : Header) (l : Length) (p : PassesSegmentHeader tag h s u) (primitive : (head_of h).constructed ≡ false) (is : l ≡ (head_of h).length) where
  -- its octets were appended
  pub octets_appended : {old new : List ℕ} (levels : ℕ) → IsSound u → AppendsOctets (number l) u old new t → AppendsSegment tag levels s old new t
  octets_appended levels sound a =
      let n = number l in
      let contents = take n (rest_of u) in
      let header = segment_header h p.passes primitive in
      let count : number (head_of h).length ≡ length contents = ap number (sym is) ∙ sym (reads_next n u t sound a.there a.leaves).1 in
      let same : header_octets tag (number (head_of h).length) ++ contents ≡ element_octets tag contents = ap (λ k. header_octets tag k ++ contents) count in
      let reads : Reads s t (element_octets tag contents) = subst (Reads s t) same (reads_on header.reads (reads_next n u t sound a.there a.leaves).0) in
      let form : IsSegment tag false contents (element_octets tag contents) = primitive_form refl header.primitive (subst (λ k. k < 2 ^ 32) count header.small) refl in
      segment_appended form reads (joined_segment form) a.appended

  -- reading its octets failed
  pub octets_refused : {e : Error} → (u.failed ≡ false → VecRefused (number l) u e t) → RefusesSegment tag s e t
  octets_refused {e} refused =
      no_octets h u p primitive (subst (λ x. VecRefused (number x) u e t) is (refused (ap (λ (x : ReaderState). x.failed) p.passes.passes.leaves ∙ p.passes.passes.working)))

-- if octets are left after joined segments, reading the next segment can fail
pub segments_refuse : {tag : Tag} {s u t : ReaderState} {old new : List ℕ} {e : Error} → AppendsJoined tag (levels_left s) s old new u → IsSound u → (u.end ≡ u.position → ⊥) → RefusesSegment tag u e t → RefusesSegments tag s e t
segments_refuse {u = u} h sound left r = after_segments u h.octets h.out h.reads h.joined (omega (arith, sound.ordered, left)) r

-- all octets that were left are joined
pub record JoinsRest (tag : Tag) (levels : ℕ) (s : ReaderState) (old new : List ℕ) (t : ReaderState) : Type 0 where
  pub out : List ℕ
  pub joined : Joined tag levels (rest_of s) out
  pub leaves : t ≡ advanced_state s (length (rest_of s))
  pub appended : new ≡ old ++ out

pub joins_rest : {tag : Tag} {levels : ℕ} {s t : ReaderState} {old new : List ℕ} → AppendsJoined tag levels s old new t → t.end ≡ t.position → JoinsRest tag levels s old new t
joins_rest {tag} {levels} {s} {t} h at_end =
    let nothing : t.end - t.position ≡ 0 = omega (arith, at_end) in
    let all : rest_of s ≡ h.octets = h.reads.split ∙ ap (λ n. h.octets ++ take n (drop t.position t.input)) nothing ∙ append-nil h.octets in
    record {
      out = h.out;
      joined = subst (λ x. Joined tag levels x h.out) (sym all) h.joined;
      leaves = h.reads.state ∙ ap (λ x. advanced_state s (length x)) (sym all);
      appended = h.appended;
    }

-- Lemmas: for valid segments, the only possible error is an allocation failure.
use Rattle.std.proofs.Common.{◌≡◌, ℕ, suc, ◌+◌, ◌-◌, ◌^◌, ◌<◌, ◌≤◌, Bool, true, false, Ok, Err, List, ◌++◌, length, take, drop, refl, sym, ap, ◌∙◌, subst, inl, inr, length-append, arith}
use Rattle.std.proofs.lemmas.Bool.{le-leb}
use Rattle.std.proofs.lemmas.List.{take_at}
use Rattle.der_base.specs.Arithmetic.{sans_eoc}
use Rattle.der_base.specs.Error.{error_of_kind}
use Rattle.der_base.specs.HeaderGrammar.{Head}
use Rattle.der_base.specs.Length.{number, is_indefinite}
use Rattle.der_base.specs.ScanGrammar.{BodyFault}
use Rattle.der_base.specs.Tag.{label}
use Rattle.der_base.specs.declared.length.Length.{Length}
use Rattle.der_base.specs.declared.tag.Tag.{Tag}
use Rattle.der_base.specs.declared.error.Error.{Error}
use Rattle.der_base.specs.declared.error.ErrorKind.TheVariants.{OutOfMemory}
use Rattle.der_base.specs.declared.encoding_rules.EncodingRules.{EncodingRules}
use Rattle.der_base.specs.declared.encoding_rules.EncodingRules.TheVariants.{Ber, Der}
use Rattle.der_base.proofs.HeaderLemmas.{HeaderView, header_view_of, header_view, one_header, header_grammar}
use Rattle.der_base.proofs.ScanLemmas.{body_fault_laws}
use Rattle.der_core.specs.ReaderState.{ReaderState, rest_of, advanced_state, nested_state, IsSound}
use Rattle.der_core.specs.Outcome.{Gives}
use Rattle.der_core.specs.Reader.{read_slice_outcome}
use Rattle.der_core.specs.Nested.{CanNest}
use Rattle.der_core.specs.Decode.{Passes}
use Rattle.der_core.specs.Header.{head_of, HeaderNext}
use Rattle.der_core.specs.declared.header.Header.{Header}
use Rattle.der_core.proofs.ContentsLemmas.{rest_advanced, rest_inside}
use Rattle.der_core.proofs.DecodeLemmas.{not_refused}
use Rattle.der_core.proofs.ElementLemmas.{entered_part}
use Rattle.der_core.proofs.StateLemmas.{length-rest}
use Rattle.der.specs.Joined.{Joined}
use Rattle.der.specs.Joining.{levels_at, levels_left, contents_number, no_header, other_tag, constructed_segment, RefusesSegment, no_segment, no_octets, not_entered, refused_inside, RefusesSegments, after_segments}
use Rattle.der.proofs.JoinedLemmas.{joined_after, FirstSegment, first_segment, SegmentNext, segment_next}
use Rattle.der.proofs.JoiningLemmas.{levels_same}

-- after reading octets a reader is still sound
sound_on : {s u : ReaderState} (m : ℕ) → IsSound s → m ≤ length (rest_of s) → u ≡ advanced_state s m → IsSound u
sound_on {s} {u} m sound there leaves =
    subst IsSound (sym leaves)
    (record { ordered = omega (arith, there, length-rest s sound, sound.ordered); in_input = sound.in_input; addressable = sound.addressable; shallow = sound.shallow; failure_kept = sound.failure_kept })

sound_inside : {u : ReaderState} (n : ℕ) → IsSound u → CanNest u n → IsSound (nested_state u n)
sound_inside {u} n sound can = record { ordered = omega arith; in_input = omega (arith, can.0, sound.in_input); addressable = sound.addressable; shallow = omega (arith, can.1); failure_kept = sound.failure_kept }

-- reading octets that are there does not fail
pub slice_there : (n : ℕ) (s t : ReaderState) (e : Error) → s.failed ≡ false → s.position + n ≤ s.end → Gives (read_slice_outcome n) s (Err e) t → ⊥
slice_there n s t e working there g =
    let table : (read_slice_outcome n s).answer ≡ Ok (take n (rest_of s)) = rw working (rw (le-leb (s.position + n) s.end there) refl) in
    let no : Err e ≡ Ok (take n (rest_of s)) = g.answered ∙ table in
    absurd (cc)

-- a level is left only under BER
levels_some : (rules : EncodingRules) (depth below : ℕ) → levels_at rules depth ≡ suc below → (rules ≡ Ber) × (depth + suc below ≡ 64)
levels_some Ber depth below e = (refl, omega (arith, e))
levels_some Der depth below e = absurd (omega (arith, e))

-- primitive contents have the length in the header
primitive_number : {h : Header} {s u : ReaderState} → Passes (HeaderNext h) s u → (head_of h).constructed ≡ false → contents_number h ≡ number (head_of h).length
primitive_number {h} {s} {u} p primitive = go (header_view p.next)
  where
    definite_number : (l : Length) → is_indefinite l ≡ false → number (sans_eoc l) ≡ number l
    definite_number l f = rw f refl

    by_flag : (b : Bool) → is_indefinite (head_of h).length ≡ b → (is_indefinite (head_of h).length ≡ true → (head_of h).constructed ≡ true) → contents_number h ≡ number (head_of h).length
    by_flag true f ok = absurd (let no : false ≡ true = sym primitive ∙ ok f in cc)
    by_flag false f ok = definite_number (head_of h).length f

    go : HeaderView (head_of h) s.rules (rest_of s) p.octets → contents_number h ≡ number (head_of h).length
    go (header_view_of id more d l ok e c) = by_flag (is_indefinite (head_of h).length) refl ok

-- a segment is next, and its header was read
module _ {tag : Tag} {b : Bool} {c : List ℕ} (s u : ReaderState) (h : Header) (sound : IsSound s) (a : SegmentNext tag b c s.rules (rest_of s)) (p : Passes (HeaderNext h) s u) where
  says_so : head_of h ≡ a.says
  says_so = (one_header p.next a.next).0

  header_sound : IsSound u
  header_sound = sound_on p.octets sound p.there p.leaves

  bit_is : (head_of h).constructed ≡ b
  bit_is = ap (λ (x : Head). x.constructed) says_so ∙ a.bit

  contents_next : rest_of u ≡ c ++ a.after
  contents_next = ap rest_of p.leaves ∙ rest_advanced s p.octets p.there ∙ ap (λ k. drop k (rest_of s)) (one_header p.next a.next).1 ∙ a.split

  sized : length c ≡ contents_number h
  sized = a.sized ∙ ap (λ (x : Head). number (sans_eoc x.length)) (sym says_so)

  contents_there : u.position + contents_number h ≤ u.end
  contents_there = omega (arith, length-rest u header_sound, ap length contents_next, length-append c a.after, sized, header_sound.ordered)

  contents_are : take (contents_number h) (rest_of u) ≡ c
  contents_are = ap (take (contents_number h)) contents_next ∙ take_at c a.after (contents_number h) sized

-- the first segment is next
first_next : {tag : Tag} (s : ReaderState) (f : FirstSegment tag (levels_left s) (rest_of s)) → (label tag).number < 2 ^ 32 → SegmentNext tag f.constructed f.contents s.rules (rest_of s)
first_next {tag} s f numbered =
    segment_next tag s.rules f.contents f.following (rest_of s) f.form f.split numbered (λ set. let w = f.within set in (levels_some s.rules s.depth w.below w.level).0)

mutual
  -- for a valid segment, the only possible error is an allocation failure
  segment_refused : {tag : Tag} {s t : ReaderState} {e : Error} → RefusesSegment tag s e t → IsSound s → s.failed ≡ false → (label tag).number < 2 ^ 32 → FirstSegment tag (levels_left s) (rest_of s) → e ≡ error_of_kind OutOfMemory
  segment_refused {s = s} (no_segment (no_header r)) sound working numbered f = absurd (not_refused (header_grammar BodyFault body_fault_laws) r working (first_next s f numbered).next)
  segment_refused {s = s} {t = t} (no_segment (other_tag h p not reported)) sound working numbered f =
      let a = first_next s f numbered in absurd (not (ap (λ (x : Head). x.tag) (says_so s t h sound a p) ∙ a.tagged))
  segment_refused {s = s} (no_segment (constructed_segment h u p r)) sound working numbered f =
      let a = first_next s f numbered in
      let w = f.within (sym (bit_is s u h sound a p.passes) ∙ r.bit) in
      let rules : u.rules ≡ s.rules = ap (λ (x : ReaderState). x.rules) p.passes.leaves in
      absurd (let no : Der ≡ Ber = sym r.under_der ∙ rules ∙ (levels_some s.rules s.depth w.below w.level).0 in cc)
  segment_refused {s = s} {t = t} {e = e} (no_octets h u p primitive (inl g)) sound working numbered f =
      let a = first_next s f numbered in
      let passes = p.passes.passes in
      let there = contents_there s u h sound a passes in
      absurd (slice_there (number (head_of h).length) u t e (ap (λ (x : ReaderState). x.failed) passes.leaves ∙ working) (omega (arith, there, primitive_number passes primitive)) g)
  segment_refused (no_octets h u p primitive (inr m)) sound working numbered f = m.0
  segment_refused {s = s} {e = e} (not_entered h u p bit g) sound working numbered f =
      let a = first_next s f numbered in
      let passes = p.passes.passes in
      let w = f.within (sym (bit_is s u h sound a passes) ∙ bit) in
      let depth : u.depth ≡ s.depth = ap (λ (x : ReaderState). x.depth) passes.leaves in
      let level = (levels_some s.rules s.depth w.below w.level).1 in
      let can : CanNest u (contents_number h) = (contents_there s u h sound a passes, omega (arith, level, depth)) in
      absurd (let no : Err e ≡ Ok (u.end, u.depth) = g.answered ∙ entered_part u (contents_number h) (header_sound s u h sound a passes) can in cc)
  segment_refused {tag} {s = s} (refused_inside h u v p bit can r back) sound working numbered f =
      let a = first_next s f numbered in
      let passes = p.passes.passes in
      let n = contents_number h in
      let w = f.within (sym (bit_is s u h sound a passes) ∙ bit) in
      let depth : u.depth ≡ s.depth = ap (λ (x : ReaderState). x.depth) passes.leaves in
      let rules : u.rules ≡ s.rules = ap (λ (x : ReaderState). x.rules) passes.leaves in
      let level = levels_some s.rules s.depth w.below w.level in
      let left : levels_left (nested_state u n) ≡ 64 - (u.depth + 1) = ap (λ x. levels_at x (u.depth + 1)) (rules ∙ level.0) in
      let same : w.below ≡ levels_left (nested_state u n) = omega (arith, left, level.1, depth) in
      let contents : rest_of (nested_state u n) ≡ f.contents = rest_inside u n can.0 ∙ contents_are s u h sound a passes in
      let here : Joined tag (levels_left (nested_state u n)) (rest_of (nested_state u n)) w.out =
      subst (λ x. Joined tag x (rest_of (nested_state u n)) w.out) same (subst (λ x. Joined tag w.below x w.out) (sym contents) w.joined) in
      segments_refused r (sound_inside n (header_sound s u h sound a passes) can) (ap (λ (x : ReaderState). x.failed) passes.leaves ∙ working) numbered w.out here

  -- for segments that can all be joined, the only possible error is an allocation failure
  pub segments_refused : {tag : Tag} {s t : ReaderState} {e : Error} → RefusesSegments tag s e t → IsSound s → s.failed ≡ false → (label tag).number < 2 ^ 32
      → (out : List ℕ) → Joined tag (levels_left s) (rest_of s) out → e ≡ error_of_kind OutOfMemory
  segments_refused {tag} {s = s} (after_segments u octets before reads joined less r) sound working numbered out all =
      let b = joined_after joined (rest_of u) (rest_of s) out reads.split all in
      let there : length octets ≤ length (rest_of s) = omega (arith, ap length reads.split, length-append octets (rest_of u)) in
      let sound_u = sound_on (length octets) sound there reads.state in
      let rules : u.rules ≡ s.rules = ap (λ (x : ReaderState). x.rules) reads.state in
      let depth : u.depth ≡ s.depth = ap (λ (x : ReaderState). x.depth) reads.state in
      let here : Joined tag (levels_left u) (rest_of u) b.after = subst (λ n. Joined tag n (rest_of u) b.after) (sym (levels_same s u rules depth)) b.joined in
      segment_refused r sound_u (ap (λ (x : ReaderState). x.failed) reads.state ∙ working) numbered (first_segment here (λ nothing. absurd (omega (arith, less, length-rest u sound_u, ap length nothing))))

-- Lemmas on segments inside a segment.
use Rattle.std.proofs.Common.{◌≡◌, ℕ, suc, ◌+◌, ◌-◌, ◌^◌, ◌<◌, ◌≤◌, Bool, true, false, Result, Ok, Err, OnOk, IfErr, List, [], ◌∷◌, ◌++◌, length, take, drop, refl, sym, ap, ◌∙◌, subst, append_assoc, length-append, length-take-le, arith}
use Rattle.std.proofs.lemmas.List.{take_at, drop_at}
use Rattle.der_base.specs.Arithmetic.{sans_eoc}
use Rattle.der_base.specs.Body.{Body, ends, more as item_first}
use Rattle.der_base.specs.Length.{number, is_indefinite, length_octets}
use Rattle.der_base.specs.Tag.{IsIdentifier}
use Rattle.der_base.specs.declared.length.Length.{Length}
use Rattle.der_base.specs.declared.tag.Tag.{Tag}
use Rattle.der_base.specs.declared.error.Error.{Error}
use Rattle.der_base.specs.declared.encoding_rules.EncodingRules.TheVariants.{Ber}
use Rattle.der_base.proofs.HeaderLemmas.{LengthView, view_definite, view_indefinite, length_view, HeaderView, header_view_of, header_view}
use Rattle.der_core.specs.ReaderState.{ReaderState, rest_of, advanced_state, nested_state, resumed_state, IsSound, Reads}
use Rattle.der_core.specs.Outcome.{Gives}
use Rattle.der_core.specs.Header.{head_of}
use Rattle.der_core.specs.Reader.{enter_nested_outcome}
use Rattle.der_core.specs.Nested.{CanNest, Closes, forwarded, left_over, whole, ClosesValue, part_refused, without_eoc, with_eoc, eoc_failed}
use Rattle.der_core.specs.declared.header.Header.{Header}
use Rattle.der_core.proofs.ContentsLemmas.{rest_advanced, rest_inside, After, definite, after_eoc, closes_ok, value_closed}
use Rattle.der_core.proofs.ElementLemmas.{flag_stays, no_eoc_fault}
use Rattle.der_core.proofs.NestedLemmas.{Entered, enter_ok}
use Rattle.der_core.proofs.StateLemmas.{reads_on, length-rest, rest_after}
use Rattle.der.specs.Joined.{Joined}
use Rattle.der.specs.Joining.{levels_at, levels_left, AppendsJoined, PassesSegmentHeader, contents_number, RefusesSegment, not_entered, refused_inside, RefusesSegments}
use Rattle.der.proofs.JoinedLemmas.{IsSegment, definite_form, indefinite_form}
use Rattle.der.proofs.JoiningLemmas.{reads_there, reads_next, ber_or_der, joined_segments, AppendsSegment, segment_appended, JoinsRest, joins_rest}

-- the contents of indefinite length end with their end-of-contents octets
body_ends : {level parts : ℕ} {body : List ℕ} → Body level parts body → (c : List ℕ) × (body ≡ c ++ 0 ∷ 0 ∷ [])
body_ends (ends l) = ([], refl)
body_ends (item_first {item = item} {body = body} i b) = (let r = body_ends b in (item ++ r.0, ap (λ x. item ++ x) r.1 ∙ sym (append_assoc item r.0 (0 ∷ 0 ∷ []))))

-- a constructed segment occurs only under BER
pub under_ber : {tag : Tag} {h : Header} {s u : ReaderState} → PassesSegmentHeader tag h s u → (head_of h).constructed ≡ true → s.rules ≡ Ber
under_ber {s = s} p bit = ber_or_der s.rules (λ der. (let no : true ≡ false = sym bit ∙ p.primitive der in cc))

-- inside a nested part one level fewer is left
pub levels_deeper : (s i : ReaderState) → s.rules ≡ Ber → i.rules ≡ s.rules → i.depth ≡ s.depth + 1 → s.depth < 64 → levels_left s ≡ suc (levels_left i)
levels_deeper s i ber rules depth less =
    let here : levels_left s ≡ 64 - s.depth = ap (λ r. levels_at r s.depth) ber in
    let there : levels_left i ≡ 64 - i.depth = ap (λ r. levels_at r i.depth) (rules ∙ ber) in
    omega (arith, here, there, depth, less)

-- the header of a constructed segment, after reading it
data ConstructedHeader (tag : Tag) (h : Header) (s u : ReaderState) : Type 0 where
  definite_header : (id : List ℕ) → IsIdentifier Ber id tag true → is_indefinite (head_of h).length ≡ false → contents_number h < 2 ^ 32 → Reads s u (id ++ length_octets (contents_number h)) → ConstructedHeader tag h s u
  indefinite_header : {parts : ℕ} (id c following : List ℕ) → IsIdentifier Ber id tag true → is_indefinite (head_of h).length ≡ true → Body 1 parts (c ++ 0 ∷ 0 ∷ []) → length c ≡ contents_number h
      → Reads s u (id ++ 128 ∷ []) → rest_of u ≡ c ++ (0 ∷ 0 ∷ following) → ConstructedHeader tag h s u

constructed_header : {tag : Tag} {h : Header} {s u : ReaderState} → PassesSegmentHeader tag h s u → (head_of h).constructed ≡ true → ConstructedHeader tag h s u
constructed_header {tag} {h} {s} {u} p bit = go (header_view p.passes.passes.next)
  where
    m : ℕ
    m = p.passes.passes.octets

    ident : {id : List ℕ} → IsIdentifier s.rules id (head_of h).tag (head_of h).constructed → IsIdentifier Ber id tag true
    ident {id} d = subst (λ b. IsIdentifier Ber id tag b) bit (subst (λ t. IsIdentifier Ber id t (head_of h).constructed) p.passes.tagged (subst (λ r. IsIdentifier r id (head_of h).tag (head_of h).constructed) (under_ber p bit) d))

    on : {k : ℕ} (id more : List ℕ) → IsIdentifier s.rules id (head_of h).tag (head_of h).constructed → rest_of s ≡ id ++ more → m ≡ length id + k → LengthView (head_of h).length s.rules more k → ConstructedHeader tag h s u
    on id more d e c (view_definite n following small q says z) =
        let count : n ≡ contents_number h = sym (ap (λ x. number (sans_eoc x)) says) in
        let split : rest_of s ≡ (id ++ length_octets n) ++ following = e ∙ ap (λ l. id ++ l) q ∙ sym (append_assoc id (length_octets n) following) in
        let long : m ≡ length (id ++ length_octets n) = c ∙ ap (λ l. length id + l) z ∙ sym (length-append id (length_octets n)) in
        let reads = reads_there s u (id ++ length_octets n) following m split p.passes.passes.leaves long in
        definite_header id (ident d) (ap is_indefinite says) (subst (λ k. k < 2 ^ 32) count small) (subst (λ k. Reads s u (id ++ length_octets k)) count reads)
    on id more d e c (view_indefinite {parts = parts} body following ber bd q says z) =
        let end = body_ends bd in
        let split : rest_of s ≡ (id ++ 128 ∷ []) ++ (body ++ following) = e ∙ ap (λ l. id ++ l) q ∙ sym (append_assoc id (128 ∷ []) (body ++ following)) in
        let long : m ≡ length (id ++ 128 ∷ []) = c ∙ ap (λ l. length id + l) z ∙ sym (length-append id (128 ∷ [])) in
        let reads = reads_there s u (id ++ 128 ∷ []) (body ++ following) m split p.passes.passes.leaves long in
        let left : rest_of u ≡ body ++ following = ap rest_of reads.state ∙ rest_after s (id ++ 128 ∷ []) (body ++ following) split in
        let count : contents_number h ≡ length body - 2 = ap (λ x. number (sans_eoc x)) says in
        indefinite_header id end.0 following (ident d) (ap is_indefinite says) (subst (λ b. Body 1 parts b) end.1 bd) (omega (arith, count, ap length end.1, length-append end.0 (0 ∷ 0 ∷ []))) reads
        (left ∙ ap (λ b. b ++ following) end.1 ∙ append_assoc end.0 (0 ∷ 0 ∷ []) following)

    go : HeaderView (head_of h) s.rules (rest_of s) m → ConstructedHeader tag h s u
    go (header_view_of id more d l ok e c) = on id more d e c (length_view l)

-- a constructed segment was entered: s is before its header, u after it, i inside the nested part
pub record EntersSegment (tag : Tag) (s u i : ReaderState) (h : Header) (l : Length) (end depth : ℕ) : Type 0 where
  pub sound : IsSound u
  pub header : PassesSegmentHeader tag h s u
  pub bit : (head_of h).constructed ≡ true
  pub length_is : l ≡ sans_eoc (head_of h).length
  pub way : Entered u (number l) end depth i

pub enters_segment : {tag : Tag} {s u i : ReaderState} {h : Header} {l k : Length} {end depth : ℕ} {b : Bool} → IsSound u → PassesSegmentHeader tag h s u → b ≡ (head_of h).constructed → b ≡ true → k ≡ (head_of h).length → l ≡ sans_eoc k
    → Gives (enter_nested_outcome (number l)) u (Ok (end, depth)) i → EntersSegment tag s u i h l end depth
enters_segment sound header bit set is contents gives = record { sound = sound; header = header; bit = sym bit ∙ set; length_is = contents ∙ ap sans_eoc is; way = enter_ok gives }

-- entering it failed
pub not_entered_segment : {tag : Tag} {s u t : ReaderState} {h : Header} {l k : Length} {b : Bool} {e : Error} → PassesSegmentHeader tag h s u → b ≡ (head_of h).constructed → b ≡ true → k ≡ (head_of h).length → l ≡ sans_eoc k
    → Gives (enter_nested_outcome (number l)) u (Err e) t → RefusesSegment tag s e t
not_entered_segment {u = u} {t = t} {h = h} {e = e} header bit set is contents gives =
    not_entered h u header (sym bit ∙ set) (subst (λ (x : Length). Gives (enter_nested_outcome (number x)) u (Err e) t) (contents ∙ ap sans_eoc is) gives)

module _ {tag : Tag} {s u i : ReaderState} {h : Header} {l : Length} {end depth : ℕ} (e : EntersSegment tag s u i h l end depth) where
  part_can : CanNest u (contents_number h)
  part_can = subst (λ x. CanNest u x) (ap number e.length_is) e.way.can

  part_is : i ≡ nested_state u (contents_number h)
  part_is = e.way.state ∙ ap (λ x. nested_state u (number x)) e.length_is

  part_left : contents_number h ≤ length (rest_of u)
  part_left = omega (arith, length-rest u e.sound, part_can.0)

  part_contents : rest_of i ≡ take (contents_number h) (rest_of u)
  part_contents = ap rest_of part_is ∙ rest_inside u (contents_number h) part_can.0

  part_count : length (rest_of i) ≡ contents_number h
  part_count = ap length part_contents ∙ length-take-le (contents_number h) (rest_of u) part_left

  -- the state after leaving the nested part
  back_is : (q : ReaderState) → resumed_state q end depth ≡ resumed_state q u.end u.depth
  back_is q = ap (λ x. resumed_state q x depth) e.way.outer_end ∙ ap (λ x. resumed_state q u.end x) e.way.outer_depth

  -- a nested part that was read to its end has been consumed
  part_passes : (q : ReaderState) → q ≡ advanced_state i (length (rest_of i)) → resumed_state q end depth ≡ advanced_state u (contents_number h)
  part_passes q leaves =
      let q_is : q ≡ advanced_state (nested_state u (contents_number h)) (contents_number h) = leaves ∙ ap (λ x. advanced_state x (length (rest_of i))) part_is ∙ ap (advanced_state (nested_state u (contents_number h))) part_count in
      back_is q ∙ ap (λ x. resumed_state x u.end u.depth) q_is

  part_levels : levels_left s ≡ suc (levels_left i)
  part_levels =
      let passes = e.header.passes.passes in
      let rules : i.rules ≡ s.rules = ap (λ (x : ReaderState). x.rules) part_is ∙ ap (λ (x : ReaderState). x.rules) passes.leaves in
      let depth_is : u.depth ≡ s.depth = ap (λ (x : ReaderState). x.depth) passes.leaves in
      let deeper : i.depth ≡ u.depth + 1 = ap (λ (x : ReaderState). x.depth) part_is in
      levels_deeper s i (under_ber e.header e.bit) rules (omega (arith, deeper, depth_is)) (omega (arith, part_can.1, depth_is))

  -- the end-of-contents octets follow contents of indefinite length
  eoc_next : is_indefinite l ≡ true → (following : List ℕ) × (rest_of (advanced_state u (contents_number h)) ≡ 0 ∷ 0 ∷ following)
  eoc_next flag = go (constructed_header e.header e.bit)
    where
      go : ConstructedHeader tag h s u → (following : List ℕ) × (rest_of (advanced_state u (contents_number h)) ≡ 0 ∷ 0 ∷ following)
      go (definite_header id d f small reads) = absurd (let no : false ≡ true = sym f ∙ sym (flag_stays (head_of h).length) ∙ ap is_indefinite (sym e.length_is) ∙ flag in cc)
      go (indefinite_header id c following d f body long reads left) =
          (following, rest_advanced u (contents_number h) part_left ∙ ap (drop (contents_number h)) left ∙ drop_at c (0 ∷ 0 ∷ following) (contents_number h) long)

-- a segment was entered: q is after the segments inside, t after leaving it
module _ {tag : Tag} (s u i q t : ReaderState) (h : Header) (l : Length) (end depth : ℕ) (e : EntersSegment tag s u i h l end depth) where
  nested_joined : {old new : List ℕ} → JoinsRest tag (levels_left i) i old new q → After (is_indefinite l) (resumed_state q end depth) t → AppendsSegment tag (levels_left s) s old new t
  nested_joined {old} {new} all following = go (constructed_header e.header e.bit) following
    where
      n : ℕ
      n = contents_number h

      contents : List ℕ
      contents = take n (rest_of u)

      long : length contents ≡ n
      long = length-take-le n (rest_of u) (part_left e)

      flag : is_indefinite l ≡ is_indefinite (head_of h).length
      flag = ap is_indefinite e.length_is ∙ flag_stays (head_of h).length

      appends : {octets : List ℕ} (c : List ℕ) → IsSegment tag true c octets → Reads s t octets → rest_of i ≡ c → AppendsSegment tag (levels_left s) s old new t
      appends {octets} c form reads is =
          let joined : Joined tag (suc (levels_left i)) octets all.out = joined_segments form (subst (λ x. Joined tag (levels_left i) x all.out) is all.joined) in
          segment_appended form reads (subst (λ x. Joined tag x octets all.out) (sym (part_levels e)) joined) all.appended

      go : ConstructedHeader tag h s u → After (is_indefinite l) (resumed_state q end depth) t → AppendsSegment tag (levels_left s) s old new t
      go (definite_header id d f small reads) (after_eoc m r) = absurd (let no : false ≡ true = sym f ∙ sym flag ∙ m in cc)
      go (indefinite_header id c after d f body count reads left) (definite m r) = absurd (let no : true ≡ false = sym f ∙ sym flag ∙ m in cc)
      go (definite_header id d f small reads) (definite m r) =
          let next = reads_next n u t e.sound (part_can e).0 (r ∙ part_passes e q all.leaves) in
          let same : (id ++ length_octets n) ++ contents ≡ id ++ (length_octets (length contents) ++ contents) = append_assoc id (length_octets n) contents ∙ ap (λ k. id ++ (length_octets k ++ contents)) (sym long) in
          appends contents (definite_form id refl d (subst (λ k. k < 2 ^ 32) (sym long) small) refl) (subst (Reads s t) same (reads_on reads next.0)) (part_contents e)
      go (indefinite_header id c after d f body count reads left) (after_eoc m r) =
          let eoc = c ++ 0 ∷ 0 ∷ [] in
          let whole_left : rest_of u ≡ eoc ++ after = left ∙ sym (append_assoc c (0 ∷ 0 ∷ []) after) in
          let there : t ≡ advanced_state (advanced_state u n) 2 = r.leaves ∙ ap (λ x. advanced_state x 2) (part_passes e q all.leaves) in
          let sum : (u.position + n) + 2 ≡ u.position + length eoc = omega (arith, count, length-append c (0 ∷ 0 ∷ [])) in
          let leaves : t ≡ advanced_state u (length eoc) = there ∙ ap (λ p. record u { position = p }) sum in
          let next = reads_there u t eoc after (length eoc) whole_left leaves refl in
          let same : (id ++ 128 ∷ []) ++ eoc ≡ id ++ 128 ∷ eoc = append_assoc id (128 ∷ []) eoc in
          let is : rest_of i ≡ c = part_contents e ∙ ap (take n) left ∙ take_at c (0 ∷ 0 ∷ after) n count in
          appends c (indefinite_form id refl d body refl) (subst (Reads s t) same (reads_on reads next)) is

  -- the contents of a segment were joined, and it was closed
  pub nested_ok : {T : Type 0} {converts : Error → Error → Type 0} {old new : List ℕ} (answer : Result T Error) (v : T) → OnOk answer (AppendsJoined tag (levels_left i) i old new q)
      → OnOk answer (q.end ≡ q.position) → ClosesValue converts answer q end depth (is_indefinite l) (Ok v) t → AppendsSegment tag (levels_left s) s old new t
  nested_ok {old = old} {new = new} answer v appends ended closes =
      let k = value_closed closes in
      let joins = subst (λ x. OnOk x (AppendsJoined tag (levels_left i) i old new q)) k.answered appends in
      let at_end = subst (λ x. OnOk x (q.end ≡ q.position)) k.answered ended in
      nested_joined (joins_rest joins at_end) k.following

  -- reading failed inside the segment
  pub nested_refused : {T : Type 0} {converts : Error → Error → Type 0} (old new : List ℕ) (answer : Result T Error) (x : Error) → OnOk answer (AppendsJoined tag (levels_left i) i old new q)
      → OnOk answer (q.end ≡ q.position) → IfErr answer (λ y. RefusesSegments tag i y q) → ClosesValue converts answer q end depth (is_indefinite l) (Err x) t → RefusesSegment tag s x t
  nested_refused {T} {converts} old new answer x appends ended refused closes = go closes
    where
      at_end : (v : T) → answer ≡ Ok v → q.end ≡ q.position
      at_end v a = subst (λ z. OnOk z (q.end ≡ q.position)) a ended

      done : (v : T) → answer ≡ Ok v → q ≡ advanced_state i (length (rest_of i))
      done v a = (joins_rest (subst (λ z. OnOk z (AppendsJoined tag (levels_left i) i old new q)) a appends) (at_end v a)).leaves

      closed : (y : Error) → Closes converts answer q end depth (Err y) t → RefusesSegment tag s y t
      closed y (forwarded z a r back) =
          let same : answer ≡ Err y = a ∙ sym r in
          let inner : RefusesSegments tag i y q = subst (λ k. IfErr k (λ z. RefusesSegments tag i z q)) same refused in
          refused_inside h u q e.header e.bit (part_can e) (subst (λ k. RefusesSegments tag k y q) (part_is e) inner) (back ∙ back_is e q)
      closed y (left_over v z a less c r back) = absurd (let at = at_end v a in omega (arith, at, less))
      closed y (whole v a at r back) = absurd (cc)

      go : ClosesValue converts answer q end depth (is_indefinite l) (Err x) t → RefusesSegment tag s x t
      go (part_refused y c r) = subst (λ k. RefusesSegment tag s k t) (let same : y ≡ x = cc in same) (closed y c)
      go (without_eoc v c m r) = absurd (cc)
      go (with_eoc v w c m g r) = absurd (cc)
      go (eoc_failed v w y f c m g reported r) =
          let k = closes_ok c in
          let there_is : w ≡ advanced_state u (contents_number h) = k.2 ∙ part_passes e q (done v k.0) in
          let eoc = eoc_next e m in
          let passes = e.header.passes.passes in
          absurd (no_eoc_fault w t y eoc.0 (ap (λ (x : ReaderState). x.failed) there_is ∙ ap (λ (x : ReaderState). x.failed) passes.leaves ∙ passes.working) (ap rest_of there_is ∙ eoc.1) g)

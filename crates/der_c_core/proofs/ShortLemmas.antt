-- Elements with a short header that are there as a whole are elements.
use Rattle.std.proofs.Common.{◌≡◌, ℕ, ◌+◌, ◌-◌, ◌*◌, ◌%◌, ◌<◌, ◌≤◌, Ok, List, [], ◌∷◌, ◌++◌, length, take, drop, get_or, true, false, refl, sym, ap, ◌∙◌, subst, arith, rules, take-take, length-append}
use Rattle.der_base.specs.Length.{number, definite_length, length_octets, is_indefinite}
use Rattle.der_base.specs.Tag.{is_constructed}
use Rattle.der_base.specs.declared.length.Length.{Length}
use Rattle.der_core.specs.ReaderState.{ReaderState, rest_of, advanced_state, nested_state, Reads}
use Rattle.der_base.specs.HeaderGrammar.{LengthNext, definite}
use Rattle.der_base.proofs.LengthLemmas.{shortest, length_small}
use Rattle.der_core.specs.AfterFirstOctet.{RawHeadNext}
use Rattle.der_core.specs.Identifier.{identifier_tag}
use Rattle.der_core.proofs.StateLemmas.{reads_front, rest_after}
use Rattle.der_core.proofs.TagReadLemmas.{found_alone, tag_found}
use Rattle.der_core.specs.Outcome.{Outcome, Gives, outcome_of}
use Rattle.der_core.specs.Reader.{read_slice_outcome, remaining_answer}
use Rattle.der_core.specs.Decode.{Passes}
use Rattle.der_core.specs.Header.{head_of, HeaderNext}
use Rattle.der_core.specs.declared.header.Header.{Header}
use Rattle.der_core.proofs.HeaderReadLemmas.{passed_header}
use Rattle.der_c_core.specs.ErrorCode.{no_error}
use Rattle.der_c_core.specs.declared.element.DerElement.{DerElement}
use Rattle.der_c_core.specs.ElementCalls.{IsReturnedElement, ReadsElement, following, there}
use Rattle.der_c_core.specs.EnterCalls.{EntersContents, entered}
use Rattle.der_c_core.specs.CReader.{reader_state}
use Rattle.der_c_core.specs.declared.reader.DerReader.{DerReader}
use Rattle.der_core.specs.Nested.{CanNest}
use Rattle.der_base.specs.Arithmetic.{sans_eoc}
use Rattle.der_c_core.specs.Short.{IsNextOctet, IsPlain, IsShortHeader, IsShortElement, IsShortValue}
use Rattle.der_c_core.specs.declared.short.ShortHeader.{ShortHeader}
use Rattle.der_c_core.proofs.WordLemmas.{first_octet_determines_tag}

slice_fits : (s : ReaderState) (n : ℕ) → s.failed ≡ false → s.position + n ≤ s.end → read_slice_outcome n s ≡ outcome_of (Ok (take n (rest_of s))) (advanced_state s n)
slice_fits s n working fits = grind arith

-- a list of two, three or four numbers at least
first_two : (l : List ℕ) → 2 ≤ length l → l ≡ get_or l 0 0 ∷ get_or l 1 0 ∷ drop 2 l
first_two [] h = absurd (omega arith)
first_two (a ∷ []) h = absurd (omega arith)
first_two (a ∷ b ∷ l) h = refl

first_three : (l : List ℕ) → 3 ≤ length l → l ≡ get_or l 0 0 ∷ get_or l 1 0 ∷ get_or l 2 0 ∷ drop 3 l
first_three [] h = absurd (omega arith)
first_three (a ∷ []) h = absurd (omega arith)
first_three (a ∷ b ∷ []) h = absurd (omega arith)
first_three (a ∷ b ∷ c ∷ l) h = refl

first_four : (l : List ℕ) → 4 ≤ length l → l ≡ get_or l 0 0 ∷ get_or l 1 0 ∷ get_or l 2 0 ∷ get_or l 3 0 ∷ drop 4 l
first_four [] h = absurd (omega arith)
first_four (a ∷ []) h = absurd (omega arith)
first_four (a ∷ b ∷ []) h = absurd (omega arith)
first_four (a ∷ b ∷ c ∷ []) h = absurd (omega arith)
first_four (a ∷ b ∷ c ∷ d ∷ l) h = refl

-- the length octets of a number of one octet and of two
octets_of_one : (n : ℕ) → 128 ≤ n → n < 256 → length_octets n ≡ 129 ∷ n ∷ []
octets_of_one n low high =
    let is : 0 + n ≡ n = omega arith in
    subst (λ k. length_octets k ≡ 129 ∷ n ∷ []) is (shortest 1 (n ∷ []) (omega arith) refl (high, tt) (omega arith))

octets_of_two : (a b : ℕ) → 0 < a → a < 256 → b < 256 → length_octets (a * 256 + b) ≡ 130 ∷ a ∷ b ∷ []
octets_of_two a b some high low =
    let is : (0 + a) * 256 + b ≡ a * 256 + b = omega arith in
    subst (λ k. length_octets k ≡ 130 ∷ a ∷ b ∷ []) is (shortest 2 (a ∷ b ∷ []) (omega arith) refl (high, (low, tt)) (omega arith))

pub remaining_ok : (s : ReaderState) (l : List ℕ) → Ok l ≡ remaining_answer s → (s.failed ≡ false) × (rest_of s ≡ l)
remaining_ok s l e = (grind rules, grind rules)

-- the headers of two, three and four octets
module _ (s : ReaderState) (l : List ℕ) (is_rest : Ok l ≡ remaining_answer s) (plain : IsPlain (get_or l 0 0)) where
  pub header_of_two : 2 ≤ length l → get_or l 1 0 < 128 → IsShortHeader (record { first = get_or l 0 0; size = 2; count = get_or l 1 0 }) s
  header_of_two long small =
      let n = get_or l 1 0 in
      let rest = remaining_ok s l is_rest in
      let octets = length_small n small in
      record {
        working = rest.0;
        plain = plain;
        few = omega (arith, small);
        more = drop 2 l;
        next = rest.1 ∙ first_two l long ∙ ap (λ x. get_or l 0 0 ∷ (x ++ drop 2 l)) (sym octets);
        size = sym (ap (λ x. 1 + length x) octets);
      }

  pub header_of_three : (n : ℕ) → 3 ≤ length l → get_or l 1 0 ≡ 129 → n ≡ get_or l 2 0 → 128 ≤ n → n < 256 → IsShortHeader (record { first = get_or l 0 0; size = 3; count = n }) s
  header_of_three n long form is low high =
      let rest = remaining_ok s l is_rest in
      let octets = octets_of_one n low high in
      record {
        working = rest.0;
        plain = plain;
        few = omega (arith, high);
        more = drop 3 l;
        next = rest.1 ∙ first_three l long ∙ ap (λ x. get_or l 0 0 ∷ (x ∷ get_or l 2 0 ∷ drop 3 l)) form ∙ ap (λ x. get_or l 0 0 ∷ (129 ∷ x ∷ drop 3 l)) (sym is) ∙ ap (λ x. get_or l 0 0 ∷ (x ++ drop 3 l)) (sym octets);
        size = sym (ap (λ x. 1 + length x) octets);
      }

  pub header_of_four : (a b : ℕ) → 4 ≤ length l → get_or l 1 0 ≡ 130 → a ≡ get_or l 2 0 → b ≡ get_or l 3 0 → 0 < a → a < 256 → b < 256
      → IsShortHeader (record { first = get_or l 0 0; size = 4; count = a * 256 + b }) s
  header_of_four a b long form is_a is_b some high low =
      let rest = remaining_ok s l is_rest in
      let octets = octets_of_two a b some high low in
      record {
        working = rest.0;
        plain = plain;
        few = omega (arith, high, low);
        more = drop 4 l;
        next = rest.1 ∙ first_four l long ∙ ap (λ x. get_or l 0 0 ∷ (x ∷ get_or l 2 0 ∷ get_or l 3 0 ∷ drop 4 l)) form
            ∙ ap (λ x. get_or l 0 0 ∷ (130 ∷ x ∷ get_or l 3 0 ∷ drop 4 l)) (sym is_a) ∙ ap (λ x. get_or l 0 0 ∷ (130 ∷ a ∷ x ∷ drop 4 l)) (sym is_b) ∙ ap (λ x. get_or l 0 0 ∷ (x ++ drop 4 l)) (sym octets);
        size = sym (ap (λ x. 1 + length x) octets);
      }

-- the header is read, and the reader is after it
pub short_header_passes : {h : ShortHeader} {s : ReaderState} → IsShortHeader h s
    → Passes (RawHeadNext (record { first = h.first; number = h.first % 32 }, definite_length h.count)) s (record s { position = s.position + h.size })
short_header_passes {h} {s} p =
    let o = h.first in
    let ls = length_octets h.count in
    let b = advanced_state s 1 in
    let first : Reads s b (o ∷ []) = reads_front s (o ∷ []) (ls ++ p.more) p.next in
    let tag = tag_found p.working first (found_alone b o p.plain.0) in
    let after : rest_of b ≡ ls ++ p.more = rest_after s (o ∷ []) (ls ++ p.more) p.next in
    let t = advanced_state b (length ls) in
    let length_read : Passes (LengthNext (definite_length h.count)) b t = record {
      octets = length ls;
      working = p.working;
      next = subst (λ l. LengthNext (definite_length h.count) s.rules l (length ls)) (sym after) (definite h.count p.more p.few);
      there = omega (arith, ap length after, length-append ls p.more);
      leaves = refl;
    } in
    let sum : s.position + 1 + length ls ≡ s.position + h.size = omega (arith, p.size) in
    subst (λ k. Passes (RawHeadNext (record { first = o; number = o % 32 }, definite_length h.count)) s (record s { position = k })) sum
    (passed_header tag length_read (λ flagged. absurd (let no : false ≡ true = flagged in cc)))

-- a short header, with the contents that its length counts
pub short_is_element : {h : ShortHeader} {s : ReaderState} {from to : ℕ} → IsShortHeader h s → from ≡ s.position + h.size → to ≡ from + h.count → to ≤ s.end → IsShortElement h.first from to s
short_is_element {h} {s} {from} {to} p begins ends whole =
    let o = h.first in
    let u = record s { position = from } in
    let header : Header = record { tag = identifier_tag o (o % 32); length = definite_length h.count; constructed = is_constructed o } in
    let passed : Passes (HeaderNext header) s u = subst (λ k. Passes (HeaderNext header) s (record s { position = k })) (sym begins) (short_header_passes p) in
    let at_front : IsNextOctet s o = λ working q more split. (let v : o ∷ (length_octets h.count ++ p.more) ≡ q ∷ more = sym p.next ∙ split in cc) in
    let count : h.count ≡ to - from = omega (arith, ends) in
    record {
      header = header;
      passed = passed;
      word = sym (first_octet_determines_tag (head_of header) s u o passed at_front p.plain.1 p.plain.2);
      length = ap definite_length count;
      constructed = refl;
      ordered = omega (arith, ends);
      there = whole;
    }

module _ {o from to : ℕ} {s : ReaderState} (p : IsShortElement o from to s) where
  -- the contents of a short element
  abbrev pub short_octets : List ℕ
  short_octets = take (to - from) (drop from s.input)

  -- they are there
  pub short_slice : Gives (read_slice_outcome (number (head_of p.header).length)) (record s { position = from }) (Ok short_octets) (record s { position = to })
  short_slice =
      let u = record s { position = from } in
      let n = to - from in
      let e = slice_fits u n p.passed.working (omega (arith, p.ordered, p.there)) in
      let same : take n (rest_of u) ≡ short_octets = take-take n (s.end - from) (drop from s.input) (omega (arith, p.there)) in
      let at : from + n ≡ to = omega (arith, p.ordered) in
      subst (λ (l : Length). Gives (read_slice_outcome (number l)) u (Ok short_octets) (record s { position = to })) (sym p.length) (record {
        answered = sym (ap (λ (q : Outcome (List ℕ)). q.answer) e ∙ ap Ok same);
        leaves = sym (ap (λ (q : Outcome (List ℕ)). q.after) e ∙ ap (λ k. record s { position = k }) at);
      })

  pub short_returned : {e : DerElement} → IsShortValue s.input s.position o from to e → IsReturnedElement (head_of p.header) short_octets s.position from e
  short_returned v =
      record {
        contents = rw p.length (v.contents ∙ sym (take-take (to - from) (to - from) (drop from s.input) (omega arith)));
        tag = v.tag ∙ sym p.word;
        start = v.start;
        contents_start = v.contents_start;
        constructed = v.constructed ∙ sym p.constructed;
        indefinite = v.indefinite ∙ sym (ap is_indefinite p.length);
      }

  -- a short element is read
  pub short_reads : {old e : DerElement} → IsShortValue s.input s.position o from to e → ReadsElement s no_error old e (record s { position = to })
  short_reads v = following p.header (record s { position = from }) p.passed (there short_octets short_slice refl (short_returned v))

  -- a short element is entered
  pub short_enters : {old new : DerReader} → s.depth < 64 → reader_state new ≡ record s { position = from; end = to; depth = s.depth + 1; failed = false }
      → EntersContents (head_of p.header) (record s { position = from }) no_error old new (record s { position = to })
  short_enters {old} {new} shallow inside =
      let u = record s { position = from } in
      let n = to - from in
      let at : from + n ≡ to = omega (arith, p.ordered) in
      let fits : CanNest u n = (omega (arith, at, p.there), shallow) in
      let working : s.failed ≡ false = p.passed.working in
      let nested : reader_state new ≡ nested_state u n = inside ∙ ap (λ k. record s { position = from; end = k; depth = s.depth + 1; failed = false }) (sym at) ∙ ap (λ b. record s { position = from; end = from + n; depth = s.depth + 1; failed = b }) (sym working) in
      entered (subst (λ (l : Length). CanNest u (number l)) (sym p.length) fits) refl
      (nested ∙ ap (λ (l : Length). nested_state u (number (sans_eoc l))) (sym p.length))
      (ap (λ k. record s { position = k }) (sym at) ∙ ap (λ (l : Length). advanced_state u (number l)) (sym p.length))

-- SETs OF OCTET STRINGs, as they are read.
use Rattle.std.proofs.Common.{◌≡◌, ◌≢◌, ℕ, ◌+◌, ◌-◌, ◌^◌, ◌<◌, ◌≤◌, Bool, true, false, Result, Ok, Err, IfOk, OnOk, IsOk, IsTrue, List, [], ◌∷◌, ◌++◌, length, Bor, take, drop, take_at, refl, sym, ap, subst, ◌∙◌, append-nil, append_assoc, length-append, ◌⊎◌, ⊎_elim, arith}
use Rattle.der.specs.Prelude.{error_at, number, definite_length, IsBefore, Error, OctetString, Set, header_octets, Der, ElementNext, ElementRead, head_of, HeaderNext, Gives, Header, read_slice_outcome, ReaderState, rest_of, reader_position, Reads, slice_state}
use Rattle.der.specs.Tag.{label}
use Rattle.der.specs.ErrorKinds.{SetOrdering}
use Rattle.std.proofs.lemmas.List.{take-append-drop}
use Rattle.std.proofs.lemmas.List.Concat.{flat_map-append}
use Rattle.der.proofs.DelimitedLemmas.{element_front}
use Rattle.der.proofs.HeaderLemmas.{header_front}
use Rattle.der.specs.Decode.{Passes, ReadsOrLacks, ReaderDecodes, had_failed, decodes, refuses}
use Rattle.der.specs.Element.{no_header, other_tag, in_contents}
use Rattle.der.specs.Nested.{CanNest, Closes, forwarded, left_over, whole, NestedAnswer, not_entered, entered}
use Rattle.der.specs.Outcome.{IsBinding}
use Rattle.der.proofs.DecodeLemmas.{remaining_ok, rest-beginning}
use Rattle.der.proofs.WholeLemmas.{finish_ok, finishes}
use Rattle.der.proofs.DerLemmas.{headers_are_encodings}
use Rattle.der.specs.Reader.{remaining_answer, finish_answer}
use Rattle.der.specs.ReaderState.{IsSound, initial_state, nested_state, resumed_state}
use Rattle.der.specs.Prelude.{SliceReader}
use Rattle.der.proofs.ContentsLemmas.{After, definite, after_eoc, value_ran, rest_inside, closes_ok}
use Rattle.der.proofs.ElementLemmas.{entered_part}
use Rattle.der.proofs.LawfulLemmas.{elements_are_encodings, passed_encodings}
use Rattle.der.proofs.StateLemmas.{length-rest, position_on, reads_none, reads_on, reads_front, failed_on}
use Rattle.der.specs.BorrowedOctets.{borrowed_octets, borrowed_lawful}
use Rattle.der.specs.Octets.{IsCounted, TakesOctets, BorrowedOctetsRead}
use Rattle.der.specs.declared.example.borrowed_octets.BorrowedOctets.{BorrowedOctets}
use Rattle.example_calls.specs.AscendingStrings.{string_octets, joined_strings, MayFollow, set_octets, StringsAscend, PassesStrings, ReadsAscending, OrderAnswer, ascending, falling}

-- the state of every reader of a slice is sound
pub slice_sound : (r : SliceReader) → IsSound (slice_state r)
slice_sound r = record { ordered = r.ordered; in_input = r.in_input; addressable = r.addressable; shallow = r.shallow; failure_kept = λ failed. refl }

-- these octets, borrowed in place of others
abbrev pub borrowed_string : Bor (List ℕ) → (octets : List ℕ) → length octets < 2 ^ 32 → BorrowedOctets
borrowed_string place octets counted = record { octets = record { bytes = record place { now = octets }; counted = counted } }

slice_keeps_working : (n : ℕ) (s t : ReaderState) (octets : List ℕ) → Gives (read_slice_outcome n) s (Ok octets) t → t.failed ≡ false
slice_keeps_working n s t octets h = grind arith

closed_working : {has_eoc : Bool} (q t : ReaderState) (end depth : ℕ) → After has_eoc (resumed_state q end depth) t → q.failed ≡ false → t.failed ≡ false
closed_working q t end depth (definite m e) w = ap (λ (x : ReaderState). x.failed) e ∙ w
closed_working q t end depth (after_eoc m e) w = ap (λ (x : ReaderState). x.failed) e.leaves ∙ w

element_working : {converts : Error → Error → Type 0} {s t : ReaderState} {v : BorrowedOctets} → ElementRead OctetString converts (BorrowedOctetsRead borrowed_octets) s (Ok v) t → t.failed ≡ false
element_working (no_header e f d reported r) = absurd (cc)
element_working (other_tag h f passed tagged reported r) = absurd (cc)
element_working {t = t} {v = v} (in_contents h u passed tagged answers) =
    let ran = value_ran answers in
    closed_working ran.last t u.end u.depth ran.following (slice_keeps_working _ ran.part ran.last (borrowed_octets v) ran.ran)

-- a reader that has returned an OCTET STRING has not failed
pub decoded_working : {converts : Error → Error → Type 0} {s t : ReaderState} {v : BorrowedOctets} → ReaderDecodes true (ElementRead OctetString converts (BorrowedOctetsRead borrowed_octets)) converts s (Ok v) t → t.failed ≡ false
decoded_working (had_failed f refused leaves) = absurd refused
decoded_working (decodes w ok answers) = element_working (answers refl)
decoded_working (refuses u w refused answers leaves) = absurd (let no : false ≡ true = refused in cc)

-- a reader that has returned an OCTET STRING has read its encoding
pub string_read : {converts : Error → Error → Type 0} {s t : ReaderState} (result : Result BorrowedOctets Error) → s.rules ≡ Der
    → IfOk result (λ v. t.failed ≡ false → Passes (ElementNext OctetString (TakesOctets IsCounted borrowed_octets) v) s t)
    → ReaderDecodes true (ElementRead OctetString converts (BorrowedOctetsRead borrowed_octets)) converts s result t → IfOk result (λ v. Reads s t (string_octets (borrowed_octets v)))
string_read (Err e) der ok exact = tt
string_read {s = s} {t = t} (Ok v) der ok exact = (passed_encodings (elements_are_encodings borrowed_lawful) s t v der (ok (decoded_working exact))).1

-- the octets of the next OCTET STRING fit a length
pub string_counted : (s : ReaderState) (x more : List ℕ) → IsSound s → rest_of s ≡ string_octets x ++ more → length x < 2 ^ 32
string_counted s x more sound next = omega (arith, length-rest s sound, sound.in_input, sound.addressable, ap length next, length-append (string_octets x) more, length-append (header_octets OctetString (length x)) x)

-- the next OCTET STRING is an element
pub next_string_is_element : (s : ReaderState) (v : BorrowedOctets) (more : List ℕ) → IsSound s → s.rules ≡ Der → rest_of s ≡ string_octets (borrowed_octets v) ++ more
    → ElementNext OctetString (TakesOctets IsCounted borrowed_octets) v s.rules (rest_of s) (length (string_octets (borrowed_octets v)))
next_string_is_element s v more sound der next =
    let m = length (string_octets (borrowed_octets v)) in
    subst (λ r. ElementNext OctetString (TakesOctets IsCounted borrowed_octets) v r (rest_of s) m) (sym der)
    ((elements_are_encodings borrowed_lawful).every (rest_of s) v m (omega (arith, length-rest s sound, sound.in_input, sound.addressable)) (record { is_valid = v.octets.counted; following = more; split = next; whole = refl }))

-- reading that does not allocate is never out of memory
pub not_lacking : {A E : Type 0} (oom : E → Bool) (s t : ReaderState) (m : ℕ) (result : Result A E) → ReadsOrLacks oom false s m result t → IsOk result
not_lacking oom s t m result read = ⊎_elim (λ h. h.0) (λ h. absurd (let no = h.0 in cc)) read

-- ascending OCTET STRINGs were read up to here, and `last` is the last of them
pub record PassedTo (s t : ReaderState) (last : List ℕ) : Type 0 where
  pub front : List (List ℕ)
  pub ascend : StringsAscend (front ++ last ∷ [])
  pub reads : Reads s t (joined_strings (front ++ last ∷ []))

ascend_one_more : (front : List (List ℕ)) (x y : List ℕ) → StringsAscend (front ++ x ∷ []) → MayFollow x y → StringsAscend ((front ++ x ∷ []) ++ y ∷ [])
ascend_one_more [] x y up may = (may, tt)
ascend_one_more (z ∷ []) x y up may = (up.0, (may, tt))
ascend_one_more (z ∷ w ∷ more) x y up may = (up.0, ascend_one_more (w ∷ more) x y up.1 may)

joined_more : (front : List (List ℕ)) (x : List ℕ) → joined_strings (front ++ x ∷ []) ≡ joined_strings front ++ string_octets x
joined_more front x = flat_map-append string_octets front (x ∷ []) ∙ ap (λ l. joined_strings front ++ l) (append-nil (string_octets x))

pub passed_next : {s t u : ReaderState} (x y : List ℕ) → PassedTo s t x → Reads t u (string_octets y) → MayFollow x y → PassedTo s u y
passed_next {s} {t} {u} x y p reads may =
    record {
      front = p.front ++ x ∷ [];
      ascend = ascend_one_more p.front x y p.ascend may;
      reads = subst (Reads s u) (sym (joined_more (p.front ++ x ∷ []) y)) (reads_on p.reads reads);
    }

-- joined encodings determine their OCTET STRINGs
pub record Split (front strings : List (List ℕ)) (following : List ℕ) : Type 0 where
  pub more : List (List ℕ)
  pub split : strings ≡ front ++ more
  pub left : following ≡ joined_strings more

pub one_split : (front strings : List (List ℕ)) (following : List ℕ) → joined_strings front ++ following ≡ joined_strings strings → Split front strings following
one_split [] strings following e = record { more = strings; split = refl; left = e }
one_split (x ∷ front) [] following e = absurd (cc)
one_split (x ∷ front) (y ∷ strings) following e =
    let same = element_front OctetString OctetString x y (joined_strings front ++ following) (joined_strings strings) (sym (append_assoc (string_octets x) (joined_strings front) following) ∙ e) in
    let further = one_split front strings following same.2 in
    record { more = further.more; split = ap (λ z. z ∷ strings) (sym same.1) ∙ ap (λ l. x ∷ l) further.split; left = further.left }

nothing_left : (s : ReaderState) → s.end ≤ s.position → rest_of s ≡ []
nothing_left s end = let none : s.end - s.position ≡ 0 = omega (arith, end) in ap (λ n. take n (drop s.position s.input)) none

empty : (strings : List (List ℕ)) → joined_strings strings ≡ [] → strings ≡ []
empty [] e = refl
empty (y ∷ more) e = absurd (cc)

-- at the end there are none
pub passed_none : (s : ReaderState) → s.end ≡ s.position → PassesStrings s (Ok tt) s
passed_none s end =
    record {
      ok = (record { strings = []; ascend = tt; reads = reads_none s }, end);
      exact = λ strings are. ascending (subst StringsAscend (sym (empty strings (sym are ∙ nothing_left s (omega (arith, end))))) tt) refl;
    }

-- at the end those are all
pub passed_all : {s t : ReaderState} (x : List ℕ) → PassedTo s t x → t.end ≡ t.position → PassesStrings s (Ok tt) t
passed_all {s} {t} x p end = record { ok = (record { strings = p.front ++ x ∷ []; ascend = p.ascend; reads = p.reads }, end); exact = alone }
  where
    alone : (strings : List (List ℕ)) → rest_of s ≡ joined_strings strings → OrderAnswer {A = Unit {0}} s.position strings tt (Ok tt)
    alone strings are =
        let split = one_split (p.front ++ x ∷ []) strings (rest_of t) (sym p.reads.split ∙ are) in
        let none = empty split.more (sym split.left ∙ nothing_left t (omega (arith, end))) in
        ascending (subst StringsAscend (sym (split.split ∙ ap (λ l. (p.front ++ x ∷ []) ++ l) none ∙ append-nil _)) p.ascend) refl

-- the OCTET STRING that was read is the one in the input
pub string_is : {s t : ReaderState} (x y more : List ℕ) → Reads s t (string_octets y) → rest_of s ≡ string_octets x ++ more → x ≡ y
string_is {t = t} x y more reads next = (element_front OctetString OctetString x y more (rest_of t) (sym next ∙ reads.split)).1

not_both : {A : Type 0} (result : Result A Error) (e : Error) → result ≡ Err e → IsOk result → ⊥
not_both result e was ok = cc

same_error : {A : Type 0} (result : Result A Error) (e f : Error) → result ≡ Err e → result ≡ Err f → e ≡ f
same_error result e f was is = cc

something_left : (s : ReaderState) → IsSound s → s.end ≢ s.position → rest_of s ≢ []
something_left s sound unfinished none = unfinished (omega (arith, length-rest s sound, ap length none, sound.ordered))

-- a reader whose `is_finished` returns false is not at its end
pub unfinished_at : {b : Bool} (s : ReaderState) → b ≡ false → (s.end ≡ s.position → IsTrue b) → s.end ≢ s.position
unfinished_at s said reported end = let no = reported end in cc

-- reading the first does not fail
pub first_refused : (s : ReaderState) (strings : List (List ℕ)) (result : Result BorrowedOctets Error) (e : Error) → result ≡ Err e → IsSound s → s.end ≢ s.position → rest_of s ≡ joined_strings strings
    → ((x more : List ℕ) → rest_of s ≡ string_octets x ++ more → IsOk result) → ⊥
first_refused s [] result e was sound unfinished are complete = something_left s sound unfinished are
first_refused s (x ∷ more) result e was sound unfinished are complete = not_both result e was (complete x (joined_strings more) are)

-- reading a string fails if it comes before the preceding one
pub next_refused : {s t : ReaderState} (x : List ℕ) (strings : List (List ℕ)) (result : Result BorrowedOctets Error) (e : Error) → result ≡ Err e → IsSound t → t.end ≢ t.position → PassedTo s t x → rest_of s ≡ joined_strings strings
    → ((y more : List ℕ) → rest_of t ≡ string_octets y ++ more
    → IsOk result ⊎ (IsBefore (string_octets y) (string_octets x) × (result ≡ Err (error_at SetOrdering (reader_position t)))))
    → OrderAnswer {A = Unit {0}} s.position strings tt (Err e)
next_refused {s} {t} x strings result e was sound unfinished p are exact =
    let split = one_split (p.front ++ x ∷ []) strings (rest_of t) (sym p.reads.split ∙ are) in
    go split.more split.split split.left
  where
    go : (more : List (List ℕ)) → strings ≡ (p.front ++ x ∷ []) ++ more → rest_of t ≡ joined_strings more → OrderAnswer {A = Unit {0}} s.position strings tt (Err e)
    go [] split left = absurd (something_left t sound unfinished left)
    go (y ∷ more) split left =
        ⊎_elim
        (λ ok. absurd (not_both result e was ok))
        (λ h. falling p.front more x y (split ∙ append_assoc p.front (x ∷ []) (y ∷ more)) p.ascend h.0
        (let reported : e ≡ error_at SetOrdering (reader_position t) = same_error result e _ was h.1 in ap Err (reported ∙ ap (λ n. error_at SetOrdering (definite_length n)) (position_on p.reads))))
        (exact y (joined_strings more) left)

-- the header of a SET that was read
pub set_read : {s t : ReaderState} (h : Header) → s.rules ≡ Der → Passes (HeaderNext h) s t → (head_of h).tag ≡ Set → Reads s t (header_octets Set (number (head_of h).length))
set_read {s} {t} h der passed tagged = subst (λ tag. Reads s t (header_octets tag (number (head_of h).length))) tagged (passed_encodings headers_are_encodings s t h der passed).1

-- the header of a SET with n octets of contents
abbrev pub header_of_set : ℕ → Header
header_of_set n = record { tag = Set; length = definite_length n; constructed = (label Set).constructed }

pub next_set_header : (s : ReaderState) (n : ℕ) (more : List ℕ) → IsSound s → s.rules ≡ Der → n < 2 ^ 32 → rest_of s ≡ header_octets Set n ++ more
    → HeaderNext (header_of_set n) s.rules (rest_of s) (length (header_octets Set n))
next_set_header s n more sound der small next =
    subst (λ r. HeaderNext (header_of_set n) r (rest_of s) (length (header_octets Set n))) (sym der)
    (headers_are_encodings.every (rest_of s) (header_of_set n) _ (omega (arith, length-rest s sound, sound.in_input, sound.addressable))
    (record { is_valid = record { says = refl; numbered = omega arith; small = small }; following = more; split = next; whole = refl }))

-- octets that begin with the header of a SET are read as that header alone
pub set_alone : {s t : ReaderState} (h : Header) (n : ℕ) (more : List ℕ) → s.rules ≡ Der → Passes (HeaderNext h) s t → rest_of s ≡ header_octets Set n ++ more → (head_of h).tag ≡ Set
set_alone {s} {t} h n more der passed next =
    let reads = (passed_encodings headers_are_encodings s t h der passed).1 in
    (header_front (head_of h).tag Set (number (head_of h).length) n (rest_of t) more (sym reads.split ∙ next)).0

-- contents that are elements and nothing else
following_part : (n : ℕ) (s t q : ReaderState) → s.position + n ≤ s.end → ReadsAscending (nested_state s n) q → q.end ≡ q.position → t ≡ resumed_state q s.end s.depth → ReadsAscending s t × (t.position ≡ s.position + n)
following_part n s t q within r at_end leaves =
    let all = joined_strings r.strings in
    let count : n ≡ length all = omega (arith, at_end, ap (λ (x : ReaderState). x.end) r.reads.state, ap (λ (x : ReaderState). x.position) r.reads.state) in
    let inside = sym (rest_inside s n within) ∙ r.reads.split ∙ ap (λ l. all ++ l) (nothing_left q (omega (arith, at_end))) ∙ append-nil all in
    let there = leaves ∙ ap (λ x. resumed_state x s.end s.depth) r.reads.state in (
      record { strings = r.strings; ascend = r.ascend; reads = subst (λ x. Reads s x all) (sym there) (reads_front s all (drop n (rest_of s)) (sym (take-append-drop n (rest_of s)) ∙ ap (λ l. l ++ drop n (rest_of s)) inside)) },
      omega (arith, count, ap (λ (x : ReaderState). x.position) there),
    )

-- a nested part that was read by a closure
module _ {P Q : Type 0} {converts : Error → Error → Type 0} {post : P → Result (Unit {0}) Error → Q → Type 0} (before : P → ReaderState) (after : Q → ReaderState) (n : ℕ) (s t : ReaderState)
    (result : Result (Unit {0}) Error) (ran : (p : P) (a : Result (Unit {0}) Error) (q : Q) → before p ≡ nested_state s n → post p a q → PassesStrings (before p) a (after q)) where
  passed_part : (v : Unit {0}) → result ≡ Ok v → NestedAnswer converts post before after n s result t → ReadsAscending s t × (t.position ≡ s.position + n)
  passed_part v is (not_entered e f h c r) = absurd (cc)
  passed_part v is (entered p answer q can there h closes) =
      let k = closes_ok (subst (λ x. Closes converts answer (after q) s.end s.depth x t) is closes) in
      let r = subst (λ a. OnOk a (ReadsAscending (before p) (after q) × ((after q).end ≡ (after q).position))) k.0 (ran p answer q there h).ok in
      following_part n s t (after q) can.0 (subst (λ x. ReadsAscending x (after q)) there r.0) r.1 k.2

  pub part_read : (IsBinding true result → NestedAnswer converts post before after n s result t) → OnOk result (ReadsAscending s t × (t.position ≡ s.position + n))
  part_read answers = go result refl
    where
      go : (x : Result (Unit {0}) Error) → result ≡ x → OnOk x (ReadsAscending s t × (t.position ≡ s.position + n))
      go (Ok v) is = passed_part v is (answers (subst (IsBinding true) (sym is) tt))
      go (Err e) is = tt

  -- the elements in it are checked
  pub part_judged : (strings : List (List ℕ)) (more : List ℕ) → IsSound s → s.depth < 64 → rest_of s ≡ joined_strings strings ++ more → n ≡ length (joined_strings strings)
      → NestedAnswer converts post before after n s result t → OrderAnswer {A = Unit {0}} s.position strings tt result
  part_judged strings more sound shallow are count answers = go answers
    where
      can : CanNest s n
      can = (omega (arith, length-rest s sound, ap length are, length-append (joined_strings strings) more, count, sound.ordered), shallow)

      inside : rest_of (nested_state s n) ≡ joined_strings strings
      inside = rest_inside s n can.0 ∙ ap (take n) are ∙ take_at (joined_strings strings) more n (sym count)

      closed : {p : P} {answer : Result (Unit {0}) Error} {q : Q} → before p ≡ nested_state s n → post p answer q → OrderAnswer {A = Unit {0}} s.position strings tt answer
          → Closes converts answer (after q) s.end s.depth result t → OrderAnswer {A = Unit {0}} s.position strings tt result
      closed there h order (forwarded e a r l) = subst (OrderAnswer s.position strings tt) (a ∙ sym r) order
      closed {p} {answer} {q} there h order (left_over v e a less c r l) =
          absurd (let w = subst (λ x. OnOk x (ReadsAscending (before p) (after q) × ((after q).end ≡ (after q).position))) a (ran p answer q there h).ok in omega (arith, less, w.1))
      closed there h order (whole v a at r l) = subst (OrderAnswer s.position strings tt) (a ∙ sym r) order

      go : NestedAnswer converts post before after n s result t → OrderAnswer {A = Unit {0}} s.position strings tt result
      go (not_entered e f h c r) = absurd (let no = h.answered ∙ entered_part s n sound can in cc)
      go (entered p answer q it there h closes) =
          closed there h (subst (λ (x : ReaderState). OrderAnswer {A = Unit {0}} x.position strings tt answer) there ((ran p answer q there h).exact strings (ap rest_of there ∙ inside))) closes

-- a SET that is all of the octets, after its header
module _ (octets : List ℕ) (s t : ReaderState) (n : ℕ) (begun : s ≡ initial_state Der octets) (reads : Reads s t (header_octets Set n)) where
  whole_octets : octets ≡ header_octets Set n ++ rest_of t
  whole_octets = sym (ap rest_of begun ∙ rest-beginning Der octets) ∙ reads.split

  pub header_count : (strings : List (List ℕ)) → octets ≡ set_octets strings → (n ≡ length (joined_strings strings)) × (rest_of t ≡ joined_strings strings)
  header_count strings e =
      let one = header_front Set Set n (length (joined_strings strings)) (rest_of t) (joined_strings strings) (sym whole_octets ∙ e) in
      (one.1, one.2)

  pub header_position : (strings : List (List ℕ)) → octets ≡ set_octets strings → t.position ≡ length (header_octets Set (length (joined_strings strings)))
  header_position strings e = omega (arith, position_on reads, ap (λ (x : ReaderState). x.position) begun, ap (λ k. length (header_octets Set k)) (header_count strings e).0)

  -- its elements ascend
  pub whole_set : (u : ReaderState) (contents : List ℕ) → Ok contents ≡ remaining_answer t → ReadsAscending t u → u.position ≡ t.position + n → finish_answer u ≡ Ok tt
      → (strings : List (List ℕ)) × StringsAscend strings × (octets ≡ set_octets strings) × (contents ≡ joined_strings strings)
  whole_set u contents my_octets r passed finished =
      let all = joined_strings r.strings in
      let left = r.reads.split ∙ ap (λ l. all ++ l) (nothing_left u (finish_ok u finished).1) ∙ append-nil all in
      let count : n ≡ length all = omega (arith, passed, position_on r.reads) in
      (r.strings, r.ascend, whole_octets ∙ ap (λ l. header_octets Set n ++ l) left ∙ ap (λ k. header_octets Set k ++ all) count, (remaining_ok t contents my_octets).1 ∙ left)

  -- a reader after the last string is finished
  pub set_finished : (u : ReaderState) (strings : List (List ℕ)) → IsSound t → octets ≡ set_octets strings → ReadsAscending t u → u.position ≡ t.position + n → finish_answer u ≡ Ok tt
  set_finished u strings sound e r passed =
      let counted = header_count strings e in
      finishes u (failed_on r.reads ∙ failed_on reads ∙ ap (λ (x : ReaderState). x.failed) begun)
      (omega (arith, passed, counted.0, ap length counted.1, length-rest t sound, ap (λ (x : ReaderState). x.end) r.reads.state))

-- a result for the elements is one for the octets, at the position where the elements begin
pub order_refused : {begins : ℕ} (at_position : ℕ) (strings : List (List ℕ)) (octets : List ℕ) (result : Result (Unit {0}) Error) (e : Error) → result ≡ Err e → begins ≡ at_position
    → OrderAnswer begins strings tt result → OrderAnswer at_position strings octets (Err e)
order_refused at_position strings octets result e is begins (ascending up r) = absurd (cc)
order_refused at_position strings octets result e is begins (falling front following x y split up before r) =
    falling front following x y split up before (ap Err (same_error result e _ is r ∙ ap (λ b. error_at SetOrdering (definite_length (b + length (joined_strings (front ++ x ∷ []))))) begins))

pub order_result_moves : {begins : ℕ} (at_position : ℕ) (strings : List (List ℕ)) (octets contents : List ℕ) (result : Result (Unit {0}) Error) (v : Unit {0}) → result ≡ Ok v → contents ≡ octets
    → OrderAnswer begins strings tt result → OrderAnswer at_position strings octets (Ok contents)
order_result_moves at_position strings octets contents result v is e (ascending up r) = ascending up (ap Ok e)
order_result_moves at_position strings octets contents result v is e (falling front following x y split up before r) = absurd (cc)

-- The pieces in which tags and lengths are written.
use Rattle.std.proofs.Common.{rules, ◌≡◌, ◌≢◌, ℕ, zero, suc, ◌+◌, ◌-◌, ◌/◌, ◌%◌, ◌^◌, ◌<◌, ◌≤◌, List, [], ◌∷◌, ◌++◌, length, drop, map, refl, sym, ap, ◌∙◌, subst, length-append, arith, w32, Result, Ok, Err, OnOk, false, ⊎_elim, append_assoc}
use Rattle.std.proofs.lemmas.List.{drop-drop, append-nil}
use Rattle.std.proofs.lemmas.Bool.{cases_lt, lt-ltb, le-ltb}
use Rattle.std.proofs.lemmas.Bool.Decides.{nat_tests}
use Rattle.std.specs.Int.{to_be_bytes}
use Rattle.std.specs.Int.Digits.{digits_of}
use Rattle.std.proofs.lemmas.Int.Digits.{digits_of_step, length-digits_of_step}
use Rattle.der_base.specs.Length.{length_octets, digits}
use Rattle.der_base.proofs.DigitLemmas.{digits_positive}
use Rattle.der_base.proofs.LengthLemmas.{length_small, length_large}
use Rattle.der_base.specs.Tag.{label, leading_octet, tag_octets, continuation_octets}
use Rattle.der_base.specs.declared.tag.Tag.{Tag}
use Rattle.der_base.specs.declared.error.Error.{Error}
use Rattle.der_base.proofs.TagLemmas.{label_small, label_large}
use Rattle.der_base.specs.HeaderGrammar.{header_octets}
use Rattle.der_core.specs.Writer.{WriterState, WriterOutcome, Writes, write_outcome, write_pieces, chained_write, success_outcome, appended_state, space_outcome, written_count, HasSpace}
use Rattle.der_core.specs.Encode.{single_octets, high_digits, first_and_others, length_outcome, header_outcome}

-- the k lowest digits in base 256
abbrev low_digits : ℕ → ℕ → List ℕ
low_digits zero n = []
low_digits (suc k) n = low_digits k (n / 256) ++ n % 256 ∷ []

-- a number with k digits has no other digits
digits_low : (k n : ℕ) → length (digits_of 256 n) ≡ k → digits_of 256 n ≡ low_digits k n
digits_low zero n e = empty (digits_of 256 n) e
  where
    empty : (l : List ℕ) → length l ≡ 0 → l ≡ []
    empty [] h = refl
    empty (x ∷ l) h = absurd (omega arith)
digits_low (suc k) n e =
    let some : n ≢ 0 = λ z. let none : length (digits_of 256 n) ≡ 0 = ap (λ m. length (digits_of 256 m)) z in omega (arith, none, e) in
    let step = digits_of_step 256 n (omega arith) (omega arith) in
    let fewer : length (digits_of 256 (n / 256)) ≡ k = omega (arith, length-digits_of_step 256 n (omega arith) (omega arith), e) in
    step ∙ ap (λ l. l ++ n % 256 ∷ []) (digits_low k (n / 256) fewer)

-- the last k big-endian octets of a number with k digits are its digits
pub last_octets : (k n : ℕ) → 1 ≤ k → k ≤ 4 → length (digits_of 256 n) ≡ k → drop (4 - k) (to_be_bytes w32 n) ≡ digits_of 256 n
last_octets zero n pos few e = absurd (omega arith)
last_octets (suc zero) n pos few e = sym (digits_low 1 n e)
last_octets (suc (suc zero)) n pos few e = let a : n / 256 % 256 ≡ n / 256 ^ 1 % 256 = omega arith in sym (digits_low 2 n e ∙ cc)
last_octets (suc (suc (suc zero))) n pos few e =
    let a : n / 256 % 256 ≡ n / 256 ^ 1 % 256 = omega arith in
    let b : n / 256 / 256 % 256 ≡ n / 256 ^ 2 % 256 = omega arith in
    sym (digits_low 3 n e ∙ cc)
last_octets (suc (suc (suc (suc zero)))) n pos few e =
    let a : n / 256 % 256 ≡ n / 256 ^ 1 % 256 = omega arith in
    let b : n / 256 / 256 % 256 ≡ n / 256 ^ 2 % 256 = omega arith in
    let d : n / 256 / 256 / 256 % 256 ≡ n / 256 ^ 3 % 256 = omega arith in
    sym (digits_low 4 n e ∙ cc)
last_octets (suc (suc (suc (suc (suc k))))) n pos few e = absurd (omega arith)

-- an octet, then others in one write
pub others : (o : ℕ) (ds : List ℕ) → 1 ≤ length ds → first_and_others (o ∷ ds) ≡ (o ∷ []) ∷ ds ∷ []
others o [] some = absurd (omega arith)
others o (d ∷ ds) some = refl

-- a call that succeeded, with more after what follows it
after_call : (a : Result (Unit {0}) Error) (v : WriterState) (next longer : WriterState → WriterOutcome) (t u : WriterState) (r : Result (Unit {0}) Error)
    → Writes (chained_write a v next) (Ok tt) t → ((w : WriterState) → Writes (next w) (Ok tt) t → Writes (longer w) r u) → Writes (chained_write a v longer) r u
after_call (Ok x) v next longer t u r w more = more v w
after_call (Err e) v next longer t u r w more = let wrong = w.answered in cc

-- a call that failed, or what follows it
stopped_call : (a : Result (Unit {0}) Error) (v : WriterState) (next longer : WriterState → WriterOutcome) (t : WriterState) (e : Error)
    → Writes (chained_write a v next) (Err e) t → ((w : WriterState) → Writes (next w) (Err e) t → Writes (longer w) (Err e) t) → Writes (chained_write a v longer) (Err e) t
stopped_call (Ok x) v next longer t e w more = more v w
stopped_call (Err f) v next longer t e w more = record { answered = w.answered; leaves = w.leaves }

-- pieces, and others if the first were written
pub pieces_then : (ps qs : List (List ℕ)) (s t u : WriterState) (r : Result (Unit {0}) Error) → Writes (write_pieces ps s) (Ok tt) t → Writes (write_pieces qs t) r u → Writes (write_pieces (ps ++ qs) s) r u
pieces_then [] qs s t u r first next = subst (λ v. Writes (write_pieces qs v) r u) first.leaves next
pieces_then (p ∷ ps) qs s t u r first next =
    after_call (write_outcome p s).answer (write_outcome p s).after (write_pieces ps) (write_pieces (ps ++ qs)) t u r first (λ v w. pieces_then ps qs v t u r w next)

-- pieces that failed
pub pieces_stop : (ps qs : List (List ℕ)) (s t : WriterState) (e : Error) → Writes (write_pieces ps s) (Err e) t → Writes (write_pieces (ps ++ qs) s) (Err e) t
pieces_stop [] qs s t e first = let wrong = first.answered in cc
pieces_stop (p ∷ ps) qs s t e first =
    stopped_call (write_outcome p s).answer (write_outcome p s).after (write_pieces ps) (write_pieces (ps ++ qs)) t e first (λ v w. pieces_stop ps qs v t e w)

-- one piece
pub one_piece : (p : List ℕ) (s t : WriterState) (r : Result (Unit {0}) Error) → Writes (write_outcome p s) r t → Writes (write_pieces (p ∷ []) s) r t
one_piece p s t r w = step (write_outcome p s).answer (write_outcome p s).after w.answered w.leaves
  where
    step : (a : Result (Unit {0}) Error) (v : WriterState) → r ≡ a → t ≡ v → Writes (chained_write a v success_outcome) r t
    step (Ok x) v e f = record { answered = e; leaves = f }
    step (Err x) v e f = record { answered = e; leaves = f }

-- one more octet
pub singly_push : (xs : List ℕ) (x : ℕ) → single_octets (xs ++ x ∷ []) ≡ single_octets xs ++ (x ∷ []) ∷ []
singly_push [] x = refl
singly_push (y ∷ xs) x = ap (λ l. (y ∷ []) ∷ l) (singly_push xs x)

-- all digits but the last have bit 8 set
pub continued_push : (ds : List ℕ) (d : ℕ) → continuation_octets (ds ++ d ∷ []) ≡ map (λ x. 128 + x) ds ++ d ∷ []
continued_push [] d = refl
continued_push (e ∷ []) d = refl
continued_push (e ∷ f ∷ ds) d = ap (λ l. (128 + e) ∷ l) (continued_push (f ∷ ds) d)

-- splits off the last digit of a number
pub high_push : (n : ℕ) → 0 < n → high_digits n ≡ high_digits (n / 128) ++ (128 + n % 128) ∷ []
high_push n pos = ap (map (λ d. 128 + d)) (digits_of_step 128 n (omega arith) pos) ∙ map_push (digits_of 128 (n / 128)) (n % 128)
  where
    map_push : (ds : List ℕ) (d : ℕ) → map (λ x. 128 + x) (ds ++ d ∷ []) ≡ map (λ x. 128 + x) ds ++ (128 + d) ∷ []
    map_push [] d = refl
    map_push (e ∷ ds) d = ap (λ l. (128 + e) ∷ l) (map_push ds d)

-- the octets of a tag with a number from 31 on
pub tag_parts : (t : Tag) → 31 ≤ (label t).number → tag_octets t ≡ leading_octet (label t) 31 ∷ (high_digits ((label t).number / 128) ++ (label t).number % 128 ∷ [])
tag_parts t large =
    let n : ℕ = (label t).number in
    label_large (label t) large ∙ ap (λ l. leading_octet (label t) 31 ∷ continuation_octets l) (digits_positive 128 n (omega arith) ∙ digits_of_step 128 n (omega arith) (omega arith)) ∙ ap (λ l. leading_octet (label t) 31 ∷ l) (continued_push (digits_of 128 (n / 128)) (n % 128))

-- a length that requires more than one octet
pub length_parts : (k n : ℕ) → 1 ≤ k → k ≤ 4 → length (length_octets n) ≡ k + 1 → length_octets n ≡ (128 + k) ∷ drop (4 - k) (to_be_bytes w32 n)
length_parts k n pos few e =
    ⊎_elim
    (λ a. absurd (omega (arith, ap length (length_small n a), e)))
    (λ a.
    let same : digits 256 n ≡ digits_of 256 n = digits_positive 256 n (omega arith) in
    let size : length (digits_of 256 n) ≡ k = omega (arith, ap length (length_large n a), ap length same, e) in
    length_large n a ∙ ap (λ l. (128 + length l) ∷ l) same ∙ ap (λ m. (128 + m) ∷ digits_of 256 n) size ∙ ap (λ l. (128 + k) ∷ l) (sym (last_octets k n pos few size)))
    (cases_lt n 128)

-- a length that requires one octet
pub one_octet : (x n : ℕ) → x ≡ n → length (length_octets n) ≡ 1 → length_octets n ≡ x ∷ []
one_octet x n e one =
    ⊎_elim
    (λ a. length_small n a ∙ ap (λ y. y ∷ []) (sym e))
    (λ a. absurd (omega (arith, ap length (length_large n a), ap length (digits_positive 256 n (omega arith)), length-digits_of_step 256 n (omega arith) (omega arith), one)))
    (cases_lt n 128)

-- appending twice is appending both
pub appended_both : (s : WriterState) (xs ys : List ℕ) → appended_state (appended_state s xs) ys ≡ appended_state s (xs ++ ys)
appended_both s xs ys =
    let octets : (s.octets ++ xs) ++ ys ≡ s.octets ++ (xs ++ ys) = append_assoc s.octets xs ys in
    let following : drop (length ys) (drop (length xs) s.following) ≡ drop (length (xs ++ ys)) s.following = drop-drop (length ys) (length xs) s.following ∙ ap (λ k. drop k s.following) (sym (length-append xs ys)) in
    cc

-- appending nothing
appended_none : (s : WriterState) → appended_state s [] ≡ s
appended_none s = ap (λ l. record s { octets = l; following = s.following }) (append-nil s.octets)

-- a length is appended by two writes
pub length_appended : (k n : ℕ) (q : List ℕ) (s t u : WriterState) (r : Result (Unit {0}) Error) → 1 ≤ k → k ≤ 4 → length (length_octets n) ≡ k + 1 → q ≡ drop (4 - k) (to_be_bytes w32 n)
    → t ≡ appended_state s ((128 + k) ∷ []) → OnOk r (u ≡ appended_state t q) → OnOk r (u ≡ appended_state s (length_octets n))
length_appended k n q s t u (Err e) pos few size same first next = next
length_appended k n q s t u (Ok x) pos few size same first next =
    let parts : length_octets n ≡ (128 + k) ∷ q = length_parts k n pos few size ∙ ap (λ l. (128 + k) ∷ l) (sym same) in
    next ∙ ap (λ v. appended_state v q) first ∙ appended_both s ((128 + k) ∷ []) q ∙ ap (appended_state s) (sym parts)

-- the outcome of a length is that of its two writes
pub length_outcome_of : (k n : ℕ) (q : List ℕ) (s t u : WriterState) (r : Result (Unit {0}) Error) → 1 ≤ k → k ≤ 4 → length (length_octets n) ≡ k + 1 → q ≡ drop (4 - k) (to_be_bytes w32 n)
    → Writes (write_outcome ((128 + k) ∷ []) s) (Ok tt) t → Writes (write_outcome q t) r u → Writes (length_outcome n s) r u
length_outcome_of k n q s t u r pos few size same first next =
    let parts : length_octets n ≡ (128 + k) ∷ q = length_parts k n pos few size ∙ ap (λ l. (128 + k) ∷ l) (sym same) in
    let some : 1 ≤ length q = omega (arith, ap length parts, size) in
    let pieces : first_and_others (length_octets n) ≡ ((128 + k) ∷ []) ∷ q ∷ [] = ap first_and_others parts ∙ others (128 + k) q some in
    subst (λ l. Writes (write_pieces l s) r u) (sym pieces)
    (pieces_then (((128 + k) ∷ []) ∷ []) (q ∷ []) s t u r (one_piece ((128 + k) ∷ []) s t (Ok tt) first) (one_piece q t u r next))

-- each digit is one octet
pub length_high_digits : (n : ℕ) → length (high_digits n) ≡ length (digits_of 128 n)
length_high_digits n = count (digits_of 128 n)
  where
    count : (ds : List ℕ) → length (map (λ d. 128 + d) ds) ≡ length ds
    count [] = refl
    count (d ∷ ds) = ap suc (count ds)

-- one more octet after others, each in its own write
pub singly_then : (xs : List ℕ) (x : ℕ) (s t u : WriterState) (r : Result (Unit {0}) Error) → Writes (write_pieces (single_octets xs) s) (Ok tt) t → Writes (write_outcome (x ∷ []) t) r u
    → Writes (write_pieces (single_octets (xs ++ x ∷ [])) s) r u
singly_then xs x s t u r first next =
    subst (λ l. Writes (write_pieces l s) r u) (sym (singly_push xs x)) (pieces_then (single_octets xs) ((x ∷ []) ∷ []) s t u r first (one_piece (x ∷ []) t u r next))

-- or none, if the others failed
pub singly_stop : (xs : List ℕ) (x : ℕ) (s t : WriterState) (e : Error) → Writes (write_pieces (single_octets xs) s) (Err e) t → Writes (write_pieces (single_octets (xs ++ x ∷ [])) s) (Err e) t
singly_stop xs x s t e first =
    subst (λ l. Writes (write_pieces l s) (Err e) t) (sym (singly_push xs x)) (pieces_stop (single_octets xs) ((x ∷ []) ∷ []) s t e first)

-- octets appended in two parts
pub appended_twice : (xs ys : List ℕ) (s t u : WriterState) (r : Result (Unit {0}) Error) → t ≡ appended_state s xs → OnOk r (u ≡ appended_state t ys) → OnOk r (u ≡ appended_state s (xs ++ ys))
appended_twice xs ys s t u (Err e) first next = next
appended_twice xs ys s t u (Ok x) first next = next ∙ ap (λ v. appended_state v ys) first ∙ appended_both s xs ys

-- space for more, after the first octets were appended
pub space_after : (xs : List ℕ) (k : ℕ) (s t : WriterState) → t ≡ appended_state s xs → s.failed ≡ false → length s.octets + (length xs + k) ≤ s.stop → (t.failed ≡ false) × (length t.octets + k ≤ t.stop)
space_after xs k s t first alive space =
    let size : length t.octets ≡ length s.octets + length xs = ap (λ (v : WriterState). length v.octets) first ∙ length-append s.octets xs in
    let stop : t.stop ≡ s.stop = ap (λ (v : WriterState). v.stop) first in
    (ap (λ (v : WriterState). v.failed) first ∙ alive, omega (arith, size, stop, space))

-- the octets of a tag with a long number, from its first octet and the number
pub tag_spelled : (t : Tag) (x n : ℕ) → x ≡ leading_octet (label t) 31 → n ≡ (label t).number → 31 ≤ n → tag_octets t ≡ x ∷ (high_digits (n / 128) ++ n % 128 ∷ [])
tag_spelled t x n e f large =
    tag_parts t (omega (arith, f, large)) ∙ ap (λ m. leading_octet (label t) 31 ∷ (high_digits (m / 128) ++ m % 128 ∷ [])) (sym f) ∙ ap (λ o. o ∷ (high_digits (n / 128) ++ n % 128 ∷ [])) (sym e)

-- if there is space for n octets, the writer has not failed and neither its limit nor 32 bits are
-- exceeded
pub has_space : (n : ℕ) (s : WriterState) → HasSpace s n → (s.failed ≡ false) × (length s.octets + n ≤ s.stop) × (written_count s + n < 2 ^ 32)
has_space n s a = (grind (rules, nat_tests), grind (arith, nat_tests), grind (arith, nat_tests))

-- n octets for which there is space succeed, whatever the state after it
pub space_suffices : (n : ℕ) (s g : WriterState) → s.failed ≡ false → length s.octets + n ≤ s.stop → written_count s + n < 2 ^ 32 → space_outcome n s g ≡ success_outcome g
space_suffices n s g alive space few = rw (alive, lt-ltb (written_count s + n) (2 ^ 32) few, le-ltb s.stop (length s.octets + n) space)

-- a piece for which there is space, and what follows it
piece_with_space : (p : List ℕ) (s : WriterState) (next : WriterState → WriterOutcome) → s.failed ≡ false → length s.octets + length p ≤ s.stop → written_count s + length p < 2 ^ 32
    → chained_write (write_outcome p s).answer (write_outcome p s).after next ≡ next (appended_state s p)
piece_with_space p s next alive space few = ap (λ (o : WriterOutcome). chained_write o.answer o.after next) (space_suffices (length p) s (appended_state s p) alive space few)

-- octets that are written one by one if there is space for all
singles_with_space : (l : List ℕ) (s : WriterState) → s.failed ≡ false → length s.octets + length l ≤ s.stop → written_count s + length l < 2 ^ 32 → write_pieces (single_octets l) s ≡ success_outcome (appended_state s l)
singles_with_space [] s alive space few = ap success_outcome (sym (appended_none s))
singles_with_space (o ∷ l) s alive space few =
    let more : length (s.octets ++ o ∷ []) ≡ length s.octets + 1 = length-append s.octets (o ∷ []) in
    piece_with_space (o ∷ []) s (write_pieces (single_octets l)) alive (omega (arith, space)) (omega (arith, few))
    ∙ singles_with_space l (appended_state s (o ∷ [])) alive (omega (arith, more, space)) (omega (arith, more, few)) ∙ ap success_outcome (appended_both s (o ∷ []) l)

-- octets of which the first is written alone if there is space for all
others_with_space : (l : List ℕ) (s : WriterState) → s.failed ≡ false → length s.octets + length l ≤ s.stop → written_count s + length l < 2 ^ 32 → write_pieces (first_and_others l) s ≡ success_outcome (appended_state s l)
others_with_space [] s alive space few = ap success_outcome (sym (appended_none s))
others_with_space (o ∷ []) s alive space few = piece_with_space (o ∷ []) s success_outcome alive space few
others_with_space (o ∷ p ∷ l) s alive space few =
    let more : length (s.octets ++ o ∷ []) ≡ length s.octets + 1 = length-append s.octets (o ∷ []) in
    piece_with_space (o ∷ []) s (write_pieces ((p ∷ l) ∷ [])) alive (omega (arith, space)) (omega (arith, few))
    ∙ piece_with_space (p ∷ l) (appended_state s (o ∷ [])) success_outcome alive (omega (arith, more, space)) (omega (arith, more, few)) ∙ ap success_outcome (appended_both s (o ∷ []) (p ∷ l))

-- a header for which there is space is written as if by one write
pub header_with_space : (t : Tag) (n : ℕ) (s : WriterState) → HasSpace s (length (header_octets t n)) → header_outcome t n s ≡ success_outcome (appended_state s (header_octets t n))
header_with_space t n s has =
    let facts = has_space (length (header_octets t n)) s has in
    let sum : length (header_octets t n) ≡ length (tag_octets t) + length (length_octets n) = length-append (tag_octets t) (length_octets n) in
    let more : length (s.octets ++ tag_octets t) ≡ length s.octets + length (tag_octets t) = length-append s.octets (tag_octets t) in
    ap (λ (o : WriterOutcome). chained_write o.answer o.after (length_outcome n)) (singles_with_space (tag_octets t) s facts.0 (omega (arith, facts.1, sum)) (omega (arith, facts.2, sum)))
    ∙ others_with_space (length_octets n) (appended_state s (tag_octets t)) facts.0 (omega (arith, facts.1, sum, more)) (omega (arith, facts.2, sum, more)) ∙ ap success_outcome (appended_both s (tag_octets t) (length_octets n))

-- one write of the octets of a header equals writing the header, if there is space
pub header_at_once : (t : Tag) (n : ℕ) (octets : List ℕ) (s u : WriterState) (r : Result (Unit {0}) Error) → octets ≡ header_octets t n → HasSpace s (length octets)
    → Writes (write_outcome octets s) r u → Writes (header_outcome t n s) r u
header_at_once t n octets s u r same has wrote =
    let facts = has_space (length octets) s has in
    let outcome : write_outcome octets s ≡ header_outcome t n s =
    space_suffices (length octets) s (appended_state s octets) facts.0 facts.1 facts.2 ∙ ap (λ l. success_outcome (appended_state s l)) same ∙ sym (header_with_space t n s (subst (λ l. HasSpace s (length l)) same has)) in
    subst (λ (o : WriterOutcome). Writes o r u) outcome wrote

-- and whatever that write returns, writing the header succeeds
pub header_written : (t : Tag) (n : ℕ) (octets : List ℕ) (s u : WriterState) (r : Result (Unit {0}) Error) → octets ≡ header_octets t n → HasSpace s (length octets)
    → Writes (write_outcome octets s) r u → Writes (header_outcome t n s) (Ok tt) u
header_written t n octets s u r same has wrote =
    let facts = has_space (length octets) s has in
    let granted : write_outcome octets s ≡ success_outcome (appended_state s octets) = space_suffices (length octets) s (appended_state s octets) facts.0 facts.1 facts.2 in
    header_at_once t n octets s u (Ok tt) same has (record { answered = sym (ap (λ (o : WriterOutcome). o.answer) granted); leaves = wrote.leaves })

-- the octets of a header with a tag of one octet and a length of one to three
pub header_of_two : (t : Tag) (n f x : ℕ) → (label t).number < 31 → f ≡ leading_octet (label t) (label t).number → length (length_octets n) ≡ 1 → x ≡ n % 256 → f ∷ x ∷ [] ≡ header_octets t n
header_of_two t n f x small first one low =
    let octets : length_octets n ≡ n ∷ [] = one_octet n n refl one in
    let few : n < 128 = ⊎_elim (λ a. a) (λ a. absurd (omega (arith, ap length (length_large n a), ap length (digits_positive 256 n (omega arith)), length-digits_of_step 256 n (omega arith) (omega arith), one))) (cases_lt n 128) in
    let same : x ≡ n = omega (arith, low, few) in
    rw (label_small (label t) small, octets, first, same)

pub header_of_three : (t : Tag) (n f x : ℕ) → (label t).number < 31 → f ≡ leading_octet (label t) (label t).number → length (length_octets n) ≡ 2 → x ≡ n % 256 → f ∷ 129 ∷ x ∷ [] ≡ header_octets t n
header_of_three t n f x small first two low =
    let octets : length_octets n ≡ 129 ∷ n % 256 ∷ [] = length_parts 1 n (omega arith) (omega arith) two in
    rw (label_small (label t) small, octets, first, low)

pub header_of_four : (t : Tag) (n f y x : ℕ) → (label t).number < 31 → f ≡ leading_octet (label t) (label t).number → length (length_octets n) ≡ 3 → y ≡ n / 256 % 256 → x ≡ n % 256
    → f ∷ 130 ∷ y ∷ x ∷ [] ≡ header_octets t n
header_of_four t n f y x small first three high low =
    let digit : n / 256 % 256 ≡ n / 256 ^ 1 % 256 = omega arith in
    let octets : length_octets n ≡ 130 ∷ n / 256 ^ 1 % 256 ∷ n % 256 ∷ [] = length_parts 2 n (omega arith) (omega arith) three in
    rw (label_small (label t) small, octets, first, high, low, digit)

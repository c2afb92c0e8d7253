-- Octets have at most one fault, and how many octets truncated ones lack.
use Rattle.std.proofs.Common.{◌≡◌, ◌≢◌, ℕ, ◌+◌, ◌*◌, ◌/◌, ◌^◌, ◌<◌, ◌≤◌, Bool, List, [], Result, Ok, Err, IfOk, IfErr, ◌∷◌, ◌++◌, length, get_or, refl, sym, ap, ◌∙◌, subst, ⊎_elim, append_assoc, append-nil, length-append, arith}
use Rattle.std.proofs.lemmas.Bool.{cases_lt}
use Rattle.std.proofs.lemmas.List.{length-map}
use Rattle.std.proofs.lemmas.Result.{IfOk-weaker, IfErr-weaker}
use Rattle.std.proofs.lemmas.Int.Digits.{first_digits_of, number_digits_of, number_after_append, number_after_ge, all_below_base_digits_of}
use Rattle.std.specs.Int.Digits.{digits_of, number_from_digits, number_from_digits_after, AllBelowBase}
use Rattle.der_base.specs.Length.{digits}
use Rattle.der_base.specs.Tag.{continuation_octets}
use Rattle.der_base.proofs.DigitLemmas.{two_fronts, digits_positive, length_digits_positive, length_continued}
use Rattle.der_base.proofs.TagLemmas.{label_front}
use Rattle.ber.specs.Identifier.{identifier_octets, continued_digits}
use Rattle.ber.specs.Length.{IsLength, short, long, indefinite}
use Rattle.ber.specs.Header.{label_of_header, IsHeader, IsNext}
use Rattle.ber.specs.Fault.{fault_at, truncated_at, IsNumberFault, ends, padded, small, large, IsLengthFault, nothing, few, reserved, too_large, primitive, IsFault, no_octets, no_number, no_length}
use Rattle.ber.specs.declared.header.Header.{Header}
use Rattle.ber.specs.declared.length.Length.{Length}
use Rattle.ber.specs.declared.fault.Fault.{Fault}
use Rattle.ber.specs.declared.fault_kind.FaultKind.TheVariants.{Truncated, TagNumberPadded, TagNumberTooSmall, TagNumberTooLarge, LengthReserved, LengthTooLarge, PrimitiveIndefinite}
use Rattle.ber.proofs.GrammarLemmas.{number_never, identifier_some, identifier_set, length_some, header_two, one_header, no_header, next_within}

-- the first octet of a number that continues is above 128
first_above : (n : ℕ) (x : List ℕ) (o : ℕ) (rest : List ℕ) → 0 < n → continued_digits (digits_of 128 n) ++ x ≡ o ∷ rest → 128 < o
first_above n x o rest pos e = go (digits_of 128 n) (length_digits_positive 128 n (omega arith) pos) (first_digits_of 128 n (omega arith) pos) e
  where
    go : (ds : List ℕ) → 0 < length ds → 0 < get_or ds 0 0 → continued_digits ds ++ x ≡ o ∷ rest → 128 < o
    go [] some first f = absurd (omega arith)
    go (d ∷ ds) some first f = let g : 128 + d ≡ o = cc in omega arith

-- an octet up to 128 begins no number that continues
not_first : (n : ℕ) (x : List ℕ) (o : ℕ) (rest : List ℕ) → o ≤ 128 → 2 ^ 25 ≤ n → continued_digits (digits_of 128 n) ++ x ≡ o ∷ rest → ⊥
not_first n x o rest low many e = omega (arith, first_above n x o rest (omega arith) e)

not_first_alone : (n : ℕ) (o : ℕ) (rest : List ℕ) → o ≤ 128 → continued_digits (digits_of 128 n) ≡ o ∷ rest → ⊥
not_first_alone n o rest low e =
    ⊎_elim
    (λ a. omega (arith, first_above n [] o rest a (append-nil (continued_digits (digits_of 128 n)) ∙ e)))
    (λ a. let z : n ≡ 0 = omega arith in let f : [] ≡ o ∷ rest = ap (λ m. continued_digits (digits_of 128 m)) (sym z) ∙ e in cc)
    (cases_lt 0 n)

-- digits that continue consist of those at their front and more
more_digits : (ds es y : List ℕ) → continued_digits ds ≡ continued_digits es ++ y → (r : List ℕ) × (ds ≡ es ++ r) × (length r ≡ length y)
more_digits ds [] y e = (ds, refl, sym (length-map ds (λ d. 128 + d)) ∙ ap length e)
more_digits [] (d ∷ es) y e = cc
more_digits (c ∷ ds) (d ∷ es) y e =
    let f : 128 + c ≡ 128 + d = cc in
    let g : continued_digits ds ≡ continued_digits es ++ y = cc in
    let same : c ≡ d = omega arith in
    let r = more_digits ds es y g in
    (r.0, ap (λ l. c ∷ l) r.1 ∙ ap (λ x. x ∷ (es ++ r.0)) same, r.2)

-- a number with more digits after those of another
module _ (n m : ℕ) (r : List ℕ) (e : digits_of 128 n ≡ digits_of 128 m ++ r) where
  number_after : n ≡ number_from_digits_after 128 m r
  number_after =
      sym (number_digits_of 128 n (omega arith)) ∙ ap (number_from_digits 128) e ∙ number_after_append 128 0 (digits_of 128 m) r
      ∙ ap (λ k. number_from_digits_after 128 k r) (number_digits_of 128 m (omega arith))

  at_least : m ≤ n
  at_least = omega (arith, number_after, number_after_ge 128 m r (omega arith))

-- with at least one more digit it is 128 times as much
times_at_least : (n m d : ℕ) (r : List ℕ) → digits_of 128 n ≡ digits_of 128 m ++ d ∷ r → m ≤ n / 128
times_at_least n m d r e = omega (arith, number_after n m (d ∷ r) e, number_after_ge 128 (m * 128 + d) r (omega arith))

-- the digits up to the one that makes a number too large are the same
same_large : (n m : ℕ) (x y : List ℕ) → 2 ^ 25 ≤ n → n / 128 < 2 ^ 25 → 2 ^ 25 ≤ m → m / 128 < 2 ^ 25 → continued_digits (digits_of 128 n) ++ x ≡ continued_digits (digits_of 128 m) ++ y → length (digits_of 128 n) ≡ length (digits_of 128 m)
same_large n m x y a b c d e =
    ⊎_elim
    (λ r. let s = more_digits (digits_of 128 m) (digits_of 128 n) r.0 r.1 in sym (ends_here m n s.0 c d a s.1))
    (λ r. let s = more_digits (digits_of 128 n) (digits_of 128 m) (r.0 ∷ r.1) r.2 in ends_here n m s.0 a b c s.1)
    (two_fronts (continued_digits (digits_of 128 n)) (continued_digits (digits_of 128 m)) x y e)
  where
    ends_here : (n m : ℕ) (r : List ℕ) → 2 ^ 25 ≤ n → n / 128 < 2 ^ 25 → 2 ^ 25 ≤ m → digits_of 128 n ≡ digits_of 128 m ++ r → length (digits_of 128 n) ≡ length (digits_of 128 m)
    ends_here n m [] a b c e = ap length (e ∙ append-nil (digits_of 128 m))
    ends_here n m (p ∷ r) a b c e = absurd (omega (arith, times_at_least n m p r e))

-- octets have at most one fault of a number
one_number_fault : {s t : List ℕ} {f g : Fault} → IsNumberFault s f → IsNumberFault t g → s ≡ t → f ≡ g
one_number_fault (ends n low) (ends m below) e =
    let count : length (digits_of 128 n) ≡ length (digits_of 128 m) = sym (length-map (digits_of 128 n) (λ d. 128 + d)) ∙ ap length e ∙ length-map (digits_of 128 m) (λ d. 128 + d) in
    ap (λ k. truncated_at (1 + k) (3 + k)) count
one_number_fault (ends n low) (padded rest) e = absurd (not_first_alone n 128 rest (omega arith) e)
one_number_fault (ends n low) (small p rest below) e = absurd (not_first_alone n p rest (omega arith) e)
one_number_fault (ends n low) (large m rest many fits) e =
    let r = more_digits (digits_of 128 n) (digits_of 128 m) rest e in absurd (omega (arith, at_least n m r.0 r.1))
one_number_fault (padded rest) (ends m below) e = absurd (not_first_alone m 128 rest (omega arith) (sym e))
one_number_fault (padded rest) (padded more) e = refl
one_number_fault (padded rest) (small p more below) e = let f : 128 ≡ p = cc in absurd (omega arith)
one_number_fault (padded rest) (large m more many fits) e = absurd (not_first m more 128 rest (omega arith) many (sym e))
one_number_fault (small p rest low) (ends m below) e = absurd (not_first_alone m p rest (omega arith) (sym e))
one_number_fault (small p rest low) (padded more) e = let f : p ≡ 128 = cc in absurd (omega arith)
one_number_fault (small p rest low) (small q more below) e = refl
one_number_fault (small p rest low) (large m more many fits) e = absurd (not_first m more p rest (omega arith) many (sym e))
one_number_fault (large n rest many fits) (ends m below) e =
    let r = more_digits (digits_of 128 m) (digits_of 128 n) rest (sym e) in absurd (omega (arith, at_least m n r.0 r.1))
one_number_fault (large n rest many fits) (padded more) e = absurd (not_first n rest 128 more (omega arith) many e)
one_number_fault (large n rest many fits) (small p more below) e = absurd (not_first n rest p more (omega arith) many e)
one_number_fault (large n rest many fits) (large m more large_too room) e = ap (fault_at TagNumberTooLarge) (same_large n m rest more many fits large_too room e)

-- octets have at most one fault of a length
one_length_fault : {b c : Bool} {at : ℕ} {s t : List ℕ} {f g : Fault} → IsLengthFault b at s f → IsLengthFault c at t g → s ≡ t → f ≡ g
one_length_fault nothing nothing e = refl
one_length_fault nothing (few k ds some most cut) e = cc
one_length_fault nothing (reserved rest) e = cc
one_length_fault nothing (too_large ds rest some most big) e = cc
one_length_fault nothing (primitive off rest) e = cc
one_length_fault (few k ds some most cut) nothing e = cc
one_length_fault {at = at} (few k ds some most cut) (few j es more last short_too) e =
    let f : 128 + k ≡ 128 + j = cc in
    let g : ds ≡ es = cc in
    let h : k ≡ j = omega arith in
    ap (λ n. truncated_at (at + 1 + n) (at + 1 + k)) (ap length g) ∙ ap (λ n. truncated_at (at + 1 + length es) (at + 1 + n)) h
one_length_fault (few k ds some most cut) (reserved rest) e = let f : 128 + k ≡ 255 = cc in absurd (omega arith)
one_length_fault (few k ds some most cut) (too_large es rest more last big) e =
    let f : 128 + k ≡ 128 + length es = cc in
    let g : ds ≡ es ++ rest = cc in
    absurd (omega (arith, ap length g, length-append es rest))
one_length_fault (few k ds some most cut) (primitive off rest) e = let f : 128 + k ≡ 128 = cc in absurd (omega arith)
one_length_fault (reserved rest) nothing e = cc
one_length_fault (reserved rest) (few k ds some most cut) e = let f : 255 ≡ 128 + k = cc in absurd (omega arith)
one_length_fault (reserved rest) (reserved more) e = refl
one_length_fault (reserved rest) (too_large es more some most big) e = let f : 255 ≡ 128 + length es = cc in absurd (omega arith)
one_length_fault (reserved rest) (primitive off more) e = let f : (255 + 0) ≡ 128 = cc in absurd (omega (arith, f))
one_length_fault (too_large ds rest some most big) nothing e = cc
one_length_fault (too_large ds rest some most big) (few k es more last cut) e =
    let f : 128 + length ds ≡ 128 + k = cc in
    let g : ds ++ rest ≡ es = cc in
    absurd (omega (arith, ap length g, length-append ds rest))
one_length_fault (too_large ds rest some most big) (reserved more) e = let f : 128 + length ds ≡ 255 = cc in absurd (omega arith)
one_length_fault (too_large ds rest some most big) (too_large es more first last large_too) e = refl
one_length_fault (too_large ds rest some most big) (primitive off more) e = let f : 128 + length ds ≡ 128 = cc in absurd (omega arith)
one_length_fault (primitive off rest) nothing e = cc
one_length_fault (primitive off rest) (few k ds some most cut) e = let f : 128 ≡ 128 + k = cc in absurd (omega arith)
one_length_fault (primitive off rest) (reserved more) e = let f : (128 + 0) ≡ 255 = cc in absurd (omega (arith, f))
one_length_fault (primitive off rest) (too_large es more some most big) e = let f : 128 ≡ 128 + length es = cc in absurd (omega arith)
one_length_fault (primitive off rest) (primitive also more) e = refl

-- octets have at most one fault
pub one_fault : {s t : List ℕ} {f g : Fault} → IsFault s f → IsFault t g → s ≡ t → f ≡ g
one_fault no_octets no_octets e = refl
one_fault no_octets (no_number o low set number) e = cc
one_fault no_octets (no_length {more = more} l fits number) e = absurd (identifier_some l more e)
one_fault (no_number o low set number) no_octets e = cc
one_fault (no_number {s = s} o low set number) (no_number {s = t} p least also other) e = one_number_fault number other (let r : s ≡ t = cc in r)
one_fault (no_number {s = s} o low set number) (no_length {more = more} l fits other) e =
    let r = identifier_set o l s more set e in absurd (number_never number l.number more r.0 fits r.1)
one_fault (no_length {more = more} l fits number) no_octets e = absurd (identifier_some l more (sym e))
one_fault (no_length {more = more} l fits other) (no_number {s = s} o low set number) e =
    let r = identifier_set o l s more set (sym e) in absurd (number_never number l.number more r.0 fits r.1)
one_fault {g = g} (no_length {more = more} l fits number) (no_length {more = rest} m room other) e =
    let r = label_front l m more rest e in
    one_length_fault number (subst (λ k. IsLengthFault m.constructed k rest g) (sym (ap (λ i. length (identifier_octets i)) r.0)) other) r.1

-- digits that continue are fewer than those of a number that begins with them
fewer : (ds es x y : List ℕ) → 0 < length es → AllBelowBase 128 es → continued_digits ds ++ x ≡ continuation_octets es ++ y → length ds < length es
fewer [] es x y some all e = some
fewer (d ∷ ds) [] x y some all e = absurd (omega arith)
fewer (d ∷ ds) (c ∷ []) x y some all e = let f : 128 + d ≡ c = cc in absurd (omega (arith, all.0))
fewer (d ∷ ds) (c ∷ b ∷ es) x y some all e =
    let g : continued_digits ds ++ x ≡ continuation_octets (b ∷ es) ++ y = cc in
    let r = fewer ds (b ∷ es) x y (omega arith) all.1 g in
    omega (arith, r)

-- the number of digits of a tag number is that of its octets
digit_count : (n : ℕ) → 0 < n → length (continuation_octets (digits 128 n)) ≡ length (digits_of 128 n)
digit_count n pos = length_continued (digits 128 n) ∙ ap length (digits_positive 128 n pos)

-- the length that follows an identifier has the octets that its first octet announces
announced : {l : Length} {a : List ℕ} (k : ℕ) (x y : List ℕ) → IsLength l a → 1 ≤ k → (128 + k) ∷ x ≡ a ++ y → length a ≡ 1 + k
announced k x y (short n p) some e = let f : 128 + k ≡ n = cc in absurd (omega arith)
announced k x y (long ds first most all fits) some e = let f : 128 + k ≡ 128 + length ds = cc in omega arith
announced k x y indefinite some e = let f : 128 + k ≡ 128 = cc in absurd (omega arith)

-- what is said to be needed is in each header that begins with the octets
abbrev pub Needs : List ℕ → ℕ → ℕ → Header → Type 0
Needs octets at needed h = (at ≡ length octets) × (at < needed) × (needed ≤ h.header_len)

-- the offset and the number of a truncation
truncation : {a b n m : ℕ} (octets : List ℕ) (h : Header) → truncated_at a n ≡ truncated_at b m → Needs octets a n h → Needs octets b m h
truncation {a} {b} {n} {m} octets h e (p, q, r) =
    let f : a ≡ b = ap (λ (x : Fault). x.offset) e in
    let kind : Truncated n ≡ Truncated m = ap (λ (x : Fault). x.kind) e in
    let g : n ≡ m = cc in
    (sym f ∙ p, omega arith, omega arith)

-- the faults of a number that are no truncation
number_needs : {s : List ℕ} {f : Fault} {at needed : ℕ} → IsNumberFault s f → f ≡ truncated_at at needed
    → (n : ℕ) → 31 ≤ n → (x y : List ℕ) → s ++ x ≡ continuation_octets (digits 128 n) ++ y → (at ≡ 1 + length s) × (at < needed) × (needed ≤ 2 + length (continuation_octets (digits 128 n)))
number_needs {at = at} {needed = needed} (ends m low) e n many x y split =
    let f : 1 + length (digits_of 128 m) ≡ at = ap (λ (x : Fault). x.offset) e in
    let kind : Truncated (3 + length (digits_of 128 m)) ≡ Truncated needed = ap (λ (x : Fault). x.kind) e in
    let g : 3 + length (digits_of 128 m) ≡ needed = cc in
    let same : digits 128 n ≡ digits_of 128 n = digits_positive 128 n (omega arith) in
    let less = fewer (digits_of 128 m) (digits_of 128 n) x y (length_digits_positive 128 n (omega arith) (omega arith)) (all_below_base_digits_of 128 n (omega arith)) (split ∙ ap (λ l. continuation_octets l ++ y) same) in
    (omega (arith, length-map (digits_of 128 m) (λ d. 128 + d)), omega arith, omega (arith, less, digit_count n (omega arith)))
number_needs (padded rest) e n many x y split = let kind : TagNumberPadded ≡ Truncated _ = ap (λ (x : Fault). x.kind) e in cc
number_needs (small p rest below) e n many x y split = let kind : TagNumberTooSmall ≡ Truncated _ = ap (λ (x : Fault). x.kind) e in cc
number_needs (large m rest most fits) e n many x y split = let kind : TagNumberTooLarge ≡ Truncated _ = ap (λ (x : Fault). x.kind) e in cc

-- the faults of a length that are a truncation
length_needs : {b : Bool} {place at needed : ℕ} {s a : List ℕ} {f : Fault} {l : Length} → IsLengthFault b place s f → f ≡ truncated_at at needed
    → IsLength l a → (x y : List ℕ) → s ++ x ≡ a ++ y → (at ≡ place + length s) × (at < needed) × (needed ≤ place + length a)
length_needs {place = place} {at = at} {needed = needed} nothing e is x y split =
    let f : place ≡ at = ap (λ (x : Fault). x.offset) e in
    let kind : Truncated (place + 1) ≡ Truncated needed = ap (λ (x : Fault). x.kind) e in
    let g : place + 1 ≡ needed = cc in
    (omega arith, omega arith, omega (arith, length_some is))
length_needs {place = place} {at = at} {needed = needed} (few k ds some most cut) e is x y split =
    let f : place + 1 + length ds ≡ at = ap (λ (x : Fault). x.offset) e in
    let kind : Truncated (place + 1 + k) ≡ Truncated needed = ap (λ (x : Fault). x.kind) e in
    let g : place + 1 + k ≡ needed = cc in
    (omega arith, omega arith, omega (arith, announced k (ds ++ x) y is some split))
length_needs (reserved rest) e is x y split = let kind : LengthReserved ≡ Truncated _ = ap (λ (x : Fault). x.kind) e in cc
length_needs (too_large ds rest some most big) e is x y split = let kind : LengthTooLarge ≡ Truncated _ = ap (λ (x : Fault). x.kind) e in cc
length_needs (primitive off rest) e is x y split = let kind : PrimitiveIndefinite ≡ Truncated _ = ap (λ (x : Fault). x.kind) e in cc

-- a header that continues truncated octets has as many as are needed
pub needs : {octets : List ℕ} {f : Fault} {h : Header} (more : List ℕ) (at needed : ℕ) → IsFault octets f → f ≡ truncated_at at needed → IsHeader h (octets ++ more) → Needs octets at needed h
needs {h = h} more at needed no_octets e is = truncation [] h e (refl, omega arith, header_two is)
needs {h = h} more at needed (no_number {s = s} o low set number) e is =
    let r = identifier_set o (label_of_header h) (s ++ more) is.size set is.spelled in
    let n = number_needs number e h.number r.0 more is.size r.1 in
    (omega (arith, n.0), n.1, omega (arith, n.2, is.whole, ap length r.1, length-append (continuation_octets (digits 128 h.number)) is.size, length_some is.sized))
needs {h = h} more at needed (no_length {more = s} l fits number) e is =
    let id = identifier_octets l in
    let split = sym (append_assoc id s more) ∙ is.spelled in
    let r = label_front l (label_of_header h) (s ++ more) is.size split in
    let n = length_needs number e is.sized more [] (r.1 ∙ sym (append-nil is.size)) in
    (omega (arith, n.0, length-append id s), n.1, omega (arith, n.2, is.whole, ap length is.spelled, length-append (identifier_octets (label_of_header h)) is.size, ap (λ m. length (identifier_octets m)) r.0))

-- a call that returns a fault that there is returns no fault where there is a header
pub result_none : (s : List ℕ) (r : Result Header Fault) → IfErr r (λ f. IsFault s f) → IfErr r (λ f. (h : Header) → IsNext h s → ⊥)
result_none s r fault = IfErr-weaker r (λ f. IsFault s f) (λ f. (h : Header) → IsNext h s → ⊥) (λ f is h next. no_header is next.is next.rest next.split) fault

-- the header that it returns is within the octets
pub result_within : (s : List ℕ) (r : Result Header Fault) → IfOk r (λ h. IsNext h s) → IfOk r (λ h. (2 ≤ h.header_len) × (h.header_len ≤ length s))
result_within s r found = IfOk-weaker r (λ h. IsNext h s) (λ h. (2 ≤ h.header_len) × (h.header_len ≤ length s)) (λ h next. next_within next) found

-- it returns each header that there is
pub result_complete : (s : List ℕ) (r : Result Header Fault) → IfOk r (λ h. IsNext h s) → IfErr r (λ f. IsFault s f) → (h : Header) → IsNext h s → r ≡ Ok h
result_complete s (Ok g) found fault h next = ap Ok (one_header found.is next.is found.rest next.rest (sym found.split ∙ next.split)).0
result_complete s (Err f) found fault h next = absurd (no_header fault next.is next.rest next.split)

-- it returns each fault that there is
pub result_refused : (s : List ℕ) (r : Result Header Fault) → IfOk r (λ h. IsNext h s) → IfErr r (λ f. IsFault s f) → (f : Fault) → IsFault s f → r ≡ Err f
result_refused s (Ok h) found fault f is = absurd (no_header is found.is found.rest found.split)
result_refused s (Err g) found fault f is = ap Err (one_fault fault is refl)

-- a fault of a number stays
number_stays : {s : List ℕ} {f : Fault} (more : List ℕ) → IsNumberFault s f → ((n : ℕ) → f.kind ≢ Truncated n) → IsNumberFault (s ++ more) f
number_stays more (ends n low) other = absurd (other (3 + length (digits_of 128 n)) refl)
number_stays more (padded rest) other = padded (rest ++ more)
number_stays more (small n rest low) other = small n (rest ++ more) low
number_stays more (large n rest many fits) other =
    subst (λ l. IsNumberFault l (fault_at TagNumberTooLarge (length (digits_of 128 n)))) (sym (append_assoc (continued_digits (digits_of 128 n)) rest more)) (large n (rest ++ more) many fits)

-- a fault of a length stays
length_stays : {b : Bool} {at : ℕ} {s : List ℕ} {f : Fault} (more : List ℕ) → IsLengthFault b at s f → ((n : ℕ) → f.kind ≢ Truncated n) → IsLengthFault b at (s ++ more) f
length_stays {at = at} more nothing other = absurd (other (at + 1) refl)
length_stays {at = at} more (few k ds some most cut) other = absurd (other (at + 1 + k) refl)
length_stays more (reserved rest) other = reserved (rest ++ more)
length_stays {b} {at} more (too_large ds rest some most big) other =
    subst (λ l. IsLengthFault b at ((128 + length ds) ∷ l) (fault_at LengthTooLarge at)) (sym (append_assoc ds rest more)) (too_large ds (rest ++ more) some most big)
length_stays more (primitive off rest) other = primitive off (rest ++ more)

-- a fault other than a truncation stays
pub stays : {s : List ℕ} {f : Fault} (more : List ℕ) → IsFault s f → ((n : ℕ) → f.kind ≢ Truncated n) → IsFault (s ++ more) f
stays more no_octets other = absurd (other 2 refl)
stays more (no_number o low set number) other = no_number o low set (number_stays more number other)
stays {f = f} more (no_length {more = rest} l fits number) other =
    subst (λ x. IsFault x f) (sym (append_assoc (identifier_octets l) rest more)) (no_length l fits (length_stays more number other))

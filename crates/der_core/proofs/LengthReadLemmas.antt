-- Lengths, octet by octet.
use Rattle.std.proofs.Common.{◌≡◌, ℕ, max, ◌+◌, ◌-◌, ◌*◌, ◌^◌, ◌<◌, ◌≤◌, Bool, true, false, IsTrue, ◌↔◌, Result, Ok, Err, IfOk, IfErr, List, [], ◌∷◌, ◌++◌, length, refl, sym, ap, ◌∙◌, subst, append-nil, length-append, arith}
use Rattle.std.specs.Int.Digits.{number_from_digits, AllBelowBase}
use Rattle.std.proofs.lemmas.Int.Digits.{number_push, number_lt}
use Rattle.std.proofs.Math.Nat.{pow-le-pow_right}
use Rattle.der_base.specs.Error.{error_at, Refusal, refusal, end_refusal}
use Rattle.der_base.specs.Length.{definite_length, indefinite_length, length_octets}
use Rattle.der_base.specs.ScanGrammar.{NoBodyFault, BodyFault}
use Rattle.der_base.specs.HeaderGrammar.{LengthNext, definite, indefinite, LengthFault, nothing, few, far, longer, indefinite_form, no_body}
use Rattle.der_base.specs.declared.length.Length.{Length}
use Rattle.der_base.specs.declared.error.Error.{Error}
use Rattle.der_base.specs.declared.error.ErrorKind.{ErrorKind}
use Rattle.der_base.specs.declared.error.ErrorKind.TheVariants.{IndefiniteLength}
use Rattle.der_base.specs.declared.encoding_rules.EncodingRules.{EncodingRules}
use Rattle.der_base.specs.declared.encoding_rules.EncodingRules.TheVariants.{Ber, Der}
use Rattle.der_base.proofs.DigitLemmas.{all_below_push, number_small}
use Rattle.der_base.proofs.LengthLemmas.{length_small, octet_shortest, octet_cut, octet_longer}
use Rattle.der_core.specs.ReaderState.{ReaderState, rest_of, reader_position, stopped_state, Same, Reads}
use Rattle.der_core.specs.Decode.{Passes, Decodes, IsRefusedBy, at_fault, has_failed}
use Rattle.der_core.specs.AfterFirstOctet.{IsIndefiniteForm, RefusesIndefinite, RefusesLongLength, Stops}
use Rattle.der_core.specs.Scan.{ScansNext}
use Rattle.der_core.proofs.DecodeLemmas.{decoded_ok, decoded_err}
use Rattle.der_core.proofs.StateLemmas.{reads_on, position_on, failed_on, rules_on, stops_on, same_trans, error_stops, ByteRefused, byte_failed, byte_cut}

-- some octets of a length were read, which are digits of the number so far
pub record DigitsSoFar (a b : ReaderState) (i value : ℕ) : Type 0 where
  pub digits : List ℕ
  pub reads : Reads a b digits
  pub count : length digits ≡ i
  pub below : AllBelowBase 256 digits
  pub is : value ≡ number_from_digits 256 digits

pub digits_next : {a b c : ReaderState} {i value o : ℕ} → DigitsSoFar a b i value → Reads b c (o ∷ []) → o < 256 → DigitsSoFar a c (i + 1) (value * 256 + o)
digits_next {o = o} h g l =
    record {
      digits = h.digits ++ o ∷ [];
      reads = reads_on h.reads g;
      count = omega (arith, length-append h.digits (o ∷ []), h.count);
      below = all_below_push 256 h.digits o h.below l;
      is = ap (λ v. v * 256 + o) h.is ∙ sym (number_push 256 h.digits o);
    }

pub digits_small : {a b : ReaderState} {i value : ℕ} → DigitsSoFar a b i value → i ≤ 4 → value < 2 ^ 32
digits_small h l = omega (arith, number_small h.digits (omega (arith, h.count)) h.below, h.is)

-- with three octets or fewer, one more fits
pub digits_fit : {a b : ReaderState} {i value : ℕ} → DigitsSoFar a b i value → i < 4 → value < 2 ^ 24
digits_fit h l =
    let few : 256 ^ length h.digits ≤ 256 ^ 3 = (let q : length h.digits ≤ 3 = omega (arith, h.count) in pow-le-pow_right (omega arith) q) in
    omega (arith, number_lt 256 h.digits h.below, few, h.is)

-- all octets that the first announces
pub digits_whole : {a b : ReaderState} {n : ℕ} (i o : ℕ) → i ≡ o - 128 → DigitsSoFar a b i n → DigitsSoFar a b (o - 128) n
digits_whole {a} {b} {n} i o e h = subst (λ k. DigitsSoFar a b k n) e h

-- errors after the first octet
pub refused_far : {wrong : ErrorKind} {a t : ReaderState} {o : ℕ} {e : Error} → 133 ≤ o → e ≡ error_at wrong (reader_position a) → t ≡ stopped_state a a.position → RefusesLongLength wrong o a e t
refused_far {wrong} {a} {t} {o} {e} high reported leaves at here working = (
  refusal wrong (at + 1),
  far o (rest_of a) high,
  subst (λ n. Stops a (refusal wrong n) e t) here (error_stops a t wrong e reported leaves),
)

pub refused_cut : {wrong : ErrorKind} {a b t : ReaderState} {o i value : ℕ} {e : Error} → DigitsSoFar a b i value → 128 ≤ o → o < 133 → i < o - 128
    → (rest_of b ≡ []) × Stops b (end_refusal b.position) e t → (at : ℕ) → a.position ≡ at + 1 → (r : Refusal) × LengthFault NoBodyFault wrong a.rules at (o ∷ rest_of a) r × Stops a r e t
refused_cut {wrong} {a} {b} {t} {o} {e = e} h low high short g at here =
    let whole : h.digits ≡ rest_of a = sym (h.reads.split ∙ ap (λ l. h.digits ++ l) g.0 ∙ append-nil h.digits) in
    let end : at + 1 + length h.digits ≡ b.position = omega (arith, position_on h.reads) in (
      end_refusal (at + 1 + length h.digits),
      subst (λ l. LengthFault NoBodyFault wrong a.rules at (o ∷ l) (end_refusal (at + 1 + length h.digits))) whole (octet_cut at o h.digits low high (omega (arith, h.count))),
      subst (λ n. Stops a (end_refusal n) e t) (sym end) (stops_on h.reads g.1),
    )

pub refused_longer : {wrong : ErrorKind} {a b t : ReaderState} {o value least : ℕ} {e : Error} → DigitsSoFar a b (o - 128) value → 128 < o → o < 133 → least ≡ max 128 (256 ^ (o - 128 - 1))
    → value < least → e ≡ error_at wrong (reader_position b) → t ≡ stopped_state b b.position → RefusesLongLength wrong o a e t
refused_longer {wrong} {a} {b} {t} {o} {value} {least} {e} h low high is small reported leaves at here working =
    let below : number_from_digits 256 h.digits < max 128 (256 ^ (o - 128 - 1)) = omega (arith, h.is) in
    let there : at + 1 + (o - 128) ≡ b.position = omega (arith, position_on h.reads, h.count) in (
      refusal wrong (at + 1 + (o - 128)),
      subst (λ l. LengthFault NoBodyFault wrong a.rules at (o ∷ l) (refusal wrong (at + 1 + (o - 128)))) (sym h.reads.split) (octet_longer at o h.digits (rest_of b) low high h.count below),
      subst (λ n. Stops a (refusal wrong n) e t) (sym there) (stops_on h.reads (error_stops b t wrong e reported leaves)),
    )

pub found_long : {a b : ReaderState} {o value least : ℕ} → DigitsSoFar a b (o - 128) value → 128 < o → least ≡ max 128 (256 ^ (o - 128 - 1)) → least ≤ value
    → o < 133 → (l : List ℕ) × (length_octets value ≡ o ∷ l) × Reads a b l × (value < 2 ^ 32)
found_long {o = o} h low is large high =
    let enough : max 128 (256 ^ (o - 128 - 1)) ≤ number_from_digits 256 h.digits = omega (arith, h.is) in
    (h.digits, ap length_octets h.is ∙ octet_shortest o h.digits low h.count h.below enough, h.reads, digits_small h (omega arith))

-- a length was read
passed_octets : {a t : ReaderState} {n : ℕ} → a.failed ≡ false → Reads a t (length_octets n) → n < 2 ^ 32 → Passes (LengthNext (definite_length n)) a t
passed_octets {a} {t} {n} working h small =
    record {
      octets = length (length_octets n);
      working = working;
      next = subst (λ l. LengthNext (definite_length n) a.rules l (length (length_octets n))) (sym h.split) (definite n (rest_of t) small);
      there = omega (arith, ap length h.split, length-append (length_octets n) (rest_of t));
      leaves = h.state;
    }

as_length : {a t : ReaderState} {l k : Length} → k ≡ l → Passes (LengthNext l) a t → Passes (LengthNext k) a t
as_length {a} {t} e h = subst (λ x. Passes (LengthNext x) a t) (sym e) h

pub passed_short : {a t : ReaderState} {o : ℕ} {l : Length} → a.failed ≡ false → Reads a t (o ∷ []) → o < 128 → l ≡ definite_length o → Passes (LengthNext l) a t
passed_short {a} {t} {o} working h small e = as_length e (passed_octets working (subst (Reads a t) (sym (length_small o small)) h) (omega arith))

pub passed_long : {a b t : ReaderState} {o n : ℕ} {l : Length} → a.failed ≡ false → Reads a b (o ∷ []) → (x : List ℕ) × (length_octets n ≡ o ∷ x) × Reads b t x × (n < 2 ^ 32)
    → l ≡ definite_length n → Passes (LengthNext l) a t
passed_long {a} {b} {t} working h g e = as_length e (passed_octets working (subst (Reads a t) (sym g.1) (reads_on h g.2)) g.3)

-- an error in a length
pub length_ends : {wrong : ErrorKind} {a t : ReaderState} {e : Error} → ByteRefused a e t → IsRefusedBy (LengthFault BodyFault wrong) a e t
length_ends (byte_failed f reported leaves) = has_failed f reported leaves
length_ends {wrong} {a} (byte_cut working none stops) =
    at_fault (end_refusal a.position) working (subst (λ l. LengthFault BodyFault wrong a.rules a.position l (end_refusal a.position)) (sym none) nothing) stops.reported stops.leaves

-- an error in a definite length is one whatever the fault of a body is
looks_for_no_body : {F : ℕ → List ℕ → Refusal → Type 0} {wrong : ErrorKind} {rules : EncodingRules} {at : ℕ} {q : List ℕ} {r : Refusal} → LengthFault NoBodyFault wrong rules at q r → LengthFault F wrong rules at q r
looks_for_no_body nothing = nothing
looks_for_no_body (few k ds most short) = few k ds most short
looks_for_no_body (far o rest_of large) = far o rest_of large
looks_for_no_body (longer k ds rest_of some most sized never) = longer k ds rest_of some most sized never
looks_for_no_body (indefinite_form der rest) = indefinite_form der rest
looks_for_no_body (no_body ber rest_of f) = absurd f

after_octet : {wrong : ErrorKind} {a b t : ReaderState} {o : ℕ} {e : Error} → a.failed ≡ false → Reads a b (o ∷ []) → (r : Refusal) × LengthFault BodyFault wrong b.rules a.position (o ∷ rest_of b) r × Stops b r e t
    → IsRefusedBy (LengthFault BodyFault wrong) a e t
after_octet {wrong} {a} {b} {t} {o} {e} working h r =
    let fault : LengthFault BodyFault wrong a.rules a.position (o ∷ rest_of b) r.0 = subst (λ rules. LengthFault BodyFault wrong rules a.position (o ∷ rest_of b) r.0) (rules_on h) r.1 in
    at_fault r.0 working (subst (λ l. LengthFault BodyFault wrong a.rules a.position l r.0) (sym h.split) fault) (stops_on h r.2).reported (stops_on h r.2).leaves

pub length_refused : {wrong : ErrorKind} {a b t : ReaderState} {o : ℕ} {e : Error} → a.failed ≡ false → Reads a b (o ∷ []) → RefusesLongLength wrong o b e t
    → IsRefusedBy (LengthFault BodyFault wrong) a e t
length_refused {a = a} working h n =
    let r = n a.position (position_on h) (failed_on h ∙ working) in
    after_octet working h (r.0, looks_for_no_body r.1, r.2)

-- which rules apply
pub not_der : {b : Bool} {rules : EncodingRules} → IsTrue b ↔ (rules ≡ Der) → b ≡ false → rules ≡ Ber
not_der {rules = Ber} h e = refl
not_der {rules = Der} h e = absurd (let no : false ≡ true = sym e ∙ h.1 refl in cc)

-- the indefinite form
pub refused_under_der : {s t : ReaderState} {e : Error} → s.rules ≡ Der → e ≡ error_at IndefiniteLength (reader_position s) → t ≡ stopped_state s s.position → RefusesIndefinite s e t
refused_under_der {s} {t} {e} der reported leaves wrong at here working = (
  refusal IndefiniteLength (at + 1),
  indefinite_form der (rest_of s),
  subst (λ n. Stops s (refusal IndefiniteLength n) e t) here (error_stops s t IndefiniteLength e reported leaves),
)

refused_by_scan : {s t : ReaderState} {e : Error} → s.rules ≡ Ber → IsRefusedBy (λ rules. BodyFault) s e t → RefusesIndefinite s e s
refused_by_scan ber (has_failed f reported leaves) wrong at here working = absurd (let no : true ≡ false = sym f ∙ working in cc)
refused_by_scan {s} ber (at_fault r w fault reported leaves) wrong at here working = (
  record r { position = at + 1; fails = false },
  no_body ber (rest_of s) (subst (λ n. BodyFault n (rest_of s) r) here fault),
  record { reported = reported; leaves = ap (λ p. record s { position = p }) here },
)

-- the scan of the next body of a reader
pub scanned : (result : Result Length Error) (reliable : Bool) (s : ReaderState) → s.rules ≡ Ber → ScansNext reliable s result
    → IfOk result (λ l. IsIndefiniteForm l s s) × (reliable ≡ true → IfErr result (λ e. RefusesIndefinite s e s))
scanned (Ok l) reliable s ber h = (record { octets = h.1.ok.octets; under_ber = ber; next = h.1.ok.next; leaves = refl }, λ _. tt)
scanned (Err e) reliable s ber h = (tt, λ is. refused_by_scan ber (h.1.refused is))

passed_indefinite : {a b t : ReaderState} {o : ℕ} {l : Length} → o ≡ 128 → a.failed ≡ false → Reads a b (o ∷ []) → IsIndefiniteForm l b t → Passes (LengthNext l) a t
passed_indefinite {a} {b} {t} {o} {l} is working h form =
    let body = form.next in
    let octets : 128 ∷ (body.body ++ body.following) ≡ rest_of a = ap (λ x. 128 ∷ x) (sym body.split) ∙ ap (λ x. x ∷ rest_of b) (sym is) ∙ sym h.split in
    let counts : indefinite_length (length body.body) ≡ l = ap indefinite_length (sym body.sized) ∙ sym body.counts in
    let next : LengthNext (indefinite_length (length body.body)) Ber (128 ∷ (body.body ++ body.following)) 1 = indefinite body.following body.is_body in
    record {
      octets = 1;
      working = working;
      next = subst (λ x. LengthNext x a.rules (rest_of a) 1) counts (subst (λ s. LengthNext (indefinite_length (length body.body)) a.rules s 1) octets (subst (λ rules. LengthNext (indefinite_length (length body.body)) rules (128 ∷ (body.body ++ body.following)) 1) (sym (sym (rules_on h) ∙ form.under_ber)) next));
      there = omega (arith, ap length h.split);
      leaves = form.leaves ∙ h.state;
    }

pub length_by_form : {wrong : ErrorKind} {reliable : Bool} {a b t : ReaderState} {o : ℕ} (result : Result Length Error) → o ≡ 128 → a.failed ≡ false → Reads a b (o ∷ []) → Same a b → Same b t
    → IfOk result (λ l. IsIndefiniteForm l b t) → (reliable ≡ true → IfErr result (λ e. RefusesIndefinite b e t)) → Decodes LengthNext (LengthFault BodyFault wrong) reliable a result t
length_by_form (Ok l) is working h p q found refused = decoded_ok (same_trans p q) (passed_indefinite is working h found)
length_by_form {wrong} {a = a} {b} {t} {o} (Err e) is working h p q found refused =
    decoded_err (same_trans p q) (λ reliable.
    let r = refused reliable wrong a.position (position_on h) (failed_on h ∙ working) in
    after_octet working h (r.0, subst (λ x. LengthFault BodyFault wrong b.rules a.position (x ∷ rest_of b) r.0) (sym is) r.1, r.2))

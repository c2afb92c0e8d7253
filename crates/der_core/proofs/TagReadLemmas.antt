-- Tags, octet by octet.
use Rattle.std.proofs.Common.{◌≡◌, ◌≢◌, ℕ, ◌+◌, ◌*◌, ◌/◌, ◌%◌, ◌^◌, bit_and, ◌<◌, ◌≤◌, ◌⊎◌, inl, inr, Bool, true, false, IsTrue, ◌↔◌, Result, Ok, Err, IfOk, Option, Some, None, nat_lt, List, [], ◌∷◌, ◌++◌, length, refl, sym, ap, ◌∙◌, subst, ⊎_elim, append-nil, length-append, arith}
use Rattle.std.specs.Int.Bits.{and_zero_r}
use Rattle.std.proofs.lemmas.Nat.{and_mask, and_block, shr_split}
use Rattle.der_base.specs.Length.{digits}
use Rattle.der_base.specs.Error.{error_at, Refusal, refusal, end_refusal}
use Rattle.der_base.specs.Tag.{universal_tag, other_tag, is_constructed, continuation_octets, IsIdentifier, IdentifierFault, identifier_kind}
use Rattle.der_base.specs.HeaderGrammar.{IdentifierNext, identifier}
use Rattle.der_base.specs.declared.tag.Tag.{Tag}
use Rattle.der_base.specs.declared.tag.Tag.TheVariants.{OctetString}
use Rattle.der_base.specs.declared.error.Error.{Error}
use Rattle.der_base.specs.declared.error.ErrorKind.TheVariants.{TagNumberInvalid}
use Rattle.der_base.specs.declared.encoding_rules.EncodingRules.{EncodingRules}
use Rattle.der_base.specs.declared.encoding_rules.EncodingRules.TheVariants.{Ber, Der}
use Rattle.der_base.proofs.LongNumberLemmas.{SoFar, so_far_none as none_so_far, so_far_more, number_found as found, number_cut, number_refused_first, number_refused_few, number_refused_many}
use Rattle.der_base.proofs.IdentifierLemmas.{identifier_at, segments_identifier, universal_identifier, short_identifier, long_identifier, fault_nothing, fault_universal}
use Rattle.der_base.proofs.TagLemmas.{universal_constructed, universal_class, universal_octets, universal_found}
use Rattle.der_core.specs.ReaderState.{ReaderState, rest_of, reader_position, stopped_state, Reads}
use Rattle.der_core.specs.Decode.{Passes, IsRefusedBy, at_fault, has_failed}
use Rattle.der_core.specs.AfterFirstOctet.{IdentifierAfter, IsAlone, RefusesIdentifier, RefusesNumber, Stops}
use Rattle.der_core.specs.Identifier.{tag_or_segments, identifier_tag}
use Rattle.der_core.proofs.StateLemmas.{reads_none, reads_on, position_on, failed_on, rules_on, stops_on, error_stops, ByteRefused, byte_failed, byte_cut}

pub bit_six : (o : ℕ) → bit_and o 32 ≡ o / 32 % 2 * 32
bit_six o =
    let low : bit_and (o % 2 ^ 5) 0 ≡ 0 = and_zero_r (o % 2 ^ 5) in
    let high : bit_and (o / 2 ^ 5) 1 ≡ o / 2 ^ 5 % 2 = and_mask (o / 2 ^ 5) 1 in
    ap (λ n. bit_and n 32) (sym (shr_split o 5)) ∙ and_block 5 (o / 2 ^ 5) 1 (o % 2 ^ 5) 0 (omega arith) (omega arith) ∙ omega (arith, low, high)

-- the octets read of a number that continues
abbrev pub NumberSoFar : ReaderState → ReaderState → ℕ → Type 0
NumberSoFar a b v = (s : List ℕ) × Reads a b s × SoFar s v

pub so_far_none : (s : ReaderState) → NumberSoFar s s 0
so_far_none s = ([], reads_none s, none_so_far)

pub so_far_next : {a b c : ReaderState} {v p : ℕ} → NumberSoFar a b v → Reads b c (p ∷ []) → 128 ≤ p → p < 256 → ((v ≡ 0) × (p % 128 ≡ 0 → ⊥)) ⊎ (v ≡ 0 → ⊥)
    → v * 128 + p % 128 < 2 ^ 25 → NumberSoFar a c (v * 128 + p % 128)
so_far_next {v = v} {p = p} h g low high some small =
    let pos : 0 < v * 128 + p % 128 = ⊎_elim (λ a. let b = a.1 in omega arith) (λ a. omega arith) some in
    (h.0 ++ p ∷ [], reads_on h.1 g, so_far_more h.0 v p h.2 low high pos small)

pub number_found : {a b c : ReaderState} {v p : ℕ} → NumberSoFar a b v → Reads b c (p ∷ []) → p < 128 → 31 ≤ v * 128 + p % 128
    → Reads a c (continuation_octets (digits 128 (v * 128 + p % 128))) × (31 ≤ v * 128 + p % 128) × (v * 128 + p % 128 < 2 ^ 32)
number_found {a} {b} {c} {v} {p} h g low large =
    let r = found h.0 v p h.2 low large in
    (subst (Reads a c) r.0 (reads_on h.1 g), large, r.1)

pub number_ends : {a b t : ReaderState} {v : ℕ} {e : Error} → NumberSoFar a b v → (rest_of b ≡ []) × Stops b (end_refusal b.position) e t → RefusesNumber a e t
number_ends {a} {b} {t} {v} {e} h g at o here working low high all =
    let whole : h.0 ≡ rest_of a = sym (h.1.split ∙ ap (λ l. h.0 ++ l) g.0 ∙ append-nil h.0) in
    let end : at + length (o ∷ h.0) ≡ b.position = omega (arith, position_on h.1) in (
      end_refusal (at + length (o ∷ h.0)),
      subst (λ l. IdentifierFault a.rules at (o ∷ l) (end_refusal (at + length (o ∷ h.0)))) whole (number_cut at o v h.0 low high all h.2),
      subst (λ n. Stops a (end_refusal n) e t) (sym end) (stops_on h.1 g.1),
    )

number_refuses : {a b c t : ReaderState} {s : List ℕ} {p : ℕ} {e : Error} (at o : ℕ) → Reads a b s → Reads b c (p ∷ []) → a.position ≡ at + 1
    → IdentifierFault a.rules at (o ∷ (s ++ p ∷ rest_of c)) (refusal TagNumberInvalid (at + length (o ∷ s) + 1)) → e ≡ error_at TagNumberInvalid (reader_position c) → t ≡ stopped_state c c.position
    → (r : Refusal) × IdentifierFault a.rules at (o ∷ rest_of a) r × Stops a r e t
number_refuses {a} {b} {c} {t} {s} {p} {e} at o h g here fault reported leaves =
    let whole : s ++ p ∷ rest_of c ≡ rest_of a = sym (h.split ∙ ap (λ l. s ++ l) g.split) in
    let there : at + length (o ∷ s) + 1 ≡ c.position = omega (arith, position_on h, position_on g) in (
      refusal TagNumberInvalid (at + length (o ∷ s) + 1),
      subst (λ l. IdentifierFault a.rules at (o ∷ l) (refusal TagNumberInvalid (at + length (o ∷ s) + 1))) whole fault,
      subst (λ n. Stops a (refusal TagNumberInvalid n) e t) (sym there) (stops_on (reads_on h g) (error_stops c t TagNumberInvalid e reported leaves)),
    )

pub refused_first : {a b c t : ReaderState} {v p : ℕ} {e : Error} → NumberSoFar a b v → Reads b c (p ∷ []) → v ≡ 0 → p % 128 ≡ 0
    → e ≡ error_at TagNumberInvalid (reader_position c) → t ≡ stopped_state c c.position → RefusesNumber a e t
refused_first {c = c} {v = v} {p = p} h g z q reported leaves at o here working low high all =
    number_refuses at o h.1 g here (number_refused_first at o v p h.0 (rest_of c) low high all h.2 z q) reported leaves

pub refused_few : {a b c t : ReaderState} {v p : ℕ} {e : Error} → NumberSoFar a b v → Reads b c (p ∷ []) → p < 128 → v * 128 + p % 128 < 31
    → e ≡ error_at TagNumberInvalid (reader_position c) → t ≡ stopped_state c c.position → RefusesNumber a e t
refused_few {c = c} {v = v} {p = p} h g l few reported leaves at o here working low high all =
    number_refuses at o h.1 g here (number_refused_few at o v p h.0 (rest_of c) low high all h.2 l few) reported leaves

pub refused_many : {a b c t : ReaderState} {v p : ℕ} {e : Error} → NumberSoFar a b v → Reads b c (p ∷ []) → 128 ≤ p → p < 256 → 2 ^ 25 ≤ v * 128 + p % 128
    → e ≡ error_at TagNumberInvalid (reader_position c) → t ≡ stopped_state c c.position → RefusesNumber a e t
refused_many {c = c} {v = v} {p = p} h g l m many reported leaves at o here working low high all =
    number_refuses at o h.1 g here (number_refused_many at o v p h.0 (rest_of c) low high all h.2 l m many) reported leaves

-- which rules apply
pub is_ber : {b : Bool} {rules : EncodingRules} → IsTrue b ↔ (rules ≡ Ber) → b ≡ true → rules ≡ Ber
is_ber h e = h.0 e

pub not_ber : {b : Bool} {rules : EncodingRules} → IsTrue b ↔ (rules ≡ Ber) → b ≡ false → rules ≡ Der
not_ber {rules = Der} h e = refl
not_ber {rules = Ber} h e = absurd (let no : false ≡ true = sym e ∙ h.1 refl in cc)

-- a tag was read
passed_tag : {a t : ReaderState} {id : List ℕ} {x : Tag × Bool} → a.failed ≡ false → Reads a t id → IsIdentifier a.rules id x.0 x.1
    → Passes (IdentifierNext x) a t
passed_tag {a} {t} {id} {x} working h is =
    record {
      octets = length id;
      working = working;
      next = subst (λ l. IdentifierNext x a.rules l (length id)) (sym h.split) (identifier (rest_of t) is);
      there = omega (arith, ap length h.split, length-append id (rest_of t));
      leaves = h.state;
    }

-- transport along an equal constructed bit
with_bit : {o : ℕ} {s t : ReaderState} {x : Tag} {b c : Bool} → b ≡ c → IdentifierAfter o x c s t → IdentifierAfter o x b s t
with_bit {o} {s} {t} {x} e h = subst (λ y. IdentifierAfter o x y s t) (sym e) h

pub found_universal : (s : ReaderState) (o : ℕ) {x : Tag} {b : Bool} → Some x ≡ universal_tag o → b ≡ is_constructed o → IdentifierAfter o x b s s
found_universal s o {x} e bit =
    with_bit bit ([], identifier_at refl (universal_constructed o x (sym e)) (universal_identifier o x (sym e)), reads_none s)

pub found_segments : (s : ReaderState) (o : ℕ) → o ≡ 36 → s.rules ≡ Ber → IdentifierAfter o OctetString true s s
found_segments s o is ber = ([], subst (λ rules. IsIdentifier rules (o ∷ []) OctetString true) (sym ber) (segments_identifier o is), reads_none s)

pub found_short : (s : ReaderState) (o : ℕ) {x : Tag} {b : Bool} → 64 ≤ o → o < 256 → o % 32 < 31 → x ≡ other_tag o (o % 32) → b ≡ is_constructed o → IdentifierAfter o x b s s
found_short s o low high few e bit =
    with_bit bit ([], subst (λ y. IsIdentifier s.rules (o ∷ []) y (is_constructed o)) (sym e) (short_identifier o low high few), reads_none s)

pub found_long : {s t : ReaderState} (o : ℕ) {n : ℕ} {x : Tag} {b : Bool} → Reads s t (continuation_octets (digits 128 n)) → 64 ≤ o → o < 256 → o % 32 ≡ 31 → 31 ≤ n → n < 2 ^ 32
    → x ≡ other_tag o n → b ≡ is_constructed o → IdentifierAfter o x b s t
found_long {s} o {n} g low high all large small e bit =
    with_bit bit (continuation_octets (digits 128 n), subst (λ y. IsIdentifier s.rules (o ∷ continuation_octets (digits 128 n)) y (is_constructed o)) (sym e) (long_identifier o n low high all large small), g)

-- an identifier whose tag is given by its first octet and number
above : (o n : ℕ) → 64 ≤ o → identifier_tag o n ≡ other_tag o n
above o n high = (let no : nat_lt o 64 ≡ false = grind arith in rw no refl)

below : (o n : ℕ) → o < 64 → identifier_tag o n ≡ tag_or_segments (universal_tag o)
below o n low = (let yes : nat_lt o 64 ≡ true = grind arith in rw yes refl)

identifier_after_as : {o : ℕ} {s t : ReaderState} {x y : Tag} {b : Bool} → x ≡ y → IdentifierAfter o y b s t → IdentifierAfter o x b s t
identifier_after_as {o} {s} {t} {b = b} e h = subst (λ z. IdentifierAfter o z b s t) (sym e) h

universal_low : (o : ℕ) (x : Tag) → universal_tag o ≡ Some x → o < 64
universal_low o x e =
    let row = universal_found x (universal_class o x e) in
    let octets : o ∷ [] ≡ row.0 ∷ [] = sym (universal_octets o x e) ∙ row.1 in
    let same : o ≡ row.0 = cc in
    omega (arith, same, row.3)

pub found_known : (s : ReaderState) (o n : ℕ) → universal_tag o ≢ None → IdentifierAfter o (identifier_tag o n) (is_constructed o) s s
found_known s o n some = go (universal_tag o) refl
  where
    go : (known : Option Tag) → universal_tag o ≡ known → IdentifierAfter o (identifier_tag o n) (is_constructed o) s s
    go (Some x) e = identifier_after_as (below o n (universal_low o x e) ∙ ap tag_or_segments e) (found_universal s o (sym e) refl)
    go None e = absurd (some e)

pub found_low : (s : ReaderState) (o n : ℕ) → s.rules ≡ Ber → o < 64 → (o ≡ 36) ⊎ (universal_tag o ≢ None) → IdentifierAfter o (identifier_tag o n) (is_constructed o) s s
found_low s o n ber low known = identifier_after_as (below o n low) (go (universal_tag o) refl known)
  where
    go : (known : Option Tag) → universal_tag o ≡ known → (o ≡ 36) ⊎ (universal_tag o ≢ None) → IdentifierAfter o (tag_or_segments known) (is_constructed o) s s
    go (Some x) e h = found_universal s o (sym e) refl
    go None e h = ⊎_elim (λ is. with_bit (ap is_constructed is) (found_segments s o is ber)) (λ some. absurd (some e)) h

pub found_high : (s : ReaderState) (o : ℕ) → 64 ≤ o → o < 256 → o % 32 < 31 → IdentifierAfter o (identifier_tag o (o % 32)) (is_constructed o) s s
found_high s o high octet few = found_short s o high octet few (above o (o % 32) high) refl

pub found_alone : (s : ReaderState) (o : ℕ) → IsAlone o → IdentifierAfter o (identifier_tag o (o % 32)) (is_constructed o) s s
found_alone s o (inl known) = found_known s o (o % 32) known
found_alone s o (inr high) = found_high s o high.0 high.1 high.2

pub found_longer : (s t : ReaderState) (o : ℕ) (r : Result ℕ Error) → 64 ≤ o → o < 256 → o % 32 ≡ 31 → IfOk r (λ n. Reads s t (continuation_octets (digits 128 n)) × (31 ≤ n) × (n < 2 ^ 32))
    → IfOk r (λ n. IdentifierAfter o (identifier_tag o n) (is_constructed o) s t)
found_longer s t o (Ok n) high octet all h = found_long o h.0 high octet all h.1 h.2 (above o n high) refl
found_longer s t o (Err e) high octet all h = tt

pub not_universal : (o : ℕ) {b : Bool} → IsTrue b ↔ (universal_tag o ≢ None) → b ≡ false → universal_tag o ≡ None
not_universal o {b} h e = go (universal_tag o) refl
  where
    go : (known : Option Tag) → universal_tag o ≡ known → universal_tag o ≡ None
    go None q = q
    go (Some x) q = absurd (let no : false ≡ true = sym e ∙ h.1 (λ n. (let no : Some x ≡ None = sym q ∙ n in cc)) in cc)

-- an octet begins no identifier
pub refused_unknown : {s t : ReaderState} {o : ℕ} {e : Error} → o < 64 → universal_tag o ≡ None → (s.rules ≡ Der) ⊎ (o ≢ 36)
    → e ≡ error_at (identifier_kind [] o) (reader_position s) → t ≡ stopped_state s s.position → RefusesIdentifier o s e t
refused_unknown {s} {t} {o} {e} low none other reported leaves at here working = (
  refusal (identifier_kind [] o) (at + 1),
  fault_universal at o (rest_of s) low none other,
  subst (λ n. Stops s (refusal (identifier_kind [] o) n) e t) here (error_stops s t (identifier_kind [] o) e reported leaves),
)

pub refused_low : {s t : ReaderState} {o : ℕ} {e : Error} → o < 64 → ((o ≡ 36) ⊎ (universal_tag o ≢ None) → ⊥)
    → e ≡ error_at (identifier_kind [] o) (reader_position s) → t ≡ stopped_state s s.position → RefusesIdentifier o s e t
refused_low {s} {t} {o} {e} low unknown reported leaves = refused_unknown low (none (universal_tag o) refl) (inr (λ is. unknown (inl is))) reported leaves
  where
    none : (known : Option Tag) → universal_tag o ≡ known → universal_tag o ≡ None
    none None e = e
    none (Some x) e = absurd (unknown (inr (λ n. (let no : Some x ≡ None = sym e ∙ n in cc))))

-- errors in a tag
pub tag_ends : {a t : ReaderState} {e : Error} → ByteRefused a e t → IsRefusedBy IdentifierFault a e t
tag_ends (byte_failed f reported leaves) = has_failed f reported leaves
tag_ends {a} (byte_cut working none stops) =
    at_fault (end_refusal a.position) working (subst (λ l. IdentifierFault a.rules a.position l (end_refusal a.position)) (sym none) (fault_nothing a.position)) stops.reported stops.leaves

pub failed_after_first : {a b t : ReaderState} {o : ℕ} {e : Error} → a.failed ≡ false → Reads a b (o ∷ []) → RefusesIdentifier o b e t → IsRefusedBy IdentifierFault a e t
failed_after_first {a} {b} {t} {o} {e} working h n =
    let r = n a.position (position_on h) (failed_on h ∙ working) in
    let fault : IdentifierFault a.rules a.position (o ∷ rest_of b) r.0 = subst (λ rules. IdentifierFault rules a.position (o ∷ rest_of b) r.0) (rules_on h) r.1 in
    at_fault r.0 working (subst (λ l. IdentifierFault a.rules a.position l r.0) (sym h.split) fault) (stops_on h r.2).reported (stops_on h r.2).leaves

-- an identifier is decoded from its first octet and what follows it
pub tag_found : {a b t : ReaderState} {o : ℕ} {x : Tag} {bit : Bool} → a.failed ≡ false → Reads a b (o ∷ []) → IdentifierAfter o x bit b t → Passes (IdentifierNext (x, bit)) a t
tag_found {o = o} {x} {bit} working h found =
    passed_tag working (reads_on h found.2) (subst (λ rules. IsIdentifier rules (o ∷ found.0) x bit) (rules_on h) found.1)

-- transport along an equal tag and constructed bit
pub passes_as : {a t : ReaderState} {x y : Tag} {b d : Bool} → x ≡ y → b ≡ d → Passes (IdentifierNext (y, d)) a t → Passes (IdentifierNext (x, b)) a t
passes_as {a} {t} {x} {y} {b} {d} p q h =
    subst (λ z. Passes (IdentifierNext (z, b)) a t) (sym p) (subst (λ z. Passes (IdentifierNext (y, z)) a t) (sym q) h)

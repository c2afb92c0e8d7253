-- Identifiers at the start of octets, and why octets do not begin with one.
use Rattle.std.proofs.Common.{◌≡◌, ◌≢◌, ℕ, ◌+◌, ◌%◌, ◌^◌, ◌<◌, ◌≤◌, ◌⊎◌, Bool, true, false, Some, None, List, [], ◌∷◌, ◌++◌, length, refl, sym, ap, ◌∙◌, subst, ⊎_elim, append_assoc, append-nil, length-append, arith}
use Rattle.std.proofs.lemmas.Bool.{cases_lt, cases_eq}
use Rattle.std.specs.Int.Digits.{AllBelowBase}
use Rattle.der_base.specs.Length.{digits}
use Rattle.der_base.specs.Tag.{label, leading_octet, tag_octets, universal_tag, is_constructed, other_tag, continuation_octets, IsIdentifier, of_tag, of_segments, IsCutIdentifier, identifier_kind, IdentifierFault, cut, refused}
use Rattle.der_base.specs.Error.{Refusal, refusal, end_refusal}
use Rattle.der_base.specs.declared.encoding_rules.EncodingRules.{EncodingRules}
use Rattle.der_base.specs.declared.encoding_rules.EncodingRules.TheVariants.{Ber, Der}
use Rattle.der_base.specs.declared.tag.Tag.{Tag}
use Rattle.der_base.specs.declared.tag.Tag.TheVariants.{Boolean, OctetString}
use Rattle.der_base.proofs.DigitLemmas.{two_fronts, below_among}
use Rattle.der_base.proofs.TagLemmas.{label_small, label_large, tag_begins, tag_front, no_segments, universal_found, universal_octets, universal_is_tag, other_constructed, other_number, other_octet, other_octets}

-- no identifier begins with these octets
abbrev pub BeginsNoIdentifier : EncodingRules → List ℕ → Type 0
BeginsNoIdentifier rules s =
    (more : List ℕ) (t : Tag) (b : Bool) → IsIdentifier rules (s ++ more) t b → ⊥

-- transport along equal octets and an equal constructed bit
pub identifier_at : {rules : EncodingRules} {a b : List ℕ} {t : Tag} {c d : Bool} → a ≡ b → c ≡ d → IsIdentifier rules a t c → IsIdentifier rules b t d
identifier_at {rules} {a} {b} {t} {c} {d} e f h = subst (λ l. IsIdentifier rules l t d) e (subst (λ x. IsIdentifier rules a t x) f h)

-- the octet of a universal tag is its identifier
pub universal_identifier : {rules : EncodingRules} (o : ℕ) (t : Tag) → universal_tag o ≡ Some t → IsIdentifier rules (o ∷ []) t (label t).constructed
universal_identifier o t e = identifier_at (universal_octets o t e) refl (of_tag (universal_is_tag o t e))

-- one octet is an identifier of another class, unless its five low bits are set
pub short_identifier : {rules : EncodingRules} (o : ℕ) → 64 ≤ o → o < 256 → o % 32 < 31 → IsIdentifier rules (o ∷ []) (other_tag o (o % 32)) (is_constructed o)
short_identifier o low high small =
    let tag : (label (other_tag o (o % 32))).number < 2 ^ 32 = omega (arith, other_number o (o % 32) low high) in
    identifier_at (other_octet o low high small) (other_constructed o (o % 32) low high) (of_tag tag)

-- an octet whose five low bits are set, followed by a number, is an identifier of another class
pub long_identifier : {rules : EncodingRules} (o n : ℕ) → 64 ≤ o → o < 256 → o % 32 ≡ 31 → 31 ≤ n → n < 2 ^ 32 → IsIdentifier rules (o ∷ continuation_octets (digits 128 n)) (other_tag o n) (is_constructed o)
long_identifier o n low high set large small =
    let tag : (label (other_tag o n)).number < 2 ^ 32 = omega (arith, other_number o n low high) in
    identifier_at (other_octets o n low high set large) (other_constructed o n low high) (of_tag tag)

-- under BER octet `0x24` is an identifier
pub segments_identifier : (o : ℕ) → o ≡ 36 → IsIdentifier Ber (o ∷ []) OctetString true
segments_identifier o e = subst (λ x. IsIdentifier Ber (x ∷ []) OctetString true) (sym e) of_segments

-- an identifier is that of a tag, or octet `0x24` under BER
pub data IdentifierView (rules : EncodingRules) (a : List ℕ) (t : Tag) (c : Bool) : Type 0 where
  tagged : (label t).number < 2 ^ 32 → a ≡ tag_octets t → c ≡ (label t).constructed → IdentifierView rules a t c
  segmented : rules ≡ Ber → a ≡ 36 ∷ [] → t ≡ OctetString → c ≡ true → IdentifierView rules a t c

pub identifier_view : {rules : EncodingRules} {a : List ℕ} {t : Tag} {c : Bool} → IsIdentifier rules a t c → IdentifierView rules a t c
identifier_view (of_tag h) = tagged h refl refl
identifier_view of_segments = segmented refl refl refl refl

-- an identifier is not empty, and its first octet is not 0
pub identifier_begins : {rules : EncodingRules} {a : List ℕ} {t : Tag} {c : Bool} → IsIdentifier rules a t c → (o : ℕ) × (rest : List ℕ) × (a ≡ o ∷ rest) × (o ≢ 0)
identifier_begins (of_tag {t = t} h) = let b = tag_begins t in (b.0, b.1, b.2, b.3)
identifier_begins of_segments = (36, [], refl, λ z. cc)

-- an identifier is not empty
pub identifier_some : {rules : EncodingRules} {a : List ℕ} {t : Tag} {c : Bool} → IsIdentifier rules a t c → 1 ≤ length a
identifier_some d = let b = identifier_begins d in omega (arith, ap length b.2)

-- the octets of an identifier are below 256
pub identifier_below : {rules : EncodingRules} {a : List ℕ} {t : Tag} {c : Bool} → IsIdentifier rules a t c → AllBelowBase 256 a
identifier_below (of_tag {t = t} h) = (tag_begins t).4
identifier_below of_segments = (omega arith, tt)

-- no octet of an identifier is a number from 256 on
pub none_with : {rules : EncodingRules} (s : List ℕ) (o : ℕ) → 256 ≤ o → BeginsNoIdentifier rules (s ++ o ∷ [])
none_with s o big more t b h = omega (arith, below_among 256 s o more (subst (AllBelowBase 256) (append_assoc s (o ∷ []) more) (identifier_below h)))

-- no identifier is a proper prefix of another, and each has one tag and one constructed bit
pub identifier_front : {rules : EncodingRules} {a b : List ℕ} {t u : Tag} {c d : Bool} → IsIdentifier rules a t c → IsIdentifier rules b u d → (x y : List ℕ) → a ++ x ≡ b ++ y → (a ≡ b) × (t ≡ u) × (c ≡ d) × (x ≡ y)
identifier_front {rules} {a} {b} {t} {u} {c} {d} h k x y e = go (identifier_view h) (identifier_view k)
  where
    go : IdentifierView rules a t c → IdentifierView rules b u d → (a ≡ b) × (t ≡ u) × (c ≡ d) × (x ≡ y)
    go (tagged p f g) (tagged q v w) =
        let r = tag_front t u x y (ap (λ l. l ++ x) (sym f) ∙ e ∙ ap (λ l. l ++ y) v) in
        (f ∙ ap tag_octets r.0 ∙ sym v, r.0, g ∙ ap (λ z. (label z).constructed) r.0 ∙ sym w, r.1)
    go (tagged p f g) (segmented q v w z) = absurd (no_segments t x y (ap (λ l. l ++ x) (sym f) ∙ e ∙ ap (λ l. l ++ y) v))
    go (segmented p f g z) (tagged q v w) = absurd (no_segments u y x (ap (λ l. l ++ y) (sym v) ∙ sym e ∙ ap (λ l. l ++ x) f))
    go (segmented p f g z) (segmented q v w s) =
        let r : 36 ∷ x ≡ 36 ∷ y = ap (λ l. l ++ x) (sym f) ∙ e ∙ ap (λ l. l ++ y) v in
        (f ∙ sym v, g ∙ sym w, z ∙ sym s, cc)

-- the empty list is a proper prefix of an identifier
some_identifier : (rules : EncodingRules) → IsCutIdentifier rules []
some_identifier rules = (1, [], Boolean, false, of_tag (omega arith))

-- no octets are a truncated identifier
pub fault_nothing : {rules : EncodingRules} (at : ℕ) → IdentifierFault rules at [] (end_refusal at)
fault_nothing {rules} at =
    let here : at + 0 ≡ at = omega arith in
    subst (λ n. IdentifierFault rules at [] (end_refusal n)) here (cut [] (some_identifier rules))

-- a tag that begins with an octet below 64 is the universal one with that octet
below_64 : (t : Tag) (o : ℕ) (more : List ℕ) → o < 64 → tag_octets t ≡ o ∷ more → universal_tag o ≡ Some t
below_64 t o more l e =
    ⊎_elim
    (λ a. let u = universal_found t a in let w : u.0 ≡ o = (let v : u.0 ∷ [] ≡ o ∷ more = sym u.1 ∙ e in cc) in subst (λ k. universal_tag k ≡ Some t) w u.2)
    (λ a. ⊎_elim
    (λ b. let v : leading_octet (label t) (label t).number ∷ [] ≡ o ∷ more = sym (label_small (label t) b) ∙ e in let w : leading_octet (label t) (label t).number ≡ o = cc in absurd (omega arith))
    (λ b. let v : leading_octet (label t) 31 ∷ continuation_octets (digits 128 (label t).number) ≡ o ∷ more = sym (label_large (label t) b) ∙ e in let w : leading_octet (label t) 31 ≡ o = cc in absurd (omega arith))
    (cases_lt (label t).number 31))
    (cases_eq (label t).class 0)

-- no identifier begins with an octet below 64 that is not a universal tag, except `0x24` under BER
no_universal : (rules : EncodingRules) (o : ℕ) → o < 64 → universal_tag o ≡ None → (rules ≡ Der) ⊎ (o ≢ 36) → BeginsNoIdentifier rules (o ∷ [])
no_universal rules o l none ok more t b h = go (identifier_view h)
  where
    go : IdentifierView rules (o ∷ more) t b → ⊥
    go (tagged p f g) = let w : None ≡ Some t = sym none ∙ below_64 t o more l (sym f) in cc
    go (segmented p f g z) = ⊎_elim (λ d. let w : Ber ≡ Der = sym p ∙ d in cc) (λ ne. ne (cc)) ok

-- an octet below 64 that is not a universal tag is an error
pub fault_universal : {rules : EncodingRules} (at o : ℕ) (rest : List ℕ) → o < 64 → universal_tag o ≡ None → (rules ≡ Der) ⊎ (o ≢ 36) → IdentifierFault rules at (o ∷ rest) (refusal (identifier_kind [] o) (at + 1))
fault_universal {rules} at o rest l none ok =
    let here : at + 0 + 1 ≡ at + 1 = omega arith in
    subst (λ n. IdentifierFault rules at (o ∷ rest) (refusal (identifier_kind [] o) n)) here
    (refused [] o rest (some_identifier rules) (no_universal rules o l none ok))

-- a number from 256 on is an error
pub fault_above : {rules : EncodingRules} (at o : ℕ) (rest : List ℕ) → 256 ≤ o → IdentifierFault rules at (o ∷ rest) (refusal (identifier_kind [] o) (at + 1))
fault_above {rules} at o rest big =
    let here : at + 0 + 1 ≡ at + 1 = omega arith in
    subst (λ n. IdentifierFault rules at (o ∷ rest) (refusal (identifier_kind [] o) n)) here
    (refused [] o rest (some_identifier rules) (none_with [] o big))

-- a truncated identifier does not begin with a complete identifier
no_cut_identifier : {rules : EncodingRules} {id : List ℕ} {t : Tag} {b : Bool} (s x : List ℕ) → IsIdentifier rules id t b → IsCutIdentifier rules s → s ≡ id ++ x → ⊥
no_cut_identifier {id = id} s x d h e =
    let r = identifier_front d h.4 (x ++ h.0 ∷ h.1) [] (sym (append_assoc id x (h.0 ∷ h.1)) ∙ ap (λ l. l ++ h.0 ∷ h.1) (sym e) ∙ sym (append-nil (s ++ h.0 ∷ h.1))) in
    let l = ap length r.3 in omega (arith, simp length-append at l)

-- octets that begin with an identifier have no fault
pub no_identifier_fault : {rules : EncodingRules} {at : ℕ} {s id : List ℕ} {r : Refusal} {t : Tag} {b : Bool} (x : List ℕ) → IdentifierFault rules at s r → IsIdentifier rules id t b → s ≡ id ++ x → ⊥
no_identifier_fault x (cut s h) d f = no_cut_identifier s x d h f
no_identifier_fault {rules = rules} {id = id} {t = u} {b = b} x (refused s o rest h none) d f =
    ⊎_elim
    (λ r. go r.0 r.1 r.2)
    (λ r. no_cut_identifier s (r.0 ∷ r.1) d h r.2)
    (two_fronts s id (o ∷ rest) x f)
  where
    go : (t : List ℕ) → id ≡ s ++ t → o ∷ rest ≡ t ++ x → ⊥
    go [] g w = no_cut_identifier s [] d h (sym (append-nil s) ∙ sym g ∙ sym (append-nil id))
    go (p ∷ t) g w = let same : o ≡ p = cc in none t u b (subst (λ l. IsIdentifier rules l u b) (g ∙ ap (λ m. s ++ m ∷ t) (sym same) ∙ sym (append_assoc s (o ∷ []) t)) d)

-- a truncated identifier does not continue with an octet that is an error
no_cut_refused : (rules : EncodingRules) (s t x : List ℕ) (o : ℕ) → IsCutIdentifier rules s → BeginsNoIdentifier rules (t ++ o ∷ []) → s ≡ t ++ o ∷ x → ⊥
no_cut_refused rules s t x o (d, more, u, b, i) none e = none (x ++ d ∷ more) u b (subst (λ l. IsIdentifier rules l u b) (ap (λ l. l ++ d ∷ more) e ∙ simp append_assoc) i)

-- octets have at most one fault of an identifier
pub one_identifier_fault : {rules : EncodingRules} {at : ℕ} {a b : List ℕ} {r q : Refusal} → IdentifierFault rules at a r → IdentifierFault rules at b q → a ≡ b → r ≡ q
one_identifier_fault {at = at} (cut s h) (cut t g) f = ap (λ l. end_refusal (at + length l)) f
one_identifier_fault {rules = rules} (cut s h) (refused t o rest g none) f = absurd (no_cut_refused rules s t rest o h none f)
one_identifier_fault {rules = rules} (refused t o rest g none) (cut s h) f = absurd (no_cut_refused rules s t rest o h none (sym f))
one_identifier_fault {rules = rules} {at = at} (refused s o rest h never) (refused t p more g none) f =
    ⊎_elim (λ a. left a.0 a.1 a.2) (λ a. absurd (no_cut_refused rules s t a.1 p h none (a.2 ∙ (let w : p ≡ a.0 = (let v : p ∷ more ≡ a.0 ∷ (a.1 ++ o ∷ rest) = a.3 in cc) in ap (λ z. t ++ z ∷ a.1) (sym w))))) (two_fronts s t (o ∷ rest) (p ∷ more) f)
  where
    left : (x : List ℕ) → t ≡ s ++ x → o ∷ rest ≡ x ++ p ∷ more → refusal (identifier_kind s o) (at + length s + 1) ≡ refusal (identifier_kind t p) (at + length t + 1)
    left [] u v =
        let w : o ≡ p = cc in
        let same : s ≡ t = sym (append-nil s) ∙ sym u in
        ap (λ l. refusal (identifier_kind l o) (at + length l + 1)) same ∙ ap (λ z. refusal (identifier_kind t z) (at + length t + 1)) w
    left (z ∷ x) u v = let w : o ≡ z = cc in absurd (no_cut_refused rules t s x o g never (u ∙ ap (λ y. s ++ y ∷ x) (sym w)))

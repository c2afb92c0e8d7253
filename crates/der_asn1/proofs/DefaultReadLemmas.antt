-- Lemmas on reading DEFAULT fields.
use Rattle.std.proofs.Common.{◌≡◌, ℕ, ◌+◌, ◌≤◌, Bool, true, false, Option, Some, None, Ok, Err, inl, inr, List, refl, sym, ap, subst, ◌∙◌}
use Rattle.der.specs.HeaderGrammar.{TagNext}
use Rattle.der.specs.Tag.{IdentifierFault}
use Rattle.der.specs.Prelude.{Tag}
use Rattle.der.specs.Prelude.{Error}
use Rattle.der.specs.Prelude.{EncodingRules}
use Rattle.der.specs.Prelude.{Der}
use Rattle.der.proofs.HeaderLemmas.{one_tag}
use Rattle.der.specs.Decode.{Passes, Peeks, ReadsOrLacks}
use Rattle.der.specs.ReaderState.{ReaderState, rest_of, advanced_state, IsSound}
use Rattle.der.proofs.DecodeLemmas.{lacks_only, read_on}
use Rattle.der_asn1.specs.Follow.{TagIn, NoTagIn, nothing, other}
use Rattle.der_asn1.specs.Optional.{OptionNext}
use Rattle.der_asn1.specs.Default.{DefaultNext, absent, present}
use Rattle.der_asn1.proofs.OptionalReadLemmas.{absent_at_end, no_tag_no_field, absent_before, no_tag_in_nothing, peeked}

-- what is next, as an optional value
record Seen {A : Type 0} (tags : Tag → Type 0) (is_default : A → Bool) (Next : A → EncodingRules → List ℕ → ℕ → Type 0) (rules : EncodingRules) (octets : List ℕ) (m : ℕ) : Type 0 where
  pub value : Option A
  pub next : OptionNext tags Next value rules octets m

seen : {A : Type 0} {tags : Tag → Type 0} {is_default : A → Bool} {Next : A → EncodingRules → List ℕ → ℕ → Type 0} {v : A} {rules : EncodingRules} {octets : List ℕ} {m : ℕ} → DefaultNext tags is_default Next v rules octets m
    → Seen tags is_default Next rules octets m
seen (absent d e none) = record { value = None; next = (e, none) }
seen {v = v} (present differs h) = record { value = Some v; next = h }

pub tag_not_absent : (tags : Tag → Type 0) (s : ReaderState) {reliable : Bool} {t : Tag} → Peeks TagNext IdentifierFault reliable s (Ok t) → tags t → NoTagIn tags s.rules (rest_of s) → ⊥
tag_not_absent tags s p is (nothing e) = no_tag_in_nothing (peeked p) e
tag_not_absent tags s p is (other u n next apart) = apart (subst tags (sym (one_tag next (peeked p)).0) is)

module _ {A : Type 0} (tags : Tag → Type 0) (is_default : A → Bool) (Next : A → EncodingRules → List ℕ → ℕ → Type 0) (begins : (v : A) (rules : EncodingRules) (octets : List ℕ) (m : ℕ) → Next v rules octets m → TagIn tags rules octets) (s : ReaderState) where
  pub default_at_end : (v : A) (m : ℕ) → s.end ≡ s.position → DefaultNext tags is_default Next v s.rules (rest_of s) m → m ≡ 0
  default_at_end v m e h = let one = seen h in absent_at_end tags Next begins s one.value m e one.next

  pub default_no_field : {reliable : Bool} {e : Error} (v : A) (m : ℕ) → IsSound s → (s.end ≡ s.position → ⊥) → reliable ≡ true → s.failed ≡ false → Peeks TagNext IdentifierFault reliable s (Err e)
      → DefaultNext tags is_default Next v s.rules (rest_of s) m → ⊥
  default_no_field v m sound not reliable working p h = let one = seen h in no_tag_no_field tags Next begins s one.value m sound not reliable working p one.next

  pub default_before : {reliable : Bool} {t : Tag} (v : A) (m : ℕ) → Peeks TagNext IdentifierFault reliable s (Ok t) → (tags t → ⊥) → DefaultNext tags is_default Next v s.rules (rest_of s) m → m ≡ 0
  default_before v m p not h = let one = seen h in absent_before tags Next begins s one.value m p not one.next

  -- if one of its tags is next, so is a value, which under DER is not the default
  pub record Written (v : A) (m : ℕ) : Type 0 where
    pub other : s.rules ≡ Der → is_default v ≡ false
    pub next : Next v s.rules (rest_of s) m

  pub default_present : {reliable : Bool} {t : Tag} (v : A) (m : ℕ) → Peeks TagNext IdentifierFault reliable s (Ok t) → tags t → DefaultNext tags is_default Next v s.rules (rest_of s) m → Written v m
  default_present v m p is (present differs h) = record { other = differs; next = h }
  default_present v m p is (absent d e none) = absurd (tag_not_absent tags s p is none)

  module _ {E : Type 0} (levels : EncodingRules → ℕ) (oom : E → Bool) (takes : Bool) (t : ReaderState) {reliable : Bool} {u : Tag} (p : Peeks TagNext IdentifierFault reliable s (Ok u)) (is : tags u)
      (v : A) (m : ℕ) (working : s.failed ≡ false) (h : DefaultNext tags is_default Next v s.rules (rest_of s) m) (deep : s.depth + levels s.rules ≤ 64) where
    pub default_lacks : (e : E) → ((w : A) (n : ℕ) → s.failed ≡ false → Next w s.rules (rest_of s) n → s.depth + levels s.rules ≤ 64 → ReadsOrLacks {A = A} oom takes s n (Err e) t) → ReadsOrLacks {A = A} oom takes s m (Err e) t
    default_lacks e complete = let there = default_present v m p is h in inr (lacks_only A oom s t m (complete v m working there.next deep))

    module _ (a : A) (complete : (w : A) (n : ℕ) → s.failed ≡ false → Next w s.rules (rest_of s) n → s.depth + levels s.rules ≤ 64 → ReadsOrLacks oom takes s n (Ok a) t) where
      pub default_moves : t ≡ advanced_state s m
      default_moves = read_on E oom s m a (complete v m working (default_present v m p is h).next deep)

      pub default_reads : ReadsOrLacks {E = E} oom takes s m (Ok a) t
      default_reads = inl (refl, default_moves)

      -- under DER a value that was read from a valid field is not the default
      pub default_not_written_der : ((x w : A) (octets : List ℕ) (k n : ℕ) → Next x Der octets k → Next w Der octets n → is_default x ≡ is_default w)
          → (s.failed ≡ false → t.failed ≡ false → Passes (Next a) s t) → t.rules ≡ Der → is_default a ≡ true → ⊥
      default_not_written_der reported ok der d =
          let there = default_present v m p is h in
          let passed = ok working (ap (λ (x : ReaderState). x.failed) default_moves ∙ working) in
          let rules : s.rules ≡ Der = sym (ap (λ (x : ReaderState). x.rules) default_moves) ∙ der in
          let same : is_default v ≡ is_default a =
          reported v a (rest_of s) m passed.octets (subst (λ r. Next v r (rest_of s) m) rules there.next) (subst (λ r. Next a r (rest_of s) passed.octets) rules passed.next) in
          (let no : true ≡ false = sym d ∙ sym same ∙ there.other rules in cc)

      pub default_not_written : ((x w : A) (rules : EncodingRules) (octets : List ℕ) (k n : ℕ) → Next x rules octets k → Next w rules octets n → is_default x ≡ is_default w)
          → (s.failed ≡ false → t.failed ≡ false → Passes (Next a) s t) → t.rules ≡ Der → is_default a ≡ true → ⊥
      default_not_written reported = default_not_written_der (λ x w octets k n one two. reported x w Der octets k n one two)

-- if two conditions exclude each other and the first holds, the second does not
pub not_default : (P : Type 0) (b : Bool) → (P → b ≡ true → ⊥) → P → b ≡ false
not_default P true f p = absurd (f p refl)
not_default P false f p = refl

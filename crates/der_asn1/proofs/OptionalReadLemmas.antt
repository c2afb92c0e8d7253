-- Lemmas on reading OPTIONAL fields.
use Rattle.std.proofs.Common.{◌≡◌, ℕ, ◌+◌, ◌-◌, ◌≤◌, inl, inr, Bool, true, false, Option, Some, None, Ok, Err, List, [], ◌++◌, length, take, drop, refl, sym, ap, subst, ◌∙◌, length-append, nat_lt, arith}
use Rattle.der.specs.HeaderGrammar.{TagNext}
use Rattle.der.specs.Tag.{label, IdentifierFault, IsIdentifier, of_tag, of_segments}
use Rattle.der.specs.Prelude.{tag_octets, Tag, Error, EncodingRules, ReaderState, rest_of}
use Rattle.der.proofs.HeaderLemmas.{IdentifierView, identifier_view_of, identifier_view, one_tag, tag_grammar}
use Rattle.der.specs.Decode.{Passes, Peeks, ReadsOrLacks}
use Rattle.der.specs.ReaderState.{advanced_state, IsSound}
use Rattle.der.proofs.DecodeLemmas.{not_refused, lacks_only, read_on}
use Rattle.der.proofs.StateLemmas.{length-rest}
use Rattle.der_asn1.specs.Follow.{TagIn, NoTagIn, nothing, other}
use Rattle.der_asn1.specs.Optional.{OptionNext}

-- a tag is not empty
pub tag_some : (t : Tag) → 1 ≤ length (tag_octets t)
tag_some t = go (nat_lt (label t).number 31) refl
  where
    go : (b : Bool) → nat_lt (label t).number 31 ≡ b → 1 ≤ length (tag_octets t)
    go true e = rw e (omega arith)
    go false e = rw e (omega arith)

identifier_some : {rules : EncodingRules} {id : List ℕ} {t : Tag} {b : Bool} → IsIdentifier rules id t b → 1 ≤ length id
identifier_some (of_tag {t = t} h) = tag_some t
identifier_some of_segments = omega arith

-- no tag is next without octets
pub no_tag_in_nothing : {t : Tag} {rules : EncodingRules} {octets : List ℕ} {m : ℕ} → TagNext t rules octets m → octets ≡ [] → ⊥
no_tag_in_nothing {t} {rules} {octets} {m} h none = go (identifier_view h.1)
  where
    go : IdentifierView (t, h.0) rules octets m → ⊥
    go (identifier_view_of id more d e c) = (let some : 1 ≤ length id = identifier_some d in let sum : length (id ++ more) ≡ 0 = ap length (sym e ∙ none) in omega (arith, sum, length-append id more))

-- a reader at its end, and one that is not
pub rest_at_end : (s : ReaderState) → s.end ≡ s.position → rest_of s ≡ []
rest_at_end s e = let none : s.end - s.position ≡ 0 = omega arith in ap (λ n. take n (drop s.position s.input)) none

pub rest_before_end : (s : ReaderState) → IsSound s → (s.end ≡ s.position → ⊥) → rest_of s ≡ [] → ⊥
rest_before_end s sound not e = not (omega (arith, sound.ordered, length-rest s sound, ap length e))

-- no octets are consumed
pub stays_there : (s : ReaderState) (m : ℕ) → m ≡ 0 → s ≡ advanced_state s m
stays_there s m e = let sum : s.position ≡ s.position + m = omega arith in ap (λ p. record s { position = p }) sum

pub nothing_passed : (Next : EncodingRules → List ℕ → ℕ → Type 0) (s : ReaderState) → s.failed ≡ false → Next s.rules (rest_of s) 0 → Passes Next s s
nothing_passed Next s working next = record { octets = 0; working = working; next = next; there = omega arith; leaves = stays_there s 0 refl }

pub peeked : {reliable : Bool} {s : ReaderState} {t : Tag} (p : Peeks TagNext IdentifierFault reliable s (Ok t)) → TagNext t s.rules (rest_of s) p.1.ok.octets
peeked p = p.1.ok.next

module _ {A : Type 0} (tags : Tag → Type 0) (Next : A → EncodingRules → List ℕ → ℕ → Type 0) (begins : (v : A) (rules : EncodingRules) (octets : List ℕ) (m : ℕ) → Next v rules octets m → TagIn tags rules octets) (s : ReaderState) where
  -- at the end there is no value
  pub absent_at_end : (o : Option A) (m : ℕ) → s.end ≡ s.position → OptionNext tags Next o s.rules (rest_of s) m → m ≡ 0
  absent_at_end None m e h = h.0
  absent_at_end (Some v) m e h = absurd (no_tag_in_nothing (begins v s.rules (rest_of s) m h).next (rest_at_end s e))

  -- if no tag can be read, the field is not next
  pub no_tag_no_field : {reliable : Bool} {e : Error} (o : Option A) (m : ℕ) → IsSound s → (s.end ≡ s.position → ⊥) → reliable ≡ true → s.failed ≡ false → Peeks TagNext IdentifierFault reliable s (Err e)
      → OptionNext tags Next o s.rules (rest_of s) m → ⊥
  no_tag_no_field (Some v) m sound not reliable working p h = not_refused tag_grammar (p.1.refused reliable) working (begins v s.rules (rest_of s) m h).next
  no_tag_no_field None m sound not reliable working p h = go h.1
    where
      go : NoTagIn tags s.rules (rest_of s) → ⊥
      go (nothing e) = rest_before_end s sound not e
      go (other t n next apart) = not_refused tag_grammar (p.1.refused reliable) working next

  -- if another tag is next, there is no value
  pub absent_before : {reliable : Bool} {t : Tag} (o : Option A) (m : ℕ) → Peeks TagNext IdentifierFault reliable s (Ok t) → (tags t → ⊥) → OptionNext tags Next o s.rules (rest_of s) m → m ≡ 0
  absent_before None m p not h = h.0
  absent_before (Some v) m p not h = let b = begins v s.rules (rest_of s) m h in absurd (not (subst tags (one_tag b.next (peeked p)).0 b.among))

  -- if one of its tags is next, so is a value
  pub present_before : {reliable : Bool} {t : Tag} (o : Option A) (m : ℕ) → Peeks TagNext IdentifierFault reliable s (Ok t) → tags t → OptionNext tags Next o s.rules (rest_of s) m → (v : A) × Next v s.rules (rest_of s) m
  present_before {t = t} None m p is h = absurd (go h.1)
    where
      go : NoTagIn tags s.rules (rest_of s) → ⊥
      go (nothing e) = no_tag_in_nothing (peeked p) e
      go (other u n next apart) = apart (subst tags (sym (one_tag next (peeked p)).0) is)
  present_before (Some v) m p is h = (v, h)

  module _ {E : Type 0} (levels : EncodingRules → ℕ) (oom : E → Bool) (takes : Bool) (t : ReaderState) {reliable : Bool} {u : Tag} (p : Peeks TagNext IdentifierFault reliable s (Ok u)) (is : tags u) where
    pub optional_lacks : (o : Option A) (m : ℕ) (e : E) → s.failed ≡ false → OptionNext tags Next o s.rules (rest_of s) m → s.depth + levels s.rules ≤ 64 → ((v : A) (n : ℕ) → s.failed ≡ false → Next v s.rules (rest_of s) n → s.depth + levels s.rules ≤ 64 → ReadsOrLacks {A = A} oom takes s n (Err e) t) → ReadsOrLacks {A = A} oom takes s m (Err e) t
    optional_lacks o m e working h deep complete = let there = present_before o m p is h in inr (lacks_only A oom s t m (complete there.0 m working there.1 deep))

    pub optional_reads : (o : Option A) (m : ℕ) (a : A) → s.failed ≡ false → OptionNext tags Next o s.rules (rest_of s) m → s.depth + levels s.rules ≤ 64 → ((v : A) (n : ℕ) → s.failed ≡ false → Next v s.rules (rest_of s) n → s.depth + levels s.rules ≤ 64 → ReadsOrLacks oom takes s n (Ok a) t) → ReadsOrLacks {E = E} oom takes s m (Ok a) t
    optional_reads o m a working h deep complete = let there = present_before o m p is h in inl (refl, read_on E oom s m a (complete there.0 m working there.1 deep))

-- Lemmas on reading a CHOICE of two types.
use Rattle.std.proofs.Common.{◌≡◌, ℕ, ◌+◌, ◌≤◌, inl, inr, ◌||◌, Bool, true, false, Ok, Err, List, refl, subst, arith}
use Rattle.der.specs.HeaderGrammar.{TagNext}
use Rattle.der.specs.Tag.{IdentifierFault}
use Rattle.der.specs.Prelude.{Tag, Error, EncodingRules, ReaderState, rest_of, fields_levels}
use Rattle.der.proofs.HeaderLemmas.{one_tag, tag_grammar}
use Rattle.der.specs.Decode.{Passes, Peeks, ReadsOrLacks}
use Rattle.der.proofs.DecodeLemmas.{not_refused, lacks_only, read_on}
use Rattle.der_asn1.specs.Follow.{TagIn, other, either_tags}
use Rattle.der_asn1.specs.Either.{EitherNext}
use Rattle.der_asn1.specs.EitherLaws.{either_begins}
use Rattle.der_asn1.specs.declared.fields.either.Either.{Either}
use Rattle.der_asn1.specs.declared.fields.either.Either.TheVariants.{First, Second}
use Rattle.der_asn1.proofs.OptionalReadLemmas.{peeked}
use Rattle.der_asn1.proofs.DefaultReadLemmas.{tag_not_absent}

-- a tag that belongs to neither of two sets does not belong to their union
of_neither : (f g : Tag → Type 0) (t : Tag) → (f t → ⊥) → (g t → ⊥) → either_tags f g t → ⊥
of_neither f g t not nor (inl h) = not h
of_neither f g t not nor (inr h) = nor h

module _ {A B : Type 0} (one_tags two_tags : Tag → Type 0) (One : A → EncodingRules → List ℕ → ℕ → Type 0)
    (Two : B → EncodingRules → List ℕ → ℕ → Type 0)
    (one_begins : (v : A) (rules : EncodingRules) (octets : List ℕ) (m : ℕ) → One v rules octets m → TagIn one_tags rules octets)
    (two_begins : (v : B) (rules : EncodingRules) (octets : List ℕ) (m : ℕ) → Two v rules octets m → TagIn two_tags rules octets)
    (s : ReaderState) (v : Either A B) (m : ℕ) (h : EitherNext one_tags One Two v s.rules (rest_of s) m) where
  -- if no tag can be read, or the tag belongs to neither type, no value of the CHOICE is next
  pub no_tag_neither : {reliable : Bool} {e : Error} → reliable ≡ true → s.failed ≡ false → Peeks TagNext IdentifierFault reliable s (Err e) → ⊥
  no_tag_neither reliable working p = not_refused tag_grammar (p.1.refused reliable) working (either_begins one_begins two_begins v s.rules (rest_of s) m h).next

  pub other_tag_neither : {reliable : Bool} {t : Tag} → Peeks TagNext IdentifierFault reliable s (Ok t) → (one_tags t → ⊥) → (two_tags t → ⊥) → ⊥
  other_tag_neither {t = t} p not nor =
      let b = either_begins one_begins two_begins v s.rules (rest_of s) m h in
      of_neither one_tags two_tags t not nor (subst (either_tags one_tags two_tags) (one_tag b.next (peeked p)).0 b.among)

  -- if a tag of the first type is next, so is a value of it; else a value of the second
  pub first_next : {reliable : Bool} {t : Tag} → Peeks TagNext IdentifierFault reliable s (Ok t) → one_tags t → (a : A) × One a s.rules (rest_of s) m
  first_next p is = go v h
    where
      go : (v : Either A B) → EitherNext one_tags One Two v s.rules (rest_of s) m → (a : A) × One a s.rules (rest_of s) m
      go (First a) h = (a, h)
      go (Second b) h = absurd (tag_not_absent one_tags s p is h.1)

  pub second_next : {reliable : Bool} {t : Tag} → Peeks TagNext IdentifierFault reliable s (Ok t) → (one_tags t → ⊥) → (b : B) × Two b s.rules (rest_of s) m
  second_next p not = go v h
    where
      go : (v : Either A B) → EitherNext one_tags One Two v s.rules (rest_of s) m → (b : B) × Two b s.rules (rest_of s) m
      go (First a) h = (let b = one_begins a s.rules (rest_of s) m h in absurd (not (subst one_tags (one_tag b.next (peeked p)).0 b.among)))
      go (Second b) h = (b, h.0)

-- a flag of one type is a flag of the CHOICE
first_or : (a b : Bool) → a ≡ true → (a || b) ≡ true
first_or true b e = refl
first_or false b e = absurd (let no : false ≡ true = e in cc)

second_or : (a b : Bool) → b ≡ true → (a || b) ≡ true
second_or true b e = refl
second_or false b e = e

pub first_lacks : (X C : Type 0) {E : Type 0} (oom : E → Bool) (a b : Bool) (s t : ReaderState) (m : ℕ) {e : E} → ReadsOrLacks {A = X} oom a s m (Err e) t → ReadsOrLacks {A = C} oom (a || b) s m (Err e) t
first_lacks X C oom a b s t m h = let l = lacks_only X oom s t m h in inr (first_or a b l.0, l.1)

pub second_lacks : (X C : Type 0) {E : Type 0} (oom : E → Bool) (a b : Bool) (s t : ReaderState) (m : ℕ) {e : E} → ReadsOrLacks {A = X} oom b s m (Err e) t → ReadsOrLacks {A = C} oom (a || b) s m (Err e) t
second_lacks X C oom a b s t m h = let l = lacks_only X oom s t m h in inr (second_or a b l.0, l.1)

pub either_reads : {X C E : Type 0} (oom : E → Bool) (a b : Bool) (s t : ReaderState) (m : ℕ) (x : X) (c : C) → ReadsOrLacks {E = E} oom a s m (Ok x) t → ReadsOrLacks {E = E} oom b s m (Ok c) t
either_reads {E = E} oom a b s t m x c h = inl (refl, read_on E oom s m x h)

-- reading a value of the second type after checking that the next tag is none of the first type
pub second_passes : {A B : Type 0} (tags : Tag → Type 0) (One : A → EncodingRules → List ℕ → ℕ → Type 0) (Two : B → EncodingRules → List ℕ → ℕ → Type 0) (s t : ReaderState) (v : B) {reliable : Bool} {u : Tag}
    → Peeks TagNext IdentifierFault reliable s (Ok u) → (tags u → ⊥) → Passes (Two v) s t → Passes (EitherNext tags One Two (Second v)) s t
second_passes tags One Two s t v {u = u} p not passed =
    record { octets = passed.octets; working = passed.working; next = (passed.next, other u _ (peeked p) not); there = passed.there; leaves = passed.leaves }

-- the levels needed for both types are enough for each
pub first_deep : (f g : EncodingRules → ℕ) (s : ReaderState) → s.depth + fields_levels f g s.rules ≤ 64 → s.depth + f s.rules ≤ 64
first_deep f g s deep = omega (arith, deep)

pub second_deep : (f g : EncodingRules → ℕ) (s : ReaderState) → s.depth + fields_levels f g s.rules ≤ 64 → s.depth + g s.rules ≤ 64
second_deep f g s deep = omega (arith, deep)

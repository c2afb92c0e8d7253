-- The next tag of a reader.
use Rattle.std.proofs.Common.{◌≡◌, ℕ, ◌%◌, ◌<◌, ◌==◌, Ok, Err, Result, true, false, List, [], ◌∷◌, length, drop, get_or, refl, sym, ap, ◌∙◌, subst, arith}
use Rattle.der_base.specs.Tag.{is_constructed, IdentifierFault}
use Rattle.der_base.specs.HeaderGrammar.{TagNext}
use Rattle.der_base.specs.declared.tag.Tag.{Tag}
use Rattle.der_base.specs.declared.error.Error.{Error}
use Rattle.der_base.proofs.HeaderLemmas.{one_tag, no_tag_fault}
use Rattle.der_core.specs.ReaderState.{ReaderState, advanced_state, Reads}
use Rattle.der_core.specs.Reader.{remaining_answer}
use Rattle.der_core.specs.Decode.{IsRefusedBy, has_failed, at_fault, Peeks}
use Rattle.der_core.specs.Identifier.{identifier_tag}
use Rattle.der_core.proofs.StateLemmas.{reads_front}
use Rattle.der_core.proofs.TagReadLemmas.{found_alone, tag_found}
use Rattle.der_c_core.specs.TagWord.{tag_word}
use Rattle.der_c_core.specs.Short.{IsPlain}
use Rattle.der_c_core.specs.PeekCalls.{HasNextTag, RefusesTagNext, PeeksWord, next, refused}
use Rattle.der_c_core.proofs.ShortLemmas.{remaining_ok}
use Rattle.der_c_core.proofs.WordLemmas.{identifier_short}

-- octets that are not empty
pub some_left : (l : List ℕ) → (length l == 0) ≡ false → 0 < length l
some_left [] e = absurd (let no : true ≡ false = e in cc)
some_left (a ∷ l) e = omega arith

first_one : (l : List ℕ) → 0 < length l → l ≡ get_or l 0 0 ∷ drop 1 l
first_one [] h = absurd (omega arith)
first_one (a ∷ l) h = refl

-- an octet that is a whole identifier, and the word of its tag
pub plain_next : (s : ReaderState) (l : List ℕ) → Ok l ≡ remaining_answer s → 0 < length l → IsPlain (get_or l 0 0) → HasNextTag (get_or l 0 0) s
plain_next s l is_rest some plain =
    let rest = remaining_ok s l is_rest in
    let o = get_or l 0 0 in
    let b = advanced_state s 1 in
    let first : Reads s b (o ∷ []) = reads_front s (o ∷ []) (drop 1 l) (rest.1 ∙ first_one l some) in
    let found = found_alone b o plain.0 in
    let passed = tag_found rest.0 first found in
    record {
      tag = identifier_tag o (o % 32);
      after = b;
      passed = record {
        octets = passed.octets;
        working = passed.working;
        next = (is_constructed o, passed.next);
        there = passed.there;
        leaves = passed.leaves;
      };
      is = sym (identifier_short s.rules (o ∷ found.0) (identifier_tag o (o % 32)) (is_constructed o) o found.0 found.1 refl plain.1 plain.2);
    }

-- what a peek answers
pub peeked_tag : {s : ReaderState} {t : Tag} → Peeks TagNext IdentifierFault true s (Ok t) → HasNextTag (tag_word t) s
peeked_tag {s} {t} h = record { tag = t; after = h.0; passed = h.1.ok; is = refl }

pub peeked_fault : {s : ReaderState} {e : Error} → Peeks TagNext IdentifierFault true s (Err e) → RefusesTagNext s e
peeked_fault h = (h.0, h.1.refused refl)

-- one tag is next at most
pub one_next_tag : {m n : ℕ} {s : ReaderState} → HasNextTag m s → HasNextTag n s → m ≡ n
one_next_tag p q = sym p.is ∙ ap tag_word (one_tag p.passed.next q.passed.next).0 ∙ q.is

-- a tag that is next is not refused
pub no_next_fault : {n : ℕ} {s : ReaderState} {e : Error} → RefusesTagNext s e → HasNextTag n s → ⊥
no_next_fault {n} {s} {e} r p = go r.1
  where
    go : {t : ReaderState} → IsRefusedBy IdentifierFault s e t → ⊥
    go (has_failed failed is stays) = absurd (let no : true ≡ false = sym failed ∙ p.passed.working in cc)
    go (at_fault q working fault is stays) = no_tag_fault fault p.passed.next.1 refl

abbrev pub answered : ℕ → Result ℕ Error
answered m = Ok m

abbrev pub refusal : Error → Result ℕ Error
refusal e = Err e

-- the word that is answered is that of the next tag; an error says that there is none
pub word_next : {s : ReaderState} {m : ℕ} → PeeksWord s (Ok m) → HasNextTag m s
word_next {s} {m} (next word has e) = subst (λ w. HasNextTag w s) (let same : answered m ≡ answered word = e in cc) has
word_next {m = m} (refused q r e) = absurd (let no : answered m ≡ refusal q = e in cc)

pub word_refused : {s : ReaderState} {e : Error} → PeeksWord s (Err e) → RefusesTagNext s e
word_refused {e = f} (next word has e) = absurd (let no : refusal f ≡ answered word = e in cc)
word_refused {s} {e = f} (refused q r e) = subst (λ x. RefusesTagNext s x) (let same : refusal q ≡ refusal f = sym e in cc) r

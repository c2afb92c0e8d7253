-- Headers of two octets that are written with one call.
use Rattle.std.proofs.Common.{◌≡◌, ℕ, ◌%◌, ◌<◌, Ok, Err, List, [], ◌∷◌, ◌++◌, length, refl, sym, ap, ◌∙◌, arith, rules}
use Rattle.std.proofs.lemmas.Bool.Decides.{nat_tests}
use Rattle.der_base.specs.Length.{length_octets}
use Rattle.der_base.specs.Tag.{tag_octets}
use Rattle.der_base.specs.HeaderGrammar.{header_octets}
use Rattle.der_base.specs.declared.tag.Tag.{Tag}
use Rattle.der_base.specs.declared.error.Error.{Error}
use Rattle.der_base.specs.declared.encoding_rules.EncodingRules.TheVariants.{Der, Ber}
use Rattle.der_base.proofs.IdentifierLemmas.{tagged, segmented, identifier_view}
use Rattle.der_base.proofs.LengthLemmas.{length_small}
use Rattle.der_core.specs.ReaderState.{ReaderState, initial_state}
use Rattle.der_core.specs.AfterFirstOctet.{IsAlone}
use Rattle.der_core.specs.Identifier.{identifier_tag}
use Rattle.der_core.specs.Writer.{WriterState, Writes, write_outcome, HasSpace}
use Rattle.der_core.proofs.EncodeLemmas.{header_at_once, has_space}
use Rattle.der_core.proofs.StateLemmas.{position_on}
use Rattle.der_core.proofs.TagReadLemmas.{found_alone}
use Rattle.der_c_core.specs.TagWord.{IsTagWord}
use Rattle.der_c_core.specs.WriterCalls.{WritesShort}
use Rattle.der_c_core.proofs.WordLemmas.{tag_short}

-- an octet that is a whole identifier is that of its tag, and the word of the tag
record IsTagOfOctet (o : ℕ) (t : Tag) : Type 0 where
  word : IsTagWord o t
  octets : tag_octets t ≡ o ∷ []

octet_is_tag : (o : ℕ) → IsAlone o → o % 32 < 31 → IsTagOfOctet o (identifier_tag o (o % 32))
octet_is_tag o alone small =
    let t = identifier_tag o (o % 32) in
    let s : ReaderState = initial_state Der [] in
    let found = found_alone s o alone in
    let none : length found.0 ≡ 0 = omega (arith, position_on found.2) in
    elim (identifier_view found.1) [
      | tagged n e c ↦ record { word = (n, sym (tag_short t o found.0 (sym e) small)); octets = sym e ∙ ap (λ l. o ∷ l) (nothing found.0 none) }
      | segmented r e p c ↦ absurd (let no : Der ≡ Ber = r in cc)
    ]
  where
    nothing : (l : List ℕ) → length l ≡ 0 → l ≡ []
    nothing [] e = refl
    nothing (x ∷ l) e = absurd (omega (arith, e))

pub short_written : (o n : ℕ) (s t : WriterState) → IsAlone o → o % 32 < 31 → n < 128 → HasSpace s 2 → Writes (write_outcome (o ∷ n ∷ []) s) (Ok tt) t → WritesShort o n s t
short_written o n s t alone small few space wrote =
    let reported = octet_is_tag o alone small in
    let tag = identifier_tag o (o % 32) in
    let octets : o ∷ n ∷ [] ≡ header_octets tag n = sym (ap (λ l. l ++ length_octets n) reported.octets ∙ ap (λ l. o ∷ l) (length_small n few)) in
    record { tag = tag; is = reported.word; few = omega (arith, few); writes = header_at_once tag n (o ∷ n ∷ []) s t (Ok tt) octets space wrote }

-- octets that there is space for are written without an error
pub not_refused : (octets : List ℕ) (s t : WriterState) (e : Error) → HasSpace s (length octets) → Writes (write_outcome octets s) (Err e) t → ⊥
not_refused octets s t e space wrote =
    let facts = has_space (length octets) s space in
    let a = wrote.answered in
    grind (rules, arith, nat_tests)

-- An OCTET STRING with an IMPLICIT tag as a CHOICE of its two forms.
use Rattle.std.proofs.Common.{◌≡◌, ℕ, ◌+◌, ◌≤◌, true, false, List, sym, ap, ◌∙◌, arith}
use Rattle.der.specs.Tag.{label}
use Rattle.der.specs.Prelude.{ElementNext, EncodingRules, OctetString, ReaderState, Tag, element_levels, fields_levels}
use Rattle.der_asn1.specs.Begins.{element_begins}
use Rattle.der_asn1.specs.ContextSpecific.{context_tag, TakesImplicit}
use Rattle.der_asn1.specs.Either.{EitherNext}
use Rattle.der_asn1.specs.Follow.{NoTagIn, other, this_tag}
use Rattle.der_asn1.specs.declared.fields.either.Either.{Either}
use Rattle.der_asn1.specs.declared.fields.either.Either.TheVariants.{First, Second}
use Rattle.der_asn1.specs.declared.fields.implicit.Implicit.{Implicit}
use Rattle.der_segments.specs.ImplicitSegmented.{ImplicitSegmentedNext, in_one_piece, in_segments}
use Rattle.der_segments.specs.Segmented.{TakesSegmented, segmented_levels}
use Rattle.der_segments.specs.declared.constructed_segmented.ConstructedSegmented.{ConstructedSegmented}
use Rattle.der_segments.specs.declared.segmented.Segmented.{Segmented}

-- a string in one of its forms
abbrev pub Form : ℕ → Type 0
Form n = Either (Implicit Segmented n) (ConstructedSegmented n)

-- a form of the string is next
abbrev pub FormNext : {n : ℕ} → Form n → EncodingRules → List ℕ → ℕ → Type 0
FormNext {n} = EitherNext (this_tag (context_tag false n)) (ElementNext (context_tag false n) (TakesImplicit OctetString TakesSegmented (λ v. v.0))) (ElementNext (context_tag true n) (λ v. TakesSegmented v.0))

-- the primitive tag is not next where the constructed one is
not_in_one_piece : (n : ℕ) (v : Segmented) (rules : EncodingRules) (octets : List ℕ) (m : ℕ) → ElementNext (context_tag true n) TakesSegmented v rules octets m → NoTagIn (this_tag (context_tag false n)) rules octets
not_in_one_piece n v rules octets m e =
    let b = element_begins e in
    other b.tag b.count b.next (λ same. (let no : false ≡ true = ap (λ (x : Tag). (label x).constructed) (sym same ∙ b.among) in cc))

-- a string that is next is next in one of its forms
pub next_form : {n : ℕ} {v : Segmented} {rules : EncodingRules} {octets : List ℕ} {m : ℕ} → ImplicitSegmentedNext n v rules octets m → (w : Form n) × FormNext w rules octets m
next_form {n} {v} (in_one_piece e) = (
  First (record { 0 = v }),
  record { says = e.says; header = e.header; contents = e.contents; eoc = e.eoc; following = e.following; next = e.next; tagged = e.tagged; split = e.split; sized = e.sized; has_eoc = e.has_eoc; whole = e.whole; taken = e.taken },
)
next_form {n} {v} {rules} {octets} {m} (in_segments e) = (
  Second (record { 0 = v }),
  (
    record { says = e.says; header = e.header; contents = e.contents; eoc = e.eoc; following = e.following; next = e.next; tagged = e.tagged; split = e.split; sized = e.sized; has_eoc = e.has_eoc; whole = e.whole; taken = e.taken },
    not_in_one_piece n v rules octets m e,
  ),
)

-- both forms need the same levels
pub form_levels : (s : ReaderState) → s.depth + element_levels segmented_levels s.rules ≤ 64 → s.depth + fields_levels (element_levels segmented_levels) (element_levels segmented_levels) s.rules ≤ 64
form_levels s deep = omega (arith, deep)

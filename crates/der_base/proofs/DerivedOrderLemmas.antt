-- The derived order of tags.
use Rattle.std.proofs.Common.{◌≡◌, ℕ, ◌<◌, List, [], ◌∷◌, refl, sym, inl, inr, arith, rules}
use Rattle.std.specs.declared.cmp.Ordering.{Ordering}
use Rattle.std.specs.declared.cmp.Ordering.TheVariants.{Less, Greater}
use Rattle.std.specs.Ordering.{ordering_then, nat_cmp}
use Rattle.std.proofs.lemmas.Bool.Decides.{nat_tests}
use borrow.Enum.Compared.{by_before, by_after}
use denote.Enum.Compared.{Each, by}
use denote.Enum.Declared.{Choice, tag_of, declared, rowss, intoss}
use denote.Enum.Enum.{tag}
use denote.Struct.Field.{Field}
use denote.Struct.Values.{Values}
use Rattle.der_base.specs.contracts.tag.Tag.{enum}
use Rattle.der_base.specs.contracts.tag.TagOrd.TheImpl.{ghosts}
use Rattle.der_base.specs.Compare.{variant_index, tag_order}
use Rattle.der_base.specs.declared.tag.Tag.{Tag}
use Rattle.der_base.specs.declared.tag.Tag.TheVariants.{Boolean, Integer, BitString, OctetString, Null, ObjectIdentifier, Real, Enumerated, Utf8String, RelativeOid, Sequence, Set, NumericString, PrintableString, TeletexString, VideotexString, Ia5String, UtcTime, GeneralizedTime, VisibleString, GeneralString, BmpString, Application, ContextSpecific, Private}

place-is : (t : Tag) → tag_of (declared enum) t ≡ variant_index t
place-is Boolean = refl
place-is Integer = refl
place-is BitString = refl
place-is OctetString = refl
place-is Null = refl
place-is ObjectIdentifier = refl
place-is Real = refl
place-is Enumerated = refl
place-is Utf8String = refl
place-is RelativeOid = refl
place-is Sequence = refl
place-is Set = refl
place-is NumericString = refl
place-is PrintableString = refl
place-is TeletexString = refl
place-is VideotexString = refl
place-is Ia5String = refl
place-is UtcTime = refl
place-is GeneralizedTime = refl
place-is VisibleString = refl
place-is GeneralString = refl
place-is BmpString = refl
place-is (Application b n) = refl
place-is (ContextSpecific b n) = refl
place-is (Private b n) = refl

derived-before : (s t : Tag) → variant_index s < variant_index t → ghosts.cmp s t ≡ Less
derived-before s t h = sym (by_before Less Greater enum _ s t (omega (arith, place-is s, place-is t)))

derived-after : (s t : Tag) → variant_index t < variant_index s → ghosts.cmp s t ≡ Greater
derived-after s t h = sym (by_after Less Greater enum _ s t (omega (arith, place-is s, place-is t)))

-- `said` compares two values of each variant as `each` does
abbrev Agrees : (parts : List (List Field)) → Each Ordering parts → (Choice parts → Choice parts → Ordering) → Type 0
Agrees [] each said = Unit {0}
Agrees (part ∷ parts) each said =
    ((x y : Values part) → each.0 x y ≡ said (inl x) (inl y)) × Agrees parts each.1 (λ c d. said (inr c) (inr d))

abbrev position : (parts : List (List Field)) → Choice parts → ℕ
position parts c = tag (rowss parts) (intoss parts c)

-- two values of one variant compare as specified, if the fields of each variant do
agrees : (parts : List (List Field)) (each : Each Ordering parts) (said : Choice parts → Choice parts → Ordering) → Agrees parts each said
    → (c d : Choice parts) → position parts c ≡ position parts d → by Less Greater parts each c d ≡ said c d
agrees [] each said all c d e = absurd c
agrees (part ∷ parts) each said all (inl x) (inl y) e = all.0 x y
agrees (part ∷ parts) each said all (inl x) (inr d) e = absurd (omega arith)
agrees (part ∷ parts) each said all (inr c) (inl y) e = absurd (omega arith)
agrees (part ∷ parts) each said all (inr c) (inr d) e = agrees parts each.1 (λ c d. said (inr c) (inr d)) all.1 c d (omega arith)

abbrev made : Choice enum.parts → Choice enum.parts → Ordering
made c d = tag_order (enum.make c) (enum.make d)

derived-same : (s t : Tag) → variant_index s ≡ variant_index t → ghosts.cmp s t ≡ tag_order s t
derived-same s t e =
    let same : ghosts.cmp s t ≡ tag_order (enum.make (enum.as_values s)) (enum.make (enum.as_values t)) =
    agrees enum.parts _ made (search rules) (enum.as_values s) (enum.as_values t) (omega (arith, place-is s, place-is t)) in
    cc (enum.eta s, enum.eta t)

by_place : (j k : ℕ) (answer rest : Ordering) → (j < k → answer ≡ Less) → (k < j → answer ≡ Greater) → (j ≡ k → answer ≡ ordering_then (nat_cmp j k) rest)
    → answer ≡ ordering_then (nat_cmp j k) rest
by_place j k answer rest less greater same = grind (arith, nat_tests)

pub tag_cmp-is : (s t : Tag) → ghosts.cmp s t ≡ tag_order s t
tag_cmp-is s t = by_place (variant_index s) (variant_index t) _ _ (derived-before s t) (derived-after s t) (derived-same s t)

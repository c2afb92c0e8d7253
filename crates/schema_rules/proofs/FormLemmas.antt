-- What a word of `der_asn1` for contents says of the rules of its type.
use Rattle.std.proofs.Common.{◌≡◌, ℕ, Bool, true, false, ◌+◌, ◌-◌, ◌*◌, drop, ap, ◌&&◌, ◌||◌, not, ◌==◌, List, [], ◌∷◌, nat_lt, refl, ⊎_elim}
use Rattle.std.proofs.lemmas.Bool.{cases_Bool, and_parts, eqb-true}
use Rattle.std.specs.Cmp.Derive.{both_true}
use Rattle.ber.specs.declared.universal.Universal.TheVariants as type
use Rattle.schema_rules.proofs.TimeLawLemmas.{utc_to_form, utc_from_form, generalized_to_form, generalized_from_form}
use Rattle.schema_rules.specs.Digits.{digit_count}
use Rattle.schema_rules.specs.GeneralizedTime.{has_fraction, fraction_digits, zone_of, zone_form}
use Rattle.der_asn1.specs.Times.{two_at, utc_year, utc_form, generalized_form}
use Rattle.schema_rules.specs.Zone.{exists_date, exists_time, exists_offset}
use Rattle.der_base.specs.declared.encoding_rules.EncodingRules.TheVariants.{Der}
use Rattle.schema_rules.specs.Contents.{IsContents}
use Rattle.der_asn1.specs.Forms.{boolean_form, integer_form, bits_form, oid_form, ends_subidentifiers, has_low_zeros}
use Rattle.schema_rules.specs.Laws.{IsForm, ContentsHaveForms, NamedBitsHaveForm, TimesWithoutFractionHaveForm}
use Rattle.der_asn1.specs.NamedBits.{last_bit_is_one}
use Rattle.schema_rules.specs.Small.{has_octets, has_one_octet, has_unused_bits, has_none_unused, ends_whole}

one_octet : (octets : List ℕ) → boolean_form octets ≡ true → has_one_octet octets ≡ true
one_octet [] f = f
one_octet (o ∷ []) f = refl
one_octet (o ∷ p ∷ os) f = f

some_octets : (octets : List ℕ) → integer_form octets ≡ true → has_octets octets ≡ true
some_octets [] f = f
some_octets (o ∷ os) f = refl

initial_octet : (octets : List ℕ) → bits_form octets ≡ true → has_octets octets ≡ true
initial_octet [] f = f
initial_octet (o ∷ os) f = refl

few_unused : (octets : List ℕ) → bits_form octets ≡ true → has_unused_bits octets ≡ true
few_unused [] f = refl
few_unused (u ∷ os) f = (and_parts (nat_lt u 8) (has_low_zeros u os) f).0

none_unused : (octets : List ℕ) → bits_form octets ≡ true → has_none_unused octets ≡ true
none_unused [] f = refl
none_unused (u ∷ []) f = (and_parts (nat_lt u 8) (u == 0) f).1
none_unused (u ∷ o ∷ os) f = refl

some_subidentifier : (octets : List ℕ) → oid_form octets ≡ true → has_octets octets ≡ true
some_subidentifier [] f = f
some_subidentifier (o ∷ os) f = refl

whole_after : (starts : Bool) (o : ℕ) (os : List ℕ) → ends_subidentifiers starts (o ∷ os) ≡ true → ends_subidentifiers (nat_lt o 128) os ≡ true
whole_after starts o os f =
    ⊎_elim (λ e. let g : false ≡ true = rw e at f in absurd (cc)) (λ e. rw e at f) (cases_Bool (starts && (o == 128)))

ends : (starts : Bool) (o : ℕ) (os : List ℕ) → ends_subidentifiers starts (o ∷ os) ≡ true → ends_whole (o ∷ os) ≡ true
ends starts o [] f = whole_after starts o [] f
ends starts o (p ∷ os) f = ends (nat_lt o 128) p os (whole_after starts o (p ∷ os) f)

whole_end : (octets : List ℕ) → oid_form octets ≡ true → ends_whole octets ≡ true
whole_end [] f = refl
whole_end (o ∷ os) f = ends true o os f

-- a UTCTime of seconds and Z
utc_to : (octets : List ℕ) → IsContents Der type.UtcTime octets → utc_form octets ≡ true
utc_to octets k =
    let c : digit_count octets ≡ 12 = eqb-true (digit_count octets) 12 (k.1.1.1.0 refl) in
    let exists = rw c at (k.1.0 refl) in
    let date = and_parts (exists_date (utc_year (two_at 0 octets)) (two_at 2 octets) (two_at 4 octets)) (exists_time 6 6 octets && exists_offset (drop 12 octets)) exists in
    let time = and_parts (exists_time 6 6 octets) (exists_offset (drop 12 octets)) date.1 in
    utc_to_form octets c (rw c at (k.1.1.0 refl)) date.0 time.0

utc_from : (octets : List ℕ) → utc_form octets ≡ true → IsContents Der type.UtcTime octets
utc_from octets f =
    let u = utc_from_form octets f in
    let c = u.count in
    let e = u.end in
    (λ _. rw (c, e) refl, (λ _. rw c (both_true u.date (both_true u.time (rw e refl))), (λ _. rw (c, e) refl, (λ _. rw c refl, tt))))

pub contents_have_forms : ContentsHaveForms
contents_have_forms u form octets IsForm.boolean = (λ k. k.1.0 refl, λ f. (λ _. one_octet octets f, (λ _. f, tt)))
contents_have_forms u form octets IsForm.integer = (λ k. k.1.0 refl, λ f. (λ _. some_octets octets f, (λ _. f, tt)))
contents_have_forms u form octets IsForm.enumerated = (λ k. k.1.0 refl, λ f. (λ _. some_octets octets f, (λ _. f, tt)))
contents_have_forms u form octets IsForm.bit_string = (λ k. k.1.1.1.0 refl, λ f. (λ _. initial_octet octets f, (λ _. few_unused octets f, (λ _. none_unused octets f, (λ _. f, tt)))))
contents_have_forms u form octets IsForm.octet_string = (λ _. refl, λ _. tt)
contents_have_forms u form octets IsForm.null = (λ k. k.0 refl, λ f. (λ _. f, tt))
contents_have_forms u form octets IsForm.object_identifier = (λ k. k.1.1.0 refl, λ f. (λ _. some_subidentifier octets f, (λ _. whole_end octets f, (λ _. f, tt))))
contents_have_forms u form octets IsForm.utf8_string = (λ k. k.0 refl, λ f. (λ _. f, tt))
contents_have_forms u form octets IsForm.numeric_string = (λ k. k.0 refl, λ f. (λ _. f, tt))
contents_have_forms u form octets IsForm.printable_string = (λ k. k.0 refl, λ f. (λ _. f, tt))
contents_have_forms u form octets IsForm.teletex_string = (λ _. refl, λ _. tt)
contents_have_forms u form octets IsForm.ia5_string = (λ k. k.0 refl, λ f. (λ _. f, tt))
contents_have_forms u form octets IsForm.visible_string = (λ k. k.0 refl, λ f. (λ _. f, tt))
contents_have_forms u form octets IsForm.bmp_string = (λ k. k.0 refl, λ f. (λ _. f, tt))
contents_have_forms u form octets IsForm.utc_time = (λ k. utc_to octets k, λ f. utc_from octets f)

pub named_bits_have_form : NamedBitsHaveForm
named_bits_have_form octets = (
  λ k. k.1.1.1.1.0 refl,
  λ f. let b = (and_parts (bits_form octets) (last_bit_is_one octets) f).0 in
      (λ _. initial_octet octets b, (λ _. few_unused octets b, (λ _. none_unused octets b, (λ _. b, (λ _. f, tt))))),
)

generalized_to : (octets : List ℕ) → IsContents Der type.GeneralizedTime octets → has_fraction octets ≡ false → generalized_form octets ≡ true
generalized_to octets k n =
    let c : digit_count octets ≡ 14 = eqb-true (digit_count octets) 14 (k.1.1.1.0 refl) in
    let zone : zone_of octets ≡ drop 14 octets = rw n (ap (λ i. drop i octets) c) in
    let exists = k.1.0 refl in
    let year = two_at 0 octets * 100 + two_at 2 octets in
    let date = and_parts (exists_date year (two_at 4 octets) (two_at 6 octets)) (exists_time (digit_count octets - 8) 8 octets && exists_offset (zone_of octets)) exists in
    let time = and_parts (exists_time (digit_count octets - 8) 8 octets) (exists_offset (zone_of octets)) date.1 in
    generalized_to_form octets c (rw zone at (k.1.1.0 refl)) date.0 (rw c at time.0)

generalized_from : (octets : List ℕ) → generalized_form octets ≡ true → IsContents Der type.GeneralizedTime octets × (has_fraction octets ≡ false)
generalized_from octets f =
    let g = generalized_from_form octets f in
    let c = g.count in
    let e = g.end in
    let n : has_fraction octets ≡ false = rw (c, e) refl in
    let zone : zone_of octets ≡ 90 ∷ [] = rw n (rw (c, e) refl) in
    let digits : ((digit_count octets == 10) || ((digit_count octets == 12) || (digit_count octets == 14))) ≡ true = rw c refl in
    let whole : (not (has_fraction octets) || nat_lt 0 (fraction_digits octets)) ≡ true = rw n refl in
    let zoned : zone_form (zone_of octets) ≡ true = rw zone refl in
    let time : exists_time (digit_count octets - 8) 8 octets ≡ true = rw c g.time in
    let offset : exists_offset (zone_of octets) ≡ true = rw zone refl in
    let exists = both_true g.date (both_true time offset) in
    ((λ _. both_true digits (both_true whole zoned), (λ _. exists, (λ _. rw zone refl, (λ _. rw c refl, (λ _. rw n refl, (λ _. rw n refl, tt)))))), n)

pub times_without_fraction_have_form : TimesWithoutFractionHaveForm
times_without_fraction_have_form octets = (λ k. generalized_to octets k.0 k.1, λ f. generalized_from octets f)

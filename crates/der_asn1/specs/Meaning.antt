-- Specifications of the parts of a SEQUENCE, with their laws, so that composed specifications have
-- their laws too: `FieldSpec`, `AlternativeSpec` and `ElementSpec`, and the functions that compose
-- them.
use Rattle.std.proofs.Common.{◌≡◌, ℕ, ◌^◌, ◌<◌, ◌≤◌, ◌&&◌, ◌||◌, Bool, true, false, List, [], ◌∷◌, ◌++◌, nat_lt, arith, subst, sym, ltb-true}
use Rattle.der.specs.Prelude.{Head, Tag, Sequence as SequenceTag, EncodingRules, Der, ElementNext}
use Rattle.der.specs.Prelude.{element_octets, element_levels, fields_levels, FieldsNext, IsLawful}
use Rattle.der.specs.Prelude.{TakesWhole}
use Rattle.der.specs.Tag.{label}
pub use Rattle.der.specs.ElementSpec.{ElementSpec}
use Rattle.der_asn1.specs.AnyElement.{AnyElementNext}
use Rattle.der_asn1.specs.AnyLaws.{any_element_decided_by_tag}
use Rattle.der_asn1.specs.AnyRef.{IsAny, TakesAny, any_contents}
use Rattle.der_asn1.specs.Begins.{element_begins, any_element_begins}
use Rattle.der_asn1.specs.Checked.{HasCheckedContents, AcceptsCheckedContents, checked_contents_lawful}
use Rattle.der_asn1.specs.ContextSpecific.{context_tag, retagged, TakesImplicit, implicit_lawful}
use Rattle.der_asn1.specs.ContextSpecific.{explicit_lawful, explicit_holds}
use Rattle.der_asn1.specs.Default.{DefaultNext, IsDefaulted, default_encoding, DefaultPrecedes}
use Rattle.der_asn1.specs.Either.{EitherNext, IsEither, either_encoding}
use Rattle.der_asn1.specs.EitherLaws.{either_begins, either_decided_by_tag}
use Rattle.der_asn1.specs.FieldLaws.{contents_laws, contents_hold}
use Rattle.der_asn1.specs.Follow.{Anything, BothPrecede, TagIn, this_tag, any_tag, either_tags}
use Rattle.der_asn1.specs.HeaderForm.{TakesFormed, formed_lawful}
use Rattle.der_asn1.specs.Item.{IsItem, ItemSpec, element_is_item, element_item}
use Rattle.der_asn1.specs.LawfulItem.{IsLawfulItem, lawful_element_item}
use Rattle.der_asn1.specs.Optional.{OptionNext, IsOptional, option_encoding, OptionPrecedes}
use Rattle.der_asn1.specs.PairLaws.{pair_set}
use Rattle.der_asn1.specs.OctetsWith.{AcceptsOctetsWith, HasOctetsWith, octets_with_lawful, octets_with_accepts_valid}
use Rattle.der_asn1.specs.SetLaws.{SetLaws, DecidedByTagLaws, laws_of, element_decided_by_tag, decided_by_tag_set, pair_stops}
use Rattle.der_asn1.specs.SetLaws.{optional_set, default_set, seen_decided_by_tag, seen_set}
use Rattle.der_asn1.specs.TagSets.{TagGroup, one_tag, all_but, are_apart}
use Rattle.der_asn1.specs.TagSetLemmas.{both_true}
use Rattle.der_asn1.specs.declared.elements.any.AnyRef.{AnyRef}
use Rattle.der_asn1.specs.declared.defaults.defaulted.Defaulted.{Defaulted}
use Rattle.der_asn1.specs.declared.fields.either.Either.{Either}
use Rattle.der_asn1.specs.declared.fields.optional.Optional.{Optional}

-- a field: which values octets begin with and how many octets each has (`is_next`), the valid
-- values and their encodings, the levels of nesting, and whether the field is never empty
-- (`always`); the tags it may begin with (`first`), and the tags that must not follow it (`stops`);
-- and its laws, which hold if its parts are compatible (`is_compatible`)
pub record FieldSpec (A : Type 0) : Type 1 where
  pub is_next : A → EncodingRules → List ℕ → ℕ → Type 0
  pub valid : A → Type 0
  pub encoding : A → List ℕ
  pub levels : EncodingRules → ℕ
  pub always : Bool
  pub first : List TagGroup
  pub stops : List TagGroup
  pub precedes : A → List ℕ → Type 0
  pub is_compatible : Bool
  pub laws : is_compatible ≡ true → SetLaws always first stops precedes is_next valid encoding

-- a field that is always one element, and for which the next tag decides whether it is present:
-- the tags it may begin with (`tags`, and as a list `first`), with one of which each value begins
pub record AlternativeSpec (A : Type 0) : Type 1 where
  pub is_next : A → EncodingRules → List ℕ → ℕ → Type 0
  pub valid : A → Type 0
  pub encoding : A → List ℕ
  pub levels : EncodingRules → ℕ
  pub tags : Tag → Type 0
  pub first : List TagGroup
  pub begins : (v : A) (rules : EncodingRules) (octets : List ℕ) (m : ℕ)
      → is_next v rules octets m → TagIn tags rules octets
  pub is_compatible : Bool
  pub laws : is_compatible ≡ true → DecidedByTagLaws tags first is_next valid encoding

-- an element as an alternative, decided by its tag
abbrev pub alternative : {A : Type 0} → ElementSpec A → AlternativeSpec A
alternative one =
    record {
      is_next = ElementNext one.tag one.takes;
      valid = one.valid;
      encoding = λ v. element_octets one.tag (one.contents v);
      levels = element_levels one.levels;
      tags = this_tag one.tag;
      first = one_tag one.tag ∷ [];
      begins = λ v rules octets m e. element_begins e;
      is_compatible = one.is_compatible;
      laws = λ e. element_decided_by_tag (one.lawful e) (one.holds e);
    }

-- an alternative as a field
abbrev pub field : {A : Type 0} → AlternativeSpec A → FieldSpec A
field one =
    record {
      is_next = one.is_next;
      valid = one.valid;
      encoding = one.encoding;
      levels = one.levels;
      always = true;
      first = one.first;
      stops = [];
      precedes = Anything;
      is_compatible = one.is_compatible;
      laws = λ e. decided_by_tag_set (one.laws e);
    }

-- an element of any tag
abbrev pub any_element : AlternativeSpec AnyRef
any_element =
    record {
      is_next = AnyElementNext TakesAny;
      valid = IsAny;
      encoding = λ v. element_octets v.tag (any_contents v);
      levels = element_levels (λ _. 0);
      tags = any_tag;
      first = all_but [] ∷ [];
      begins = λ v rules octets m e. any_element_begins e;
      is_compatible = true;
      laws = λ e. any_element_decided_by_tag;
    }

-- an OPTIONAL field
abbrev pub optional : {A : Type 0} → AlternativeSpec A → FieldSpec (Optional A)
optional one =
    record {
      is_next = λ v. OptionNext one.tags one.is_next v.0;
      valid = λ v. IsOptional one.valid v.0;
      encoding = λ v. option_encoding one.encoding v.0;
      levels = one.levels;
      always = false;
      first = one.first;
      stops = one.first;
      precedes = λ v. OptionPrecedes one.tags Anything v.0;
      is_compatible = one.is_compatible;
      laws = λ e. optional_set (one.laws e) (λ v. v.0);
    }

-- a DEFAULT field
abbrev pub defaulted : {A : Type 0} → (A → Bool) → AlternativeSpec A → FieldSpec (Defaulted A)
defaulted is_default one =
    record {
      is_next = λ v. DefaultNext one.tags is_default one.is_next v.0;
      valid = λ v. IsDefaulted is_default one.valid v.0;
      encoding = λ v. default_encoding is_default one.encoding v.0;
      levels = one.levels;
      always = false;
      first = one.first;
      stops = one.first;
      precedes = λ v. DefaultPrecedes one.tags is_default Anything v.0;
      is_compatible = one.is_compatible;
      laws = λ e. default_set (one.laws e) is_default (λ v. v.0);
    }

-- two fields in sequence; the second must not begin with a tag that decides whether the first is
-- absent
abbrev pub two_fields : {A B : Type 0} → FieldSpec A → FieldSpec B → FieldSpec (A × B)
two_fields one two =
    record {
      is_next = FieldsNext one.is_next two.is_next;
      valid = λ v. one.valid v.0 × two.valid v.1;
      encoding = λ v. one.encoding v.0 ++ two.encoding v.1;
      levels = fields_levels one.levels two.levels;
      always = one.always || two.always;
      first = one.first ++ two.first;
      stops = pair_stops two.always one.stops two.stops;
      precedes = BothPrecede two.encoding one.precedes two.precedes;
      is_compatible = are_apart one.stops two.first && (one.is_compatible && two.is_compatible);
      laws = λ e. pair_set (λ v. v) e one.laws two.laws;
    }

-- a field converted to another type
abbrev pub seen : {A B : Type 0} → (B → A) → FieldSpec A → FieldSpec B
seen f one =
    record {
      is_next = λ b. one.is_next (f b);
      valid = λ b. one.valid (f b);
      encoding = λ b. one.encoding (f b);
      levels = one.levels;
      always = one.always;
      first = one.first;
      stops = one.stops;
      precedes = λ b. one.precedes (f b);
      is_compatible = one.is_compatible;
      laws = λ e. seen_set f (one.laws e);
    }

-- one alternative or the other; no tag may belong to both
abbrev pub either : {A B : Type 0} → AlternativeSpec A → AlternativeSpec B
    → AlternativeSpec (Either A B)
either one two =
    record {
      is_next = EitherNext one.tags one.is_next two.is_next;
      valid = IsEither one.valid two.valid;
      encoding = either_encoding one.encoding two.encoding;
      levels = fields_levels one.levels two.levels;
      tags = either_tags one.tags two.tags;
      first = one.first ++ two.first;
      begins = either_begins one.begins two.begins;
      is_compatible = are_apart one.first two.first && (one.is_compatible && two.is_compatible);
      laws = λ e. either_decided_by_tag e one.laws two.laws;
    }

-- an alternative converted to another type, such as nested choices of two to an enum
abbrev pub choice_of : {A B : Type 0} → AlternativeSpec A → (B → A) → AlternativeSpec B
choice_of one f =
    record {
      is_next = λ b. one.is_next (f b);
      valid = λ b. one.valid (f b);
      encoding = λ b. one.encoding (f b);
      levels = one.levels;
      tags = one.tags;
      first = one.first;
      begins = λ b. one.begins (f b);
      is_compatible = one.is_compatible;
      laws = λ e. seen_decided_by_tag f (one.laws e);
    }

-- an element as an item of a list
abbrev pub sequence_item : {A : Type 0} → ElementSpec A → ItemSpec A
sequence_item one =
    element_item one.tag one.takes one.valid one.contents one.levels false

pub sequence_is_item : {A : Type 0} (one : ElementSpec A) → one.is_compatible ≡ true
    → IsItem (sequence_item one)
sequence_is_item one e = element_is_item (one.lawful e) false

-- an alternative as an item of a list
abbrev pub choice_item : {A : Type 0} → AlternativeSpec A → ItemSpec A
choice_item one =
    record {
      next = one.is_next;
      valid = one.valid;
      octets = one.encoding;
      levels = one.levels;
      allocates = false;
    }

-- whether an alternative is an item: `is_compatible` is true, and a reader outside all nested parts
-- has enough levels for it
abbrev pub can_be_item : {A : Type 0} → AlternativeSpec A → Bool
can_be_item one = one.is_compatible && nat_lt (one.levels Der) 65

pub choice_is_item : {A : Type 0} (one : AlternativeSpec A) → can_be_item one ≡ true
    → IsItem (choice_item one)
choice_is_item one e =
    let p = both_true one.is_compatible (nat_lt (one.levels Der) 65) e in
    let below = ltb-true (one.levels Der) 65 p.1 in
    record {
      reads = (one.laws p.0).reads;
      element = (one.laws p.0).element;
      shallow = omega (arith, below);
    }

-- whether a tag number is one that the library can represent (below 2 to the 32)
abbrev pub is_small : ℕ → Bool
is_small n = nat_lt n (2 ^ 32)

pub small : (n : ℕ) → is_small n ≡ true → n < 2 ^ 32
small n e = ltb-true n (2 ^ 32) e

-- an element with checked contents
abbrev pub of_form : {A : Type 0} → Tag → (List ℕ → Bool) → (A → List ℕ) → ElementSpec A
of_form tag grammar octets =
    record {
      tag = tag;
      takes = AcceptsCheckedContents tag grammar octets;
      valid = HasCheckedContents grammar octets;
      contents = octets;
      levels = λ _. 0;
      is_compatible = is_small (label tag).number;
      lawful = λ e. checked_contents_lawful tag grammar octets (small (label tag).number e);
      holds = λ e v rules h octets taken. subst (λ x. grammar x ≡ true) (sym taken.2) taken.1;
    }

-- an element whose contents are octets with a property, such as lists and sets of elements
abbrev pub octets_with : {B : Type 0} → Tag → (List ℕ → Type 0) → (B → List ℕ) → ElementSpec B
octets_with tag Holds octets =
    record {
      tag = tag;
      takes = AcceptsOctetsWith Holds octets;
      valid = HasOctetsWith Holds octets;
      contents = octets;
      levels = λ _. 0;
      is_compatible = is_small (label tag).number;
      lawful = λ e. octets_with_lawful tag Holds octets (small (label tag).number e);
      holds = λ e. octets_with_accepts_valid Holds octets;
    }

-- `is_compatible` is true, and an element has at most 62 levels of nesting, so that another element
-- may contain it
abbrev pub is_shallow : Bool → (EncodingRules → ℕ) → Bool
is_shallow is_compatible levels = is_compatible && nat_lt (levels Der) 63

pub shallow : (is_compatible : Bool) (levels : EncodingRules → ℕ)
    → is_shallow is_compatible levels ≡ true
    → levels Der ≤ 62
shallow is_compatible levels e =
    let below = ltb-true (levels Der) 63 (both_true is_compatible (nat_lt (levels Der) 63) e).1 in
    omega (arith, below)

-- an element as an item of a list is one of a lawful type, if another element may contain it
pub is_lawful_item : {A : Type 0} (one : ElementSpec A)
    → is_shallow one.is_compatible one.levels ≡ true
    → IsLawfulItem one.tag one.takes one.contents one.valid one.levels false (sequence_item one)
is_lawful_item one e =
    lawful_element_item (one.lawful (both_true one.is_compatible (nat_lt (one.levels Der) 63) e).0)
    (shallow one.is_compatible one.levels e)

pub seen_lawful : {A B : Type 0} {tag : Tag} {takes : A → EncodingRules → Head → List ℕ → Type 0}
    {valid : A → Type 0} {contents : A → List ℕ} {levels : EncodingRules → ℕ} (f : B → A)
    → IsLawful tag takes valid contents levels
    → IsLawful tag (λ b. takes (f b)) (λ b. valid (f b)) (λ b. contents (f b)) levels
seen_lawful f one =
    record {
      exact = λ octets b short. one.exact octets (f b) short;
      shallow = one.shallow;
      numbered = one.numbered;
    }

-- laws of a field that is exactly the contents of an element
module _ {A : Type 0} {is_compatible always : Bool} {first stops : List TagGroup}
    {P : A → List ℕ → Type 0} {Next : A → EncodingRules → List ℕ → ℕ → Type 0}
    {valid : A → Type 0} {encoding : A → List ℕ} (levels : EncodingRules → ℕ)
    (laws : is_compatible ≡ true → SetLaws always first stops P Next valid encoding) {B : Type 0}
    (f : B → A) (e : is_shallow is_compatible levels ≡ true) where
  pub sequence_holds : (b : B) (rules : EncodingRules) (h : Head) (octets : List ℕ)
      → TakesWhole Next (f b) rules h octets → valid (f b)
  sequence_holds b =
      contents_hold (laws_of (laws (both_true is_compatible (nat_lt (levels Der) 63) e).0)) (f b)

  pub sequence_lawful : IsLawful SequenceTag (λ b. TakesWhole Next (f b)) (λ b. valid (f b))
      (λ b. encoding (f b)) levels
  sequence_lawful =
      let low = shallow is_compatible levels e in
      contents_laws SequenceTag levels f
      (laws_of (laws (both_true is_compatible (nat_lt (levels Der) 63) e).0)) (omega (arith, low))
      (omega arith)

-- a SEQUENCE whose contents are exactly a field
abbrev pub sequence : {A B : Type 0} → FieldSpec A → (B → A) → ElementSpec B
sequence one f =
    record {
      tag = SequenceTag;
      takes = λ b. TakesWhole one.is_next (f b);
      valid = λ b. one.valid (f b);
      contents = λ b. one.encoding (f b);
      levels = one.levels;
      is_compatible = is_shallow one.is_compatible one.levels;
      lawful = sequence_lawful one.levels one.laws f;
      holds = sequence_holds one.levels one.laws f;
    }

-- an element converted to another type
abbrev pub renamed : {A B : Type 0} → ElementSpec A → (B → A) → ElementSpec B
renamed one f =
    record {
      tag = one.tag;
      takes = λ b. one.takes (f b);
      valid = λ b. one.valid (f b);
      contents = λ b. one.contents (f b);
      levels = one.levels;
      is_compatible = one.is_compatible;
      lawful = λ e. seen_lawful f (one.lawful e);
      holds = λ e b. one.holds e (f b);
    }

-- the same contents with another tag in place of the type's own
abbrev pub retagged_element : {A B : Type 0} → Tag → ElementSpec A → (B → A) → ElementSpec B
retagged_element outer one f =
    record {
      tag = outer;
      takes = TakesImplicit one.tag one.takes f;
      valid = λ b. one.valid (f b);
      contents = λ b. one.contents (f b);
      levels = one.levels;
      is_compatible = is_small (label outer).number && one.is_compatible;
      lawful = λ e. (let number = (label outer).number in
          let p = both_true (is_small number) one.is_compatible e in
          implicit_lawful outer f (small number p.0) (one.lawful p.1));
      holds = λ e b rules h octets taken. one.holds
          (both_true (is_small (label outer).number) one.is_compatible e).1 (f b) rules
          (retagged one.tag h) octets taken;
    }

-- the same contents with a context-specific tag
abbrev pub implicit : {A B : Type 0} → ℕ → ElementSpec A → (B → A) → ElementSpec B
implicit n one f = retagged_element (context_tag (label one.tag).constructed n) one f

-- an element that is the contents of an element with this tag, such as an OCTET STRING that
-- contains it (X.682 11)
abbrev pub containing : {A B : Type 0} → Tag → ElementSpec A → (B → A) → ElementSpec B
containing outer one f =
    record {
      tag = outer;
      takes = λ b. TakesWhole (ElementNext one.tag one.takes) (f b);
      valid = λ b. one.valid (f b);
      contents = λ b. element_octets one.tag (one.contents (f b));
      levels = element_levels one.levels;
      is_compatible = is_small (label outer).number && is_shallow one.is_compatible one.levels;
      lawful = λ e. (let number = (label outer).number in
          let p = both_true (is_small number) (is_shallow one.is_compatible one.levels) e in
          let q = both_true one.is_compatible (nat_lt (one.levels Der) 63) p.1 in
          explicit_lawful outer f (small number p.0) (one.lawful q.0)
          (shallow one.is_compatible one.levels p.1));
      holds = λ e. (let p = both_true (is_small (label outer).number)
          (is_shallow one.is_compatible one.levels) e in
          explicit_holds f
          (one.holds (both_true one.is_compatible (nat_lt (one.levels Der) 63) p.1).0));
    }

-- an element whose header must have the form of its tag
abbrev pub of_own_form : {A : Type 0} → ElementSpec A → ElementSpec A
of_own_form one =
    record {
      tag = one.tag;
      takes = TakesFormed one.tag one.takes;
      valid = one.valid;
      contents = one.contents;
      levels = one.levels;
      is_compatible = one.is_compatible;
      lawful = λ e. formed_lawful (one.lawful e);
      holds = λ e v rules h octets taken. one.holds e v rules h octets taken.1;
    }

-- an element inside one with a context-specific tag
abbrev pub explicit : {A B : Type 0} → ℕ → ElementSpec A → (B → A) → ElementSpec B
explicit n = containing (context_tag true n)

-- laws of an alternative inside an element with a context-specific tag
module _ {A : Type 0} {is_compatible : Bool} {tags : Tag → Type 0} {first : List TagGroup}
    {Next : A → EncodingRules → List ℕ → ℕ → Type 0} {valid : A → Type 0} {encoding : A → List ℕ}
    (n : ℕ) (levels : EncodingRules → ℕ)
    (laws : is_compatible ≡ true → DecidedByTagLaws tags first Next valid encoding) {B : Type 0}
    (f : B → A) (e : (is_small n && is_shallow is_compatible levels) ≡ true) where
  inside : DecidedByTagLaws tags first Next valid encoding
  inside = laws (both_true is_compatible (nat_lt (levels Der) 63)
      (both_true (is_small n) (is_shallow is_compatible levels) e).1).0

  pub choice_holds : (b : B) (rules : EncodingRules) (h : Head) (octets : List ℕ)
      → TakesWhole Next (f b) rules h octets → valid (f b)
  choice_holds b = contents_hold (laws_of (decided_by_tag_set inside)) (f b)

  pub choice_lawful : IsLawful (context_tag true n) (λ b. TakesWhole Next (f b))
      (λ b. valid (f b)) (λ b. encoding (f b)) levels
  choice_lawful =
      let p = both_true (is_small n) (is_shallow is_compatible levels) e in
      let low = shallow is_compatible levels p.1 in
      contents_laws (context_tag true n) levels f (laws_of (decided_by_tag_set inside))
      (omega (arith, low)) (small n p.0)

-- a CHOICE, or an element of any tag, inside an element with a context-specific tag
abbrev pub explicit_choice : {A B : Type 0} → ℕ → AlternativeSpec A → (B → A) → ElementSpec B
explicit_choice n one f =
    record {
      tag = context_tag true n;
      takes = λ b. TakesWhole one.is_next (f b);
      valid = λ b. one.valid (f b);
      contents = λ b. one.encoding (f b);
      levels = one.levels;
      is_compatible = is_small n && is_shallow one.is_compatible one.levels;
      lawful = choice_lawful n one.levels one.laws f;
      holds = choice_holds n one.levels one.laws f;
    }

-- The laws of a CHOICE of two types.
use Rattle.std.proofs.Common.{◌≡◌, inl, inr, ℕ, ◌^◌, ◌<◌, ◌&&◌, Bool, true, List, ◌++◌, length, sym, subst}
use Rattle.der.specs.Prelude.{Tag, EncodingRules, Der}
use Rattle.der.specs.Lawful.{EncodingNext}
use Rattle.der_asn1.specs.Either.{EitherNext, IsEither, either_encoding}
use Rattle.der_asn1.specs.Follow.{TagIn, NoTagIn, StartsIn, either_tags}
use Rattle.der_asn1.specs.FollowLemmas.{starts_apart, starts_wider}
use Rattle.der_asn1.specs.Item.{IsElement}
use Rattle.der_asn1.specs.SetLaws.{DecidedByTagLaws}
use Rattle.der_asn1.specs.TagSets.{TagGroup, IsIn, are_apart}
use Rattle.der_asn1.specs.TagSetLemmas.{both_true, sets_apart, in_either}
use Rattle.der_asn1.specs.declared.fields.either.Either.{Either}
use Rattle.der_asn1.specs.declared.fields.either.Either.TheVariants.{First, Second}

module _ {A B : Type 0} {one_tags two_tags : Tag → Type 0} {first second : List TagGroup}
    {One : A → EncodingRules → List ℕ → ℕ → Type 0} {Two : B → EncodingRules → List ℕ → ℕ → Type 0}
    {is_one : A → Type 0} {is_two : B → Type 0} {one_octets : A → List ℕ} {two_octets : B → List ℕ}
    (one : DecidedByTagLaws one_tags first One is_one one_octets)
    (two : DecidedByTagLaws two_tags second Two is_two two_octets)
    (apart : are_apart first second ≡ true) where
  -- no tag belongs to both
  tags_apart : (t : Tag) → one_tags t → two_tags t → ⊥
  tags_apart t a b = sets_apart first second apart t (one.among t a) (two.among t b)

  from : (octets : List ℕ) (v : Either A B) (m : ℕ) → EitherNext one_tags One Two v Der octets m
      → EncodingNext (IsEither is_one is_two) (either_encoding one_octets two_octets) v octets m
  from octets (First v) m h =
      let e = one.reads.only octets v m h in
      record {
        is_valid = e.is_valid;
        following = e.following;
        split = e.split;
        whole = e.whole;
      }
  from octets (Second v) m h =
      let e = two.reads.only octets v m h.0 in
      record {
        is_valid = e.is_valid;
        following = e.following;
        split = e.split;
        whole = e.whole;
      }

  to : (octets : List ℕ) (v : Either A B) (m : ℕ) → length octets < 2 ^ 32
      → EncodingNext (IsEither is_one is_two) (either_encoding one_octets two_octets) v octets m
      → EitherNext one_tags One Two v Der octets m
  to octets (First v) m short e =
      one.reads.every octets v m short
      (record {
        is_valid = e.is_valid;
        following = e.following;
        split = e.split;
        whole = e.whole;
      })
  to octets (Second v) m short e = (
    two.reads.every octets v m short
        (record {
          is_valid = e.is_valid;
          following = e.following;
          split = e.split;
          whole = e.whole;
        }),
    subst (λ x. NoTagIn one_tags Der x) (sym e.split)
        (starts_apart (two_octets v) e.following tags_apart (two.starts.starts v e.is_valid)),
  )

  begin : (v : Either A B) → IsEither is_one is_two v
      → StartsIn (either_tags one_tags two_tags) (either_encoding one_octets two_octets v)
  begin (First v) is = starts_wider (λ t h. inl h) (one.starts.starts v is)
  begin (Second v) is = starts_wider (λ t h. inr h) (two.starts.starts v is)

  among_both : (t : Tag) → either_tags one_tags two_tags t → IsIn (first ++ second) t
  among_both t (inl h) = in_either first second t (inl (one.among t h))
  among_both t (inr h) = in_either first second t (inr (two.among t h))

  one_element : (v : Either A B) → IsEither is_one is_two v
      → IsElement (either_encoding one_octets two_octets v)
  one_element (First v) is = one.element v is
  one_element (Second v) is = two.element v is

  hold : (v : Either A B) (rules : EncodingRules) (octets : List ℕ) (m : ℕ)
      → EitherNext one_tags One Two v rules octets m → IsEither is_one is_two v
  hold (First v) rules octets m h = one.holds v rules octets m h
  hold (Second v) rules octets m h = two.holds v rules octets m h.0

  both_decided_by_tag : DecidedByTagLaws (either_tags one_tags two_tags) (first ++ second)
      (EitherNext one_tags One Two) (IsEither is_one is_two)
      (either_encoding one_octets two_octets)
  both_decided_by_tag =
      record {
        reads = record { only = from; every = to };
        starts = record { starts = begin };
        among = among_both;
        element = one_element;
        holds = hold;
      }

-- a CHOICE of two alternatives has the laws if both have them and no tag belongs to both
pub either_decided_by_tag : {A B : Type 0} {one_fits two_fits : Bool}
    {one_tags two_tags : Tag → Type 0} {first second : List TagGroup}
    {One : A → EncodingRules → List ℕ → ℕ → Type 0} {Two : B → EncodingRules → List ℕ → ℕ → Type 0}
    {is_one : A → Type 0} {is_two : B → Type 0} {one_octets : A → List ℕ} {two_octets : B → List ℕ}
    → (are_apart first second && (one_fits && two_fits)) ≡ true
    → (one_fits ≡ true → DecidedByTagLaws one_tags first One is_one one_octets)
    → (two_fits ≡ true → DecidedByTagLaws two_tags second Two is_two two_octets)
    → DecidedByTagLaws (either_tags one_tags two_tags) (first ++ second)
    (EitherNext one_tags One Two) (IsEither is_one is_two) (either_encoding one_octets two_octets)
either_decided_by_tag {one_fits = one_fits} {two_fits} {first = first} {second} e one two =
    let p = both_true (are_apart first second) (one_fits && two_fits) e in
    let q = both_true one_fits two_fits p.1 in
    both_decided_by_tag (one q.0) (two q.1) p.0

wider_tags : {tags more : Tag → Type 0} {rules : EncodingRules} {octets : List ℕ}
    → ((t : Tag) → tags t → more t) → TagIn tags rules octets → TagIn more rules octets
wider_tags wider b =
    record { tag = b.tag; count = b.count; next = b.next; among = wider b.tag b.among }

-- a value of a CHOICE begins with a tag of one of the types
pub either_begins : {A B : Type 0} {one_tags two_tags : Tag → Type 0}
    {One : A → EncodingRules → List ℕ → ℕ → Type 0} {Two : B → EncodingRules → List ℕ → ℕ → Type 0}
    → ((v : A) (rules : EncodingRules) (octets : List ℕ) (m : ℕ) → One v rules octets m
    → TagIn one_tags rules octets)
    → ((v : B) (rules : EncodingRules) (octets : List ℕ) (m : ℕ) → Two v rules octets m
    → TagIn two_tags rules octets)
    → (v : Either A B) (rules : EncodingRules) (octets : List ℕ) (m : ℕ)
    → EitherNext one_tags One Two v rules octets m
    → TagIn (either_tags one_tags two_tags) rules octets
either_begins one two (First v) rules octets m h =
    wider_tags (λ t h. inl h) (one v rules octets m h)
either_begins one two (Second v) rules octets m h =
    wider_tags (λ t h. inr h) (two v rules octets m h.0)

-- The laws of fields whose tags are decidable sets (`SetLaws`, `DecidedByTagLaws`): a computed
-- check decides whether fields may follow each other.
use Rattle.std.proofs.Common.{◌≡◌, ◌⊎◌, inl, inr, refl, ℕ, Bool, true, false}
use Rattle.std.proofs.Common.{if◌then◌else◌, List, [], ◌∷◌, ◌++◌, Option}
use Rattle.der.specs.Prelude.{Head, Tag, EncodingRules, ElementNext, element_octets}
use Rattle.der.specs.Prelude.{IsLawful}
use Rattle.der.specs.Element.{head_sans_eoc}
use Rattle.der.specs.Lawful.{ReadsEncodings}
use Rattle.der.specs.LawfulLemmas.{elements_are_encodings}
use Rattle.der_asn1.specs.Item.{IsElement}
use Rattle.der_asn1.specs.Default.{DefaultNext, IsDefaulted, default_encoding, DefaultPrecedes}
use Rattle.der_asn1.specs.DefaultLaws.{default_laws}
use Rattle.der_asn1.specs.Follow.{Starts, StartsIn, MayStart, PrecedesBut, ReadsFields, Anything}
use Rattle.der_asn1.specs.Follow.{no_tags, this_tag, either_tags}
use Rattle.der_asn1.specs.FollowLemmas.{lawful_starts, starts_wider, fewer_tags}
use Rattle.der_asn1.specs.FieldLaws.{encoding_laws, FieldLaws, SomeLaws, seen_laws, seen_reads}
use Rattle.der_asn1.specs.FieldLaws.{optional_laws}
use Rattle.der_asn1.specs.Optional.{OptionNext, IsOptional, option_encoding, OptionPrecedes}
use Rattle.der_asn1.specs.TagSets.{TagGroup, one_tag, IsIn}

-- a field is read as it is written, begins with a tag of the set `first`, may precede octets that
-- begin with no tag of the set `stops`, and is never empty if `always` is true
pub record SetLaws {A : Type 0} (always : Bool) (first stops : List TagGroup)
    (Precedes : A → List ℕ → Type 0) (Next : A → EncodingRules → List ℕ → ℕ → Type 0)
    (valid : A → Type 0) (encoding : A → List ℕ) : Type 0 where
  pub reads : ReadsFields Next valid encoding Precedes
  pub starts : MayStart valid encoding (IsIn first)
  pub some : always ≡ true → Starts valid encoding (IsIn first)
  pub precedes : PrecedesBut valid Precedes (IsIn stops)
  pub holds : (v : A) (rules : EncodingRules) (octets : List ℕ) (m : ℕ) → Next v rules octets m
      → valid v

-- a field that is always one element, and for which the next tag decides whether it is present
pub record DecidedByTagLaws {A : Type 0} (tags : Tag → Type 0) (first : List TagGroup)
    (Next : A → EncodingRules → List ℕ → ℕ → Type 0) (valid : A → Type 0) (encoding : A → List ℕ)
    : Type 0 where
  pub reads : ReadsEncodings Next valid encoding
  pub starts : Starts valid encoding tags
  pub among : (t : Tag) → tags t → IsIn first t
  pub element : (v : A) → valid v → IsElement (encoding v)
  pub holds : (v : A) (rules : EncodingRules) (octets : List ℕ) (m : ℕ) → Next v rules octets m
      → valid v

pub may_starts : {A : Type 0} {valid : A → Type 0} {encoding : A → List ℕ}
    {tags more : Tag → Type 0} → ((t : Tag) → tags t → more t) → MayStart valid encoding tags
    → MayStart valid encoding more
may_starts {A} {valid} {encoding} {tags} {more} wider one =
    record { starts = λ v is. go v (one.starts v is) }
  where
    go : (v : A) → (encoding v ≡ []) ⊎ StartsIn tags (encoding v) → (encoding v ≡ [])
        ⊎ StartsIn more (encoding v)
    go v (inl e) = inl e
    go v (inr s) = inr (starts_wider wider s)

starts_more : {A : Type 0} {valid : A → Type 0} {encoding : A → List ℕ} {tags more : Tag → Type 0}
    → ((t : Tag) → tags t → more t) → Starts valid encoding tags → Starts valid encoding more
starts_more wider one = record { starts = λ v is. starts_wider wider (one.starts v is) }

precedes_fewer : {A : Type 0} {valid : A → Type 0} {P : A → List ℕ → Type 0}
    {stops more : Tag → Type 0} → ((t : Tag) → stops t → more t) → PrecedesBut valid P stops
    → PrecedesBut valid P more
precedes_fewer wider one =
    record { precedes = λ v following is none. one.precedes v following is (fewer_tags wider none) }

-- laws whose tags are in these sets
module _ {A : Type 0} {Next : A → EncodingRules → List ℕ → ℕ → Type 0} {valid : A → Type 0}
    {encoding : A → List ℕ} where
  pub set_of : (always : Bool) (first stops : List TagGroup)
      (one : FieldLaws Next valid encoding)
      → ((t : Tag) → one.tags t → IsIn first t) → ((t : Tag) → one.stops t → IsIn stops t)
      → (always ≡ true → Starts valid encoding one.tags)
      → SetLaws always first stops one.Precedes Next valid encoding
  set_of always first stops one first_in stops_in some =
      record {
        reads = one.reads;
        starts = may_starts first_in one.starts;
        some = λ e. starts_more first_in (some e);
        precedes =
            precedes_fewer stops_in one.precedes;
        holds = one.holds;
      }

  abbrev pub laws_of : {always : Bool} {first stops : List TagGroup} {P : A → List ℕ → Type 0}
      → SetLaws always first stops P Next valid encoding → FieldLaws Next valid encoding
  laws_of {first = first} {stops} {P} one =
      record {
        Precedes = P;
        tags = IsIn first;
        stops = IsIn stops;
        reads = one.reads;
        starts = one.starts;
        precedes = one.precedes;
        holds = one.holds;
      }

  abbrev pub some_of : {tags : Tag → Type 0} {first : List TagGroup}
      → DecidedByTagLaws tags first Next valid encoding → SomeLaws Next valid encoding
  some_of one = encoding_laws one.reads one.starts one.holds

  pub decided_by_tag_set : {tags : Tag → Type 0} {first : List TagGroup}
      → DecidedByTagLaws tags first Next valid encoding
      → SetLaws true first [] Anything Next valid encoding
  decided_by_tag_set {first = first} one =
      set_of true first [] (some_of one).laws one.among (λ t h. h) (λ e. one.starts)

-- an element of a lawful type
pub element_decided_by_tag : {A : Type 0} {tag : Tag}
    {takes : A → EncodingRules → Head → List ℕ → Type 0}
    {valid : A → Type 0} {contents : A → List ℕ} {levels : EncodingRules → ℕ}
    → IsLawful tag takes valid contents levels
    → ((v : A) (rules : EncodingRules) (h : Head) (octets : List ℕ) → takes v rules h octets
    → valid v)
    → DecidedByTagLaws (this_tag tag) (one_tag tag ∷ []) (ElementNext tag takes) valid
    (λ v. element_octets tag (contents v))
element_decided_by_tag {tag = tag} {contents = contents} lawful takes_valid =
    record {
      reads = elements_are_encodings lawful;
      starts = lawful_starts lawful;
      among = λ t h. inl h;
      element = λ v is. record { tag = tag; contents = contents v; whole = refl };
      holds = λ v rules octets m e. takes_valid v rules (head_sans_eoc e.says) e.contents e.taken;
    }

-- the tags that must not follow a field which may be absent
absent_stops : (first : List TagGroup) (tags : Tag → Type 0)
    → ((t : Tag) → tags t → IsIn first t) → (t : Tag) → either_tags tags no_tags t → IsIn first t
absent_stops first tags among t (inl h) = among t h
absent_stops first tags among t (inr h) = absurd h

-- an OPTIONAL field and a DEFAULT field, each converted to another type
module _ {A B : Type 0} {tags : Tag → Type 0} {first : List TagGroup}
    {Next : A → EncodingRules → List ℕ → ℕ → Type 0} {valid : A → Type 0} {encoding : A → List ℕ}
    (one : DecidedByTagLaws tags first Next valid encoding) where
  pub optional_set : (f : B → Option A)
      → SetLaws false first first (λ b. OptionPrecedes tags Anything (f b))
      (λ b. OptionNext tags Next (f b)) (λ b. IsOptional valid (f b))
      (λ b. option_encoding encoding (f b))
  optional_set f =
      set_of false first first (seen_laws f (optional_laws (some_of one))) one.among
      (absent_stops first tags one.among)
      (λ e. absurd (let no : false ≡ true = e in cc))

  pub default_set : (is_default : A → Bool) (f : B → A)
      → SetLaws false first first (λ b. DefaultPrecedes tags is_default Anything (f b))
      (λ b. DefaultNext tags is_default Next (f b)) (λ b. IsDefaulted is_default valid (f b))
      (λ b. default_encoding is_default encoding (f b))
  default_set is_default f =
      set_of false first first (seen_laws f (default_laws is_default (some_of one))) one.among
      (absent_stops first tags one.among)
      (λ e. absurd (let no : false ≡ true = e in cc))

-- a field that the next tag decides, converted to another type
pub seen_decided_by_tag : {A B : Type 0} {tags : Tag → Type 0} {first : List TagGroup}
    {Next : A → EncodingRules → List ℕ → ℕ → Type 0} {valid : A → Type 0} {encoding : A → List ℕ}
    (f : B → A)
    → DecidedByTagLaws tags first Next valid encoding
    → DecidedByTagLaws tags first (λ b. Next (f b)) (λ b. valid (f b)) (λ b. encoding (f b))
seen_decided_by_tag f one =
    record {
      reads =
          record {
            only = λ octets b m h.
                (let e = one.reads.only octets (f b) m h in
                record {
                  is_valid = e.is_valid;
                  following = e.following;
                  split = e.split;
                  whole = e.whole;
                });
            every = λ octets b m short e. one.reads.every octets (f b) m short
                (record {
                  is_valid = e.is_valid;
                  following = e.following;
                  split = e.split;
                  whole = e.whole;
                });
          };
      starts = record { starts = λ b is. one.starts.starts (f b) is };
      among = one.among;
      element = λ b is. one.element (f b) is;
      holds = λ b. one.holds (f b);
    }

-- a field converted to another type
pub seen_set : {A B : Type 0} {always : Bool} {first stops : List TagGroup}
    {P : A → List ℕ → Type 0}
    {Next : A → EncodingRules → List ℕ → ℕ → Type 0} {valid : A → Type 0} {encoding : A → List ℕ}
    (f : B → A)
    → SetLaws always first stops P Next valid encoding
    → SetLaws always first stops (λ b. P (f b)) (λ b. Next (f b)) (λ b. valid (f b))
    (λ b. encoding (f b))
seen_set f one =
    record {
      reads = seen_reads f one.reads;
      starts = record { starts = λ b is. one.starts.starts (f b) is };
      some = λ e. record { starts = λ b is. (one.some e).starts (f b) is };
      precedes =
          record {
            precedes = λ b following is none. one.precedes.precedes
                (f b) following is none;
          };
      holds = λ b. one.holds (f b);
    }

-- the tags that must not follow two fields: those of the second, and those of the first if the
-- second may be absent
abbrev pub pair_stops : Bool → List TagGroup → List TagGroup → List TagGroup
pair_stops always first second = if always then second else first ++ second

-- Laws of fields and their composition: `FieldLaws` and `SomeLaws` collect the laws of a field;
-- `encoding_laws` and `optional_laws` make them, `pair_laws` composes two of them, and
-- `contents_laws` concludes that a type is lawful.
use Rattle.std.proofs.Common.{ℕ, ◌^◌, ◌<◌, ◌≤◌, List, ◌++◌, length, drop, Option, Some, None}
use Rattle.der.specs.Prelude.{Head, Tag, EncodingRules, Der}
use Rattle.der.specs.Prelude.{FieldsNext, TakesWhole, IsLawful}
use Rattle.der.specs.Tag.{label}
use Rattle.der.specs.Lawful.{ReadsEncodings}
use Rattle.der_asn1.specs.Follow.{ReadsFields, Anything, Starts, MayStart, PrecedesBut, no_tags}
use Rattle.der_asn1.specs.Follow.{either_tags, BothPrecede}
use Rattle.der_asn1.specs.Optional.{OptionNext, IsOptional, option_encoding, OptionPrecedes}
use Rattle.der_asn1.specs.FollowLemmas.{encodings_are_fields, fields_follow, fields_lawful}
use Rattle.der_asn1.specs.FollowLemmas.{anything_precedes, pair_precedes}
use Rattle.der_asn1.specs.FollowLemmas.{pair_precedes_absent, pair_may_start, starts_so_may}
use Rattle.der_asn1.specs.FollowLemmas.{last_of}
use Rattle.der_asn1.specs.OptionalLemmas.{options_are_fields, option_may_start, option_precedes}

-- the laws of a field: that it is read as it is written, which tags it may begin with, and which
-- tags must not follow it
pub record FieldLaws {A : Type 0} (Next : A → EncodingRules → List ℕ → ℕ → Type 0)
    (valid : A → Type 0) (encoding : A → List ℕ) : Type 1 where
  pub Precedes : A → List ℕ → Type 0
  pub tags : Tag → Type 0
  pub stops : Tag → Type 0
  pub reads : ReadsFields Next valid encoding Precedes
  pub starts : MayStart valid encoding tags
  pub precedes : PrecedesBut valid Precedes stops
  -- a value that can be read under any rules is valid
  pub holds : (v : A) (rules : EncodingRules) (octets : List ℕ) (m : ℕ) → Next v rules octets m
      → valid v

-- the laws of a field that is never empty
pub record SomeLaws {A : Type 0} (Next : A → EncodingRules → List ℕ → ℕ → Type 0)
    (valid : A → Type 0) (encoding : A → List ℕ) : Type 1 where
  pub laws : FieldLaws Next valid encoding
  pub some : Starts valid encoding laws.tags

-- the laws of a field after which anything may follow
abbrev pub encoding_laws : {A : Type 0} {Next : A → EncodingRules → List ℕ → ℕ → Type 0}
    {valid : A → Type 0} {encoding : A → List ℕ} {tags : Tag → Type 0}
    → ReadsEncodings Next valid encoding → Starts valid encoding tags
    → ((v : A) (rules : EncodingRules) (octets : List ℕ) (m : ℕ) → Next v rules octets m → valid v)
    → SomeLaws Next valid encoding
encoding_laws {valid = valid} {tags = tags} reads some holds =
    record {
      laws = record {
        Precedes = Anything;
        tags = tags;
        stops = no_tags;
        reads = encodings_are_fields reads;
        starts = starts_so_may some;
        precedes = anything_precedes valid no_tags;
        holds = holds;
      };
      some = some;
    }

pub option_holds : {A : Type 0} (tags : Tag → Type 0)
    {Next : A → EncodingRules → List ℕ → ℕ → Type 0}
    {valid : A → Type 0}
    → ((v : A) (rules : EncodingRules) (octets : List ℕ) (m : ℕ) → Next v rules octets m → valid v)
    → (v : Option A) (rules : EncodingRules) (octets : List ℕ) (m : ℕ)
    → OptionNext tags Next v rules octets m → IsOptional valid v
option_holds tags holds None rules octets m h = tt
option_holds tags holds (Some v) rules octets m h = holds v rules octets m h

-- the laws of an optional field
abbrev pub optional_laws : {A : Type 0} {Next : A → EncodingRules → List ℕ → ℕ → Type 0}
    {valid : A → Type 0} {encoding : A → List ℕ} (one : SomeLaws Next valid encoding)
    → FieldLaws (OptionNext one.laws.tags Next) (IsOptional valid) (option_encoding encoding)
optional_laws one =
    record {
      Precedes = OptionPrecedes one.laws.tags one.laws.Precedes;
      tags = one.laws.tags;
      stops = either_tags one.laws.tags one.laws.stops;
      reads = options_are_fields one.laws.reads;
      starts = option_may_start one.some;
      precedes = option_precedes one.laws.tags one.laws.precedes;
      holds = option_holds one.laws.tags one.laws.holds;
    }

-- a field converted to another type is read as it is written
pub seen_reads : {A B : Type 0} {Next : A → EncodingRules → List ℕ → ℕ → Type 0}
    {valid : A → Type 0}
    {encoding : A → List ℕ} {P : A → List ℕ → Type 0} (f : B → A)
    → ReadsFields Next valid encoding P
    → ReadsFields (λ b. Next (f b)) (λ b. valid (f b)) (λ b. encoding (f b)) (λ b. P (f b))
seen_reads f reads =
    record {
      only = λ octets b m h.
          (let e = reads.only octets (f b) m h in
          record {
            is_valid = e.is_valid;
            following = e.following;
            split = e.split;
            whole = e.whole;
            precedes = e.precedes;
          });
      every = λ octets b m short e. reads.every octets (f b) m short
          (record {
            is_valid = e.is_valid;
            following = e.following;
            split = e.split;
            whole = e.whole;
            precedes = e.precedes;
          });
    }

abbrev pub seen_laws : {A B : Type 0} {Next : A → EncodingRules → List ℕ → ℕ → Type 0}
    {valid : A → Type 0} {encoding : A → List ℕ} (f : B → A) → FieldLaws Next valid encoding
    → FieldLaws (λ b. Next (f b)) (λ b. valid (f b)) (λ b. encoding (f b))
seen_laws f one =
    record {
      Precedes = λ b. one.Precedes (f b);
      tags = one.tags;
      stops = one.stops;
      reads = seen_reads f one.reads;
      starts = record { starts = λ b is. one.starts.starts (f b) is };
      precedes =
          record {
            precedes = λ b following is none. one.precedes.precedes
                (f b) following is none;
          };
      holds = λ b. one.holds (f b);
    }

-- the laws of two fields, if the second is never empty and does not begin with a tag that must not
-- follow the first
abbrev pub pair_laws : {A B : Type 0} {First : A → EncodingRules → List ℕ → ℕ → Type 0}
    {Second : B → EncodingRules → List ℕ → ℕ → Type 0} {is_first : A → Type 0}
    {is_second : B → Type 0} {first : A → List ℕ} {second : B → List ℕ}
    (one : FieldLaws First is_first first) (two : SomeLaws Second is_second second)
    → ((t : Tag) → one.stops t → two.laws.tags t → ⊥)
    → FieldLaws (FieldsNext First Second) (λ v. is_first v.0 × is_second v.1)
    (λ v. first v.0 ++ second v.1)
pair_laws {second = second} one two apart =
    record {
      Precedes = BothPrecede second one.Precedes two.laws.Precedes;
      tags = either_tags one.tags two.laws.tags;
      stops = two.laws.stops;
      reads = fields_follow one.reads two.laws.reads;
      starts = pair_may_start one.starts two.laws.starts;
      precedes = pair_precedes one.precedes two.laws.precedes two.some apart;
      holds = λ v rules octets m f. (
        one.holds v.0 rules octets f.first f.next,
        two.laws.holds v.1 rules (drop f.first octets) f.second f.following,
      );
    }

-- the laws of two fields, if the second may be absent
abbrev pub pair_laws_absent : {A B : Type 0} {First : A → EncodingRules → List ℕ → ℕ → Type 0}
    {Second : B → EncodingRules → List ℕ → ℕ → Type 0} {is_first : A → Type 0}
    {is_second : B → Type 0} {first : A → List ℕ} {second : B → List ℕ}
    (one : FieldLaws First is_first first) (two : FieldLaws Second is_second second)
    → ((t : Tag) → one.stops t → two.tags t → ⊥)
    → FieldLaws (FieldsNext First Second) (λ v. is_first v.0 × is_second v.1)
    (λ v. first v.0 ++ second v.1)
pair_laws_absent {second = second} one two apart =
    record {
      Precedes = BothPrecede second one.Precedes two.Precedes;
      tags = either_tags one.tags two.tags;
      stops = either_tags one.stops two.stops;
      reads = fields_follow one.reads two.reads;
      starts = pair_may_start one.starts two.starts;
      precedes = pair_precedes_absent one.precedes two.precedes two.starts apart;
      holds = λ v rules octets m f. (
        one.holds v.0 rules octets f.first f.next,
        two.holds v.1 rules (drop f.first octets) f.second f.following,
      );
    }

-- a type whose contents are exactly one field is lawful
pub contents_laws : {A B : Type 0} {Next : A → EncodingRules → List ℕ → ℕ → Type 0}
    {valid : A → Type 0} {encoding : A → List ℕ} (tag : Tag) (levels : EncodingRules → ℕ)
    (f : B → A) → FieldLaws Next valid encoding → levels Der ≤ 63 → (label tag).number < 2 ^ 32
    → IsLawful tag (λ b. TakesWhole Next (f b)) (λ b. valid (f b)) (λ b. encoding (f b)) levels
contents_laws tag levels f one shallow numbered =
    fields_lawful tag levels f one.reads (last_of one.precedes) shallow numbered

pub contents_hold : {A : Type 0} {Next : A → EncodingRules → List ℕ → ℕ → Type 0}
    {valid : A → Type 0} {encoding : A → List ℕ} → FieldLaws Next valid encoding → (v : A)
    (rules : EncodingRules) (h : Head) (octets : List ℕ) → TakesWhole Next v rules h octets
    → valid v
contents_hold one v rules h octets taken = one.holds v rules octets (length octets) taken

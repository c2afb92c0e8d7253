-- Lemmas on fields and what may follow them.
use Rattle.std.proofs.Common.{◌≡◌, ℕ, ◌^◌, ◌<◌, ◌≤◌, ◌⊎◌, inl, inr, List, [], ◌∷◌, ◌++◌, length}
use Rattle.std.proofs.Common.{drop, refl, sym, ap, subst, ◌∙◌, append_assoc, append-nil}
use Rattle.std.proofs.Common.{length-append, length-drop, arith}
use Rattle.std.proofs.lemmas.List.{drop_at}
use Rattle.der.specs.Prelude.{Head, tag_octets, length_octets, Tag, EncodingRules, Der}
use Rattle.der.specs.Prelude.{element_octets, FieldsNext, TakesWhole, IsLawful}
use Rattle.der.specs.HeaderGrammar.{TagNext, identifier}
use Rattle.der.specs.Tag.{label, of_tag}
use Rattle.der.specs.Decode.{Whole}
use Rattle.der.specs.Lawful.{ReadsEncodings, ReadsWholeEncodings}
use Rattle.der_asn1.specs.Follow.{FieldNext, ReadsFields, Anything, NoTagIn, nothing, other}
use Rattle.der_asn1.specs.Follow.{StartsIn, Starts, MayStart, PrecedesBut, this_tag, either_tags}
use Rattle.der_asn1.specs.Follow.{BothPrecede}

-- a type whose encodings are read regardless of what follows is a field that anything may follow
pub encodings_are_fields : {A : Type 0} {Next : A → EncodingRules → List ℕ → ℕ → Type 0}
    {valid : A → Type 0} {encoding : A → List ℕ} → ReadsEncodings Next valid encoding
    → ReadsFields Next valid encoding Anything
encodings_are_fields reads =
    record {
      only = λ octets v m h.
          (let e = reads.only octets v m h in
          record {
            is_valid = e.is_valid;
            following = e.following;
            split = e.split;
            whole = e.whole;
            precedes = tt;
          });
      every = λ octets v m short f. reads.every octets v m short
          (record {
            is_valid = f.is_valid;
            following = f.following;
            split = f.split;
            whole = f.whole;
          });
    }

-- two fields in sequence, each of which may precede what follows it
pub fields_follow : {A B : Type 0} {First : A → EncodingRules → List ℕ → ℕ → Type 0}
    {Second : B → EncodingRules → List ℕ → ℕ → Type 0} {is_first : A → Type 0}
    {is_second : B → Type 0}
    {first : A → List ℕ} {second : B → List ℕ} {P : A → List ℕ → Type 0} {Q : B → List ℕ → Type 0}
    → ReadsFields First is_first first P → ReadsFields Second is_second second Q
    → ReadsFields (FieldsNext First Second) (λ v. is_first v.0 × is_second v.1)
    (λ v. first v.0 ++ second v.1) (BothPrecede second P Q)
fields_follow {A} {B} {First} {Second} {is_first} {is_second} {first} {second} {P} {Q} one two =
    record { only = from; every = to }
  where
    from : (octets : List ℕ) (v : A × B) (m : ℕ) → FieldsNext First Second v Der octets m
        → FieldNext (λ w. is_first w.0 × is_second w.1) (λ w. first w.0 ++ second w.1)
        (BothPrecede second P Q) v octets m
    from octets v m f =
        let p = one.only octets v.0 f.first f.next in
        let left : drop f.first octets ≡ p.following =
        ap (drop f.first) p.split ∙ drop_at (first v.0) p.following f.first (sym p.whole) in
        let q = two.only (drop f.first octets) v.1 f.second f.following in
        let next : p.following ≡ second v.1 ++ q.following = sym left ∙ q.split in
        record {
          is_valid = (p.is_valid, q.is_valid);
          following = q.following;
          split = p.split ∙ ap (λ x. first v.0 ++ x) next
              ∙ sym (append_assoc (first v.0) (second v.1) q.following);
          whole = omega (arith, f.whole, p.whole, q.whole, length-append (first v.0) (second v.1));
          precedes = (subst (P v.0) next p.precedes, q.precedes);
        }

    to : (octets : List ℕ) (v : A × B) (m : ℕ) → length octets < 2 ^ 32
        → FieldNext (λ w. is_first w.0 × is_second w.1) (λ w. first w.0 ++ second w.1)
        (BothPrecede second P Q) v octets m → FieldsNext First Second v Der octets m
    to octets v m short e =
        let whole : octets ≡ first v.0 ++ (second v.1 ++ e.following) =
        e.split ∙ append_assoc (first v.0) (second v.1) e.following in
        let left : drop (length (first v.0)) octets ≡ second v.1 ++ e.following =
        ap (drop (length (first v.0))) whole
        ∙ drop_at (first v.0) (second v.1 ++ e.following) (length (first v.0)) refl in
        record {
          first = length (first v.0);
          second = length (second v.1);
          next = one.every octets v.0 _ short
              (record {
                is_valid = e.is_valid.0;
                following = second v.1 ++ e.following;
                split = whole;
                whole = refl;
                precedes = e.precedes.0;
              });
          following =
              two.every (drop (length (first v.0)) octets) v.1 _
              (omega (arith, short, length-drop (length (first v.0)) octets))
              (record {
                is_valid = e.is_valid.1;
                following = e.following;
                split = left;
                whole = refl;
                precedes = e.precedes.1;
              });
          whole = e.whole ∙ length-append (first v.0) (second v.1);
        }

-- octets are exactly one field if and only if they are its encoding, provided valid values may be
-- last
pub whole_fields : {A : Type 0} {Next : A → EncodingRules → List ℕ → ℕ → Type 0}
    {valid : A → Type 0} {encoding : A → List ℕ} {P : A → List ℕ → Type 0}
    → ReadsFields Next valid encoding P → ((v : A) → valid v → P v [])
    → ReadsWholeEncodings Next valid encoding
whole_fields {A} {Next} {valid} {encoding} {P} reads last = record { only = from; every = to }
  where
    no_more : (l : List ℕ) → length l ≡ 0 → l ≡ []
    no_more [] h = refl
    no_more (x ∷ xs) h = absurd (omega arith)

    from : (octets : List ℕ) (v : A) → Whole (Next v) Der octets → valid v × (octets ≡ encoding v)
    from octets v h =
        let e = reads.only octets v (length octets) h in
        let none : e.following ≡ [] =
        no_more e.following
        (omega (arith, e.whole, ap length e.split, length-append (encoding v) e.following)) in
        (e.is_valid, e.split ∙ ap (λ x. encoding v ++ x) none ∙ append-nil (encoding v))

    to : (octets : List ℕ) (v : A) → length octets < 2 ^ 32 → valid v → octets ≡ encoding v
        → Whole (Next v) Der octets
    to octets v short is e =
        reads.every octets v (length octets) short
        (record {
          is_valid = is;
          following = [];
          split = e ∙ sym (append-nil (encoding v));
          whole = ap length e;
          precedes = last v is;
        })

-- a type whose contents are exactly one field, converted from another type, is lawful
pub fields_lawful : {A B : Type 0} {Next : A → EncodingRules → List ℕ → ℕ → Type 0}
    {valid : A → Type 0} {encoding : A → List ℕ} {P : A → List ℕ → Type 0} (tag : Tag)
    (levels : EncodingRules → ℕ) (f : B → A) → ReadsFields Next valid encoding P
    → ((v : A) → valid v → P v []) → levels Der ≤ 63 → (label tag).number < 2 ^ 32
    → IsLawful tag (λ b. TakesWhole Next (f b)) (λ b. valid (f b)) (λ b. encoding (f b)) levels
fields_lawful {A} {B} {Next} {valid} {encoding} tag levels f reads last shallow numbered =
    record {
      exact = λ octets b short.
          (let whole = whole_fields reads last in (
            λ h. (let e = whole.only octets (f b) h in (e.0, sym e.1)),
            λ h. whole.every octets (f b) short h.0 (sym h.1),
          ));
      shallow = shallow;
      numbered = numbered;
    }

-- if none of the tags is next, none of a subset is
pub fewer_tags : {tags stops : Tag → Type 0} {rules : EncodingRules} {octets : List ℕ}
    → ((t : Tag) → stops t → tags t) → NoTagIn tags rules octets → NoTagIn stops rules octets
fewer_tags among (nothing e) = nothing e
fewer_tags among (other t n h not) = other t n h (λ s. not (among t s))

-- the octets of a tag begin with that tag
pub tag_octets_begin_with_tag : (t : Tag) (more : List ℕ) → (label t).number < 2 ^ 32
    → TagNext t Der (tag_octets t ++ more) (length (tag_octets t))
tag_octets_begin_with_tag t more numbered =
    ((label t).constructed, identifier more (of_tag numbered))

-- octets that begin with a tag of one set begin with no tag of a disjoint set
pub starts_apart : {tags stops : Tag → Type 0} (octets following : List ℕ)
    → ((t : Tag) → stops t → tags t → ⊥) → StartsIn tags octets
    → NoTagIn stops Der (octets ++ following)
starts_apart {tags} {stops} octets following apart s =
    let whole : octets ++ following ≡ tag_octets s.tag ++ (s.more ++ following) =
    ap (λ x. x ++ following) s.split ∙ append_assoc (tag_octets s.tag) s.more following in
    other s.tag (length (tag_octets s.tag))
    (subst (λ x. TagNext s.tag Der x (length (tag_octets s.tag))) (sym whole)
    (tag_octets_begin_with_tag s.tag (s.more ++ following) s.numbered)) (λ h. apart s.tag h s.among)

-- octets that begin with a tag still do if more octets are appended
pub starts_append : {tags : Tag → Type 0} (octets following : List ℕ) → StartsIn tags octets
    → StartsIn tags (octets ++ following)
starts_append octets following s =
    record {
      tag = s.tag;
      more = s.more ++ following;
      split = ap (λ x. x ++ following) s.split ∙ append_assoc (tag_octets s.tag) s.more following;
      numbered = s.numbered;
      among = s.among;
    }

pub starts_wider : {tags more : Tag → Type 0} {octets : List ℕ} → ((t : Tag) → tags t → more t)
    → StartsIn tags octets → StartsIn more octets
starts_wider wider s =
    record {
      tag = s.tag;
      more = s.more;
      split = s.split;
      numbered = s.numbered;
      among = wider s.tag s.among;
    }

-- an element begins with its tag
pub element_starts : (t : Tag) (contents : List ℕ) → (label t).number < 2 ^ 32
    → StartsIn (this_tag t) (element_octets t contents)
element_starts t contents numbered =
    record {
      tag = t;
      more = length_octets (length contents) ++ contents;
      split = append_assoc (tag_octets t) (length_octets (length contents)) contents;
      numbered =
          numbered;
      among = refl;
    }

pub lawful_starts : {A : Type 0} {tag : Tag} {takes : A → EncodingRules → Head → List ℕ → Type 0}
    {valid : A → Type 0} {contents : A → List ℕ} {levels : EncodingRules → ℕ}
    → IsLawful tag takes valid contents levels
    → Starts valid (λ v. element_octets tag (contents v)) (this_tag tag)
lawful_starts {tag = tag} {contents = contents} laws =
    record { starts = λ v is. element_starts tag (contents v) laws.numbered }

-- encodings that begin with one of the tags begin with one or are empty
pub starts_so_may : {A : Type 0} {valid : A → Type 0} {encoding : A → List ℕ} {tags : Tag → Type 0}
    → Starts valid encoding tags → MayStart valid encoding tags
starts_so_may one = record { starts = λ v is. inr (one.starts v is) }

-- a field that anything may follow has no tags that must not follow it
pub anything_precedes : {A : Type 0} (valid : A → Type 0) (stops : Tag → Type 0)
    → PrecedesBut valid Anything stops
anything_precedes valid stops = record { precedes = λ v following is none. tt }

pub pair_may_start : {A B : Type 0} {is_first : A → Type 0} {is_second : B → Type 0}
    {first : A → List ℕ} {second : B → List ℕ} {tags more : Tag → Type 0}
    → MayStart is_first first tags → MayStart is_second second more
    → MayStart (λ (v : A × B). is_first v.0 × is_second v.1) (λ v. first v.0 ++ second v.1)
    (either_tags tags more)
pair_may_start {A} {B} {first = first} {second} {tags} {more} one two =
    record { starts = λ v is. go v (one.starts v.0 is.0) (two.starts v.1 is.1) }
  where
    go : (v : A × B) → (first v.0 ≡ []) ⊎ StartsIn tags (first v.0) → (second v.1 ≡ [])
        ⊎ StartsIn more (second v.1) → (first v.0 ++ second v.1 ≡ [])
        ⊎ StartsIn (either_tags tags more) (first v.0 ++ second v.1)
    go v (inr s) _ = inr (starts_append (first v.0) (second v.1) (starts_wider (λ t h. inl h) s))
    go v (inl e) (inl f) = inl (ap (λ x. x ++ second v.1) e ∙ f)
    go v (inl e) (inr s) =
        inr (subst (λ x. StartsIn (either_tags tags more) (x ++ second v.1)) (sym e)
        (starts_wider (λ t h. inr h) s))

module _ {A B : Type 0} {is_first : A → Type 0} {is_second : B → Type 0} {second : B → List ℕ}
    {P : A → List ℕ → Type 0} {Q : B → List ℕ → Type 0}
    {tags first_stops second_stops : Tag → Type 0} where
  -- a field before one that is never empty: only the tags that must not follow the second count
  pub pair_precedes : PrecedesBut is_first P first_stops → PrecedesBut is_second Q second_stops
      → Starts is_second second tags → ((t : Tag) → first_stops t → tags t → ⊥)
      → PrecedesBut (λ (v : A × B). is_first v.0 × is_second v.1)
      (BothPrecede second P Q) second_stops
  pair_precedes one two follow apart =
      record {
        precedes = λ v following is none. (
          one.precedes v.0 (second v.1 ++ following) is.0
              (starts_apart (second v.1) following apart (follow.starts v.1 is.1)),
          two.precedes v.1 following is.1 none,
        );
      }

  -- a field before one that may be absent: the tags that must not follow either field count
  pub pair_precedes_absent : PrecedesBut is_first P first_stops
      → PrecedesBut is_second Q second_stops → MayStart is_second second tags
      → ((t : Tag) → first_stops t → tags t → ⊥)
      → PrecedesBut (λ (v : A × B). is_first v.0 × is_second v.1) (BothPrecede second P Q)
      (either_tags first_stops second_stops)
  pair_precedes_absent one two follow apart =
      record {
        precedes = λ v following is none. (
          one.precedes v.0 (second v.1 ++ following) is.0
              (go v following none (follow.starts v.1 is.1)),
          two.precedes v.1 following is.1 (fewer_tags (λ t h. inr h) none),
        );
      }
    where
      go : (v : A × B) (following : List ℕ)
          → NoTagIn (either_tags first_stops second_stops) Der following
          → (second v.1 ≡ []) ⊎ StartsIn tags (second v.1)
          → NoTagIn first_stops Der (second v.1 ++ following)
      go v following none (inl e) =
          subst (λ x. NoTagIn first_stops Der (x ++ following)) (sym e)
          (fewer_tags (λ t h. inl h) none)
      go v following none (inr s) = starts_apart (second v.1) following apart s

-- valid values may be the last in a SEQUENCE
pub last_of : {A : Type 0} {valid : A → Type 0} {P : A → List ℕ → Type 0} {stops : Tag → Type 0}
    → PrecedesBut valid P stops → (v : A) → valid v → P v []
last_of one v is = one.precedes v [] is (nothing refl)

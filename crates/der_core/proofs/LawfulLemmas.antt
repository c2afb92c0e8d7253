-- Elements of types for which reading is the inverse of writing.
use Rattle.std.proofs.Common.{◌≡◌, ℕ, ◌^◌, ◌<◌, ◌≤◌, Bool, true, false, List, [], ◌∷◌, ◌++◌, length, drop, refl, sym, ap, subst, ◌∙◌, append_assoc, append-nil, length-append, length-drop, arith}
use Rattle.std.proofs.lemmas.List.{drop_at}
use Rattle.der_base.specs.Length.{number, is_indefinite}
use Rattle.der_base.specs.Tag.{label}
use Rattle.der_base.specs.HeaderGrammar.{Head, HeadNext, header_octets}
use Rattle.der_base.specs.declared.tag.Tag.{Tag}
use Rattle.der_base.specs.declared.encoding_rules.EncodingRules.{EncodingRules}
use Rattle.der_base.specs.declared.encoding_rules.EncodingRules.TheVariants.{Der}
use Rattle.der_base.proofs.DigitLemmas.{same_length_front}
use Rattle.der_base.proofs.HeaderLemmas.{header_front}
use Rattle.der_core.specs.Decode.{Whole}
use Rattle.der_core.specs.Element.{IsEndOfContents, head_sans_eoc, ElementNext}
use Rattle.der_core.specs.Encode.{element_octets}
use Rattle.der_core.specs.Fields.{FieldsNext, TakesWhole}
use Rattle.der_core.specs.Lawful.{definite_head, IsLawful, EncodingNext, ReadsEncodings, ReadsWholeEncodings, PassesEncodings, ReadsWritten}
use Rattle.der_core.specs.ReaderState.{rest_of, advanced_state}
use Rattle.der_core.proofs.FieldLemmas.{rest_passed}
use Rattle.der_core.proofs.DerLemmas.{header_read, header_written}

no_eoc : (b : Bool) (eoc : List ℕ) → IsEndOfContents b eoc → b ≡ false → eoc ≡ []
no_eoc false eoc is f = is
no_eoc true eoc is f = absurd (cc)

-- under DER an element is the header of its tag and its contents
pub record DerElement {A : Type 0} (tag : Tag) (takes : A → EncodingRules → Head → List ℕ → Type 0) (v : A) (octets : List ℕ) (m : ℕ) : Type 0 where
  pub contents : List ℕ
  pub following : List ℕ
  pub small : length contents < 2 ^ 32
  pub taken : takes v Der (definite_head tag (length contents)) contents
  pub split : octets ≡ element_octets tag contents ++ following
  pub whole : m ≡ length (element_octets tag contents)

pub der_element : {A : Type 0} {tag : Tag} {takes : A → EncodingRules → Head → List ℕ → Type 0} {octets : List ℕ} {v : A} {m : ℕ} → ElementNext tag takes v Der octets m → DerElement tag takes v octets m
der_element {A} {tag} {takes} {octets} {v} {m} e =
    let h = header_read e.next in
    let definite_form : is_indefinite e.says.length ≡ false = ap (λ (x : Head). is_indefinite x.length) h.says in
    let eoc : e.eoc ≡ [] = no_eoc (is_indefinite e.says.length) e.eoc e.has_eoc definite_form in
    let following : h.following ≡ e.contents ++ e.following = sym (drop_at (header_octets e.says.tag h.count) h.following e.header (sym h.octets)) ∙ ap (drop e.header) (sym h.split) ∙ e.split ∙ ap (λ x. e.contents ++ (x ++ e.following)) eoc in
    let counted : head_sans_eoc e.says ≡ definite_head e.says.tag h.count = ap head_sans_eoc h.says in
    let count : h.count ≡ length e.contents = sym (e.sized ∙ ap (λ (x : Head). number x.length) counted) in
    let says : head_sans_eoc e.says ≡ definite_head tag (length e.contents) = counted ∙ ap (λ x. definite_head x h.count) e.tagged ∙ ap (definite_head tag) count in
    let same_header : header_octets e.says.tag h.count ≡ header_octets tag (length e.contents) = ap (λ x. header_octets x h.count) e.tagged ∙ ap (header_octets tag) count in
    record {
      contents = e.contents;
      following = e.following;
      small = subst (λ x. x < 2 ^ 32) count h.small;
      taken = subst (λ x. takes v Der x e.contents) says e.taken;
      split = h.split ∙ ap (λ x. x ++ h.following) same_header ∙ ap (λ x. header_octets tag (length e.contents) ++ x) following ∙ sym (append_assoc (header_octets tag (length e.contents)) e.contents e.following);
      whole = e.whole ∙ omega (arith, h.octets, ap length same_header, ap length eoc, length-append (header_octets tag (length e.contents)) e.contents);
    }

-- the header of a tag, followed by contents that are accepted, is an element under DER
pub element_der : {A : Type 0} (tag : Tag) (takes : A → EncodingRules → Head → List ℕ → Type 0) (contents following : List ℕ) (v : A) → (label tag).number < 2 ^ 32 → length contents < 2 ^ 32
    → takes v Der (definite_head tag (length contents)) contents → ElementNext tag takes v Der (element_octets tag contents ++ following) (length (element_octets tag contents))
element_der tag takes contents following v numbered small taken =
    let n = length contents in
    record {
      says = definite_head tag n;
      header = length (header_octets tag n);
      contents = contents;
      eoc = [];
      following = following;
      next = subst (λ x. HeadNext (definite_head tag n) Der x (length (header_octets tag n))) (sym (append_assoc (header_octets tag n) contents following)) (header_written tag n (contents ++ following) numbered small);
      tagged = refl;
      split = ap (drop (length (header_octets tag n))) (append_assoc (header_octets tag n) contents following) ∙ drop_at (header_octets tag n) (contents ++ following) (length (header_octets tag n)) refl;
      sized = refl;
      has_eoc = refl;
      whole = omega (arith, length-append (header_octets tag n) contents);
      taken = taken;
    }

-- an encoding that is next is within the octets
encoding_within : {A : Type 0} {valid : A → Type 0} {encoding : A → List ℕ} {v : A} {octets : List ℕ} {m : ℕ} → EncodingNext valid encoding v octets m → length (encoding v) ≤ length octets
encoding_within {encoding = encoding} {v = v} e = omega (arith, ap length e.split, length-append (encoding v) e.following)

-- octets begin with an element of a lawful type exactly if they begin with its encoding
module _ {A : Type 0} {tag : Tag} {takes : A → EncodingRules → Head → List ℕ → Type 0} {valid : A → Type 0} {contents : A → List ℕ} {levels : EncodingRules → ℕ} (laws : IsLawful tag takes valid contents levels) where
  pub elements_are_encodings : ReadsEncodings (ElementNext tag takes) valid (λ v. element_octets tag (contents v))
  elements_are_encodings = record { only = from; every = to }
    where
      from : (octets : List ℕ) (v : A) (m : ℕ) → ElementNext tag takes v Der octets m → EncodingNext valid (λ x. element_octets tag (contents x)) v octets m
      from octets v m e =
          let d = der_element e in
          let lawful = (laws.exact d.contents v d.small).0 d.taken in
          record {
            is_valid = lawful.0;
            following = d.following;
            split = d.split ∙ ap (λ x. element_octets tag x ++ d.following) (sym lawful.1);
            whole = d.whole ∙ ap (λ x. length (element_octets tag x)) (sym lawful.1);
          }

      to : (octets : List ℕ) (v : A) (m : ℕ) → length octets < 2 ^ 32 → EncodingNext valid (λ x. element_octets tag (contents x)) v octets m → ElementNext tag takes v Der octets m
      to octets v m short e =
          let few : length (contents v) < 2 ^ 32 = omega (arith, encoding_within e, short, length-append (header_octets tag (length (contents v))) (contents v)) in
          let front = element_der tag takes (contents v) e.following v laws.numbered few ((laws.exact (contents v) v few).1 (e.is_valid, refl)) in
          subst (λ x. ElementNext tag takes v Der octets x) (sym e.whole) (subst (λ x. ElementNext tag takes v Der x (length (element_octets tag (contents v)))) (sym e.split) front)

  -- what was written is read, and as no other value
  pub written_is_read : ReadsWritten tag takes valid contents
  written_is_read =
      record {
        next = λ v more is short. elements_are_encodings.every _ v _ short (record { is_valid = is; following = more; split = refl; whole = refl });
        alone = λ v w more m e. let there = elements_are_encodings.only _ w m e in one v w more there.following m there.split there.whole;
      }
    where
      one : (v w : A) (more following : List ℕ) (m : ℕ) → element_octets tag (contents v) ++ more ≡ element_octets tag (contents w) ++ following → m ≡ length (element_octets tag (contents w))
          → (contents w ≡ contents v) × (m ≡ length (element_octets tag (contents v)))
      one v w more following m e whole =
          let r = header_front tag tag (length (contents v)) (length (contents w)) (contents v ++ more) (contents w ++ following)
          (sym (append_assoc (header_octets tag (length (contents v))) (contents v) more) ∙ e ∙ append_assoc (header_octets tag (length (contents w))) (contents w) following) in
          let same : contents w ≡ contents v = sym (same_length_front (contents v) (contents w) more following r.1 r.2).0 in
          (same, whole ∙ ap (λ x. length (element_octets tag x)) same)

-- octets are entirely a value exactly if they are its encoding
pub whole_encodings : {A : Type 0} {Next : A → EncodingRules → List ℕ → ℕ → Type 0} {valid : A → Type 0} {encoding : A → List ℕ} → ReadsEncodings Next valid encoding → ReadsWholeEncodings Next valid encoding
whole_encodings {A} {Next} {valid} {encoding} reads = record { only = from; every = to }
  where
    no_more : (l : List ℕ) → length l ≡ 0 → l ≡ []
    no_more [] h = refl
    no_more (x ∷ xs) h = absurd (omega arith)

    from : (octets : List ℕ) (v : A) → Whole (Next v) Der octets → valid v × (octets ≡ encoding v)
    from octets v h =
        let e = reads.only octets v (length octets) h in
        let none : e.following ≡ [] = no_more e.following (omega (arith, e.whole, ap length e.split, length-append (encoding v) e.following)) in
        (e.is_valid, e.split ∙ ap (λ x. encoding v ++ x) none ∙ append-nil (encoding v))

    to : (octets : List ℕ) (v : A) → length octets < 2 ^ 32 → valid v → octets ≡ encoding v → Whole (Next v) Der octets
    to octets v short is e = reads.every octets v (length octets) short (record { is_valid = is; following = []; split = e ∙ sym (append-nil (encoding v)); whole = ap length e })

-- a reader that has consumed a value has consumed its encoding
pub passed_encodings : {A : Type 0} {Next : A → EncodingRules → List ℕ → ℕ → Type 0} {valid : A → Type 0} {encoding : A → List ℕ} → ReadsEncodings Next valid encoding → PassesEncodings Next valid encoding
passed_encodings {Next = Next} {encoding = encoding} reads s t v der passed =
    let e = reads.only (rest_of s) v passed.octets (subst (λ r. Next v r (rest_of s) passed.octets) der passed.next) in
    let left : rest_of t ≡ e.following = rest_passed passed ∙ ap (drop passed.octets) e.split ∙ drop_at (encoding v) e.following passed.octets (sym e.whole) in
    (e.is_valid, record { split = e.split ∙ ap (λ x. encoding v ++ x) (sym left); state = passed.leaves ∙ ap (advanced_state s) e.whole })

-- fields whose values are encodings are the encodings in sequence
pub fields_are_encodings : {A B : Type 0} {First : A → EncodingRules → List ℕ → ℕ → Type 0} {Second : B → EncodingRules → List ℕ → ℕ → Type 0} {is_first : A → Type 0} {is_second : B → Type 0}
    {first : A → List ℕ} {second : B → List ℕ} → ReadsEncodings First is_first first → ReadsEncodings Second is_second second
    → ReadsEncodings (FieldsNext First Second) (λ v. is_first v.0 × is_second v.1) (λ v. first v.0 ++ second v.1)
fields_are_encodings {A} {B} {First} {Second} {is_first} {is_second} {first} {second} one two = record { only = from; every = to }
  where
    from : (octets : List ℕ) (v : A × B) (m : ℕ) → FieldsNext First Second v Der octets m → EncodingNext (λ w. is_first w.0 × is_second w.1) (λ w. first w.0 ++ second w.1) v octets m
    from octets v m f =
        let p = one.only octets v.0 f.first f.next in
        let left : drop f.first octets ≡ p.following = ap (drop f.first) p.split ∙ drop_at (first v.0) p.following f.first (sym p.whole) in
        let q = two.only (drop f.first octets) v.1 f.second f.following in
        record {
          is_valid = (p.is_valid, q.is_valid);
          following = q.following;
          split = p.split ∙ ap (λ x. first v.0 ++ x) (sym left ∙ q.split) ∙ sym (append_assoc (first v.0) (second v.1) q.following);
          whole = omega (arith, f.whole, p.whole, q.whole, length-append (first v.0) (second v.1));
        }

    to : (octets : List ℕ) (v : A × B) (m : ℕ) → length octets < 2 ^ 32 → EncodingNext (λ w. is_first w.0 × is_second w.1) (λ w. first w.0 ++ second w.1) v octets m → FieldsNext First Second v Der octets m
    to octets v m short e =
        let whole : octets ≡ first v.0 ++ (second v.1 ++ e.following) = e.split ∙ append_assoc (first v.0) (second v.1) e.following in
        let left : drop (length (first v.0)) octets ≡ second v.1 ++ e.following = ap (drop (length (first v.0))) whole ∙ drop_at (first v.0) (second v.1 ++ e.following) (length (first v.0)) refl in
        record {
          first = length (first v.0);
          second = length (second v.1);
          next = one.every octets v.0 _ short (record { is_valid = e.is_valid.0; following = second v.1 ++ e.following; split = whole; whole = refl });
          following = two.every (drop (length (first v.0)) octets) v.1 _ (omega (arith, short, length-drop (length (first v.0)) octets)) (record { is_valid = e.is_valid.1; following = e.following; split = left; whole = refl });
          whole = e.whole ∙ length-append (first v.0) (second v.1);
        }

-- a type whose contents are entirely encodings, seen as values of another type, is lawful
pub contents_lawful : {A B : Type 0} {Next : A → EncodingRules → List ℕ → ℕ → Type 0} {valid : A → Type 0} {encoding : A → List ℕ} (tag : Tag) (levels : EncodingRules → ℕ) (f : B → A) → ReadsEncodings Next valid encoding
    → levels Der ≤ 63 → (label tag).number < 2 ^ 32 → IsLawful tag (λ b. TakesWhole Next (f b)) (λ b. valid (f b)) (λ b. encoding (f b)) levels
contents_lawful {A} {B} {Next} {valid} {encoding} tag levels f reads shallow numbered =
    record {
      exact = λ octets b short. (let whole = whole_encodings reads in (λ h. (let e = whole.only octets (f b) h in (e.0, sym e.1)), λ h. whole.every octets (f b) short h.0 (sym h.1)));
      shallow = shallow;
      numbered = numbered;
    }

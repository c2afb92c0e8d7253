-- Under DER the values that are next are those whose encoding is next.
use Rattle.std.proofs.Common.{◌≡◌, ℕ, ◌+◌, ◌^◌, ◌<◌, Bool, List, [], ◌++◌, length, refl, sym, ap, subst, ◌∙◌, append_assoc, length-append}
use Rattle.der_base.specs.Length.{number, definite_length, length_octets}
use Rattle.der_base.specs.Tag.{label, tag_octets, IsIdentifier, of_tag, of_segments}
use Rattle.der_base.specs.HeaderGrammar.{Head, head, header_octets, IdentifierNext, identifier, TagNext, LengthNext, definite, HeadNext, header}
use Rattle.der_base.specs.declared.length.Length.{Length}
use Rattle.der_base.specs.declared.tag.Tag.{Tag}
use Rattle.der_base.specs.declared.encoding_rules.EncodingRules.{EncodingRules}
use Rattle.der_base.specs.declared.encoding_rules.EncodingRules.TheVariants.{Der}
use Rattle.der_base.proofs.HeaderLemmas.{IdentifierView, identifier_view_of, identifier_view, LengthView, view_definite, view_indefinite, length_view, HeaderView, header_view_of, header_view}
use Rattle.der_core.specs.Header.{head_of, HeaderNext}
use Rattle.der_core.specs.Lawful.{definite_head, EncodingNext, ReadsEncodings, IsDefinite, IsDefiniteHeader}
use Rattle.der_core.specs.declared.header.Header.{Header}

-- an identifier is that of its tag
record TagRead (id : List ℕ) (t : Tag) (b : Bool) : Type 0 where
  pub octets : id ≡ tag_octets t
  pub bit : b ≡ (label t).constructed
  pub numbered : (label t).number < 2 ^ 32

tag_read : {rules : EncodingRules} {id : List ℕ} {t : Tag} {b : Bool} → rules ≡ Der → IsIdentifier rules id t b → TagRead id t b
tag_read der (of_tag h) = record { octets = refl; bit = refl; numbered = h }
tag_read der of_segments = absurd (cc)

-- a length is definite
record LengthRead (s : List ℕ) (l : Length) (m : ℕ) : Type 0 where
  pub count : ℕ
  pub following : List ℕ
  pub small : count < 2 ^ 32
  pub says : l ≡ definite_length count
  pub split : s ≡ length_octets count ++ following
  pub octets : m ≡ length (length_octets count)

length_read : {s : List ℕ} {l : Length} {m : ℕ} → LengthNext l Der s m → LengthRead s l m
length_read {s} {l} {m} next = go (length_view next)
  where
    go : LengthView l Der s m → LengthRead s l m
    go (view_definite n rest small q says z) = record { count = n; following = rest; small = small; says = says; split = q; octets = z }
    go (view_indefinite body rest ber d q says z) = absurd (cc)

-- a header: a tag and a number of octets
pub record HeaderRead (s : List ℕ) (h : Head) (m : ℕ) : Type 0 where
  pub count : ℕ
  pub following : List ℕ
  pub small : count < 2 ^ 32
  pub numbered : (label h.tag).number < 2 ^ 32
  pub says : h ≡ definite_head h.tag count
  pub split : s ≡ header_octets h.tag count ++ following
  pub octets : m ≡ length (header_octets h.tag count)

pub header_read : {s : List ℕ} {h : Head} {m : ℕ} → HeadNext h Der s m → HeaderRead s h m
header_read {s} {h} {m} next = go (header_view next)
  where
    go : HeaderView h Der s m → HeaderRead s h m
    go (header_view_of {k = k} id more d la ok e c) =
        let r : TagRead id h.tag h.constructed = tag_read refl d in
        let l = length_read la in
        record {
          count = l.count;
          following = l.following;
          small = l.small;
          numbered = r.numbered;
          says = ap (λ x. head h.tag x h.constructed) l.says ∙ ap (head h.tag (definite_length l.count)) r.bit;
          split = e ∙ ap (λ x. x ++ more) r.octets ∙ ap (λ x. tag_octets h.tag ++ x) l.split ∙ sym (append_assoc (tag_octets h.tag) (length_octets l.count) l.following);
          octets = c ∙ ap (λ x. length x + k) r.octets ∙ ap (λ x. length (tag_octets h.tag) + x) l.octets ∙ sym (length-append (tag_octets h.tag) (length_octets l.count));
        }

-- the octets of a tag and of a number of octets are a header
pub header_written : (t : Tag) (n : ℕ) (following : List ℕ) → (label t).number < 2 ^ 32 → n < 2 ^ 32 → HeadNext (definite_head t n) Der (header_octets t n ++ following) (length (header_octets t n))
header_written t n following numbered small =
    let next : HeadNext (definite_head t n) Der (tag_octets t ++ (length_octets n ++ following)) (length (tag_octets t) + length (length_octets n)) =
    header (of_tag numbered) (definite n following small) (λ f. absurd (cc)) in
    subst (λ m. HeadNext (definite_head t n) Der (header_octets t n ++ following) m) (sym (length-append (tag_octets t) (length_octets n)))
    (subst (λ x. HeadNext (definite_head t n) Der x (length (tag_octets t) + length (length_octets n))) (sym (append_assoc (tag_octets t) (length_octets n) following)) next)

-- transport along equal octets and an equal number
at_octets : {A : Type 0} (Next : A → EncodingRules → List ℕ → ℕ → Type 0) {v : A} {x y : List ℕ} {m n : ℕ} → x ≡ y → m ≡ n → Next v Der x m → Next v Der y n
at_octets Next {v} {y = y} {m = m} e f h = subst (Next v Der y) f (subst (λ s. Next v Der s m) e h)

-- tags, lengths and headers that are next are the encodings of those with 32 bits
pub tags_are_encodings : ReadsEncodings TagNext (λ t. (label t).number < 2 ^ 32) tag_octets
tags_are_encodings = record { only = λ octets t m h. from octets t m (identifier_view h.1); every = λ octets t m short e. (_, at_octets (λ x. IdentifierNext (x, (label x).constructed)) (sym e.split) (sym e.whole) (identifier e.following (of_tag e.is_valid))) }
  where
    from : (octets : List ℕ) (t : Tag) (m : ℕ) {b : Bool} → IdentifierView (t, b) Der octets m → EncodingNext (λ x. (label x).number < 2 ^ 32) tag_octets t octets m
    from octets t m (identifier_view_of id rest d e c) =
        let r = tag_read refl d in
        record { is_valid = r.numbered; following = rest; split = e ∙ ap (λ x. x ++ rest) r.octets; whole = c ∙ ap length r.octets }

pub lengths_are_encodings : ReadsEncodings LengthNext IsDefinite (λ l. length_octets (number l))
lengths_are_encodings = record { only = from; every = λ octets l m short e. at_octets LengthNext (sym e.split) (sym e.whole) (to octets l m e) }
  where
    from : (octets : List ℕ) (l : Length) (m : ℕ) → LengthNext l Der octets m → EncodingNext IsDefinite (λ x. length_octets (number x)) l octets m
    from octets l m h =
        let r = length_read h in
        let count : r.count ≡ number l = sym (ap number r.says) in
        record {
          is_valid = (r.says ∙ ap definite_length count, subst (λ n. n < 2 ^ 32) count r.small);
          following = r.following;
          split = r.split ∙ ap (λ n. length_octets n ++ r.following) count;
          whole = r.octets ∙ ap (λ n. length (length_octets n)) count;
        }

    to : (octets : List ℕ) (l : Length) (m : ℕ) (e : EncodingNext IsDefinite (λ x. length_octets (number x)) l octets m) → LengthNext l Der (length_octets (number l) ++ e.following) (length (length_octets (number l)))
    to octets l m e = subst (λ x. LengthNext x Der (length_octets (number l) ++ e.following) (length (length_octets (number l)))) (sym e.is_valid.0) (definite (number l) e.following e.is_valid.1)

pub headers_are_encodings : ReadsEncodings HeaderNext IsDefiniteHeader (λ h. header_octets (head_of h).tag (number (head_of h).length))
headers_are_encodings = record { only = from; every = λ octets h m short e. at_octets HeaderNext (sym e.split) (sym e.whole) (to octets h m e) }
  where
    from : (octets : List ℕ) (h : Header) (m : ℕ) → HeaderNext h Der octets m → EncodingNext IsDefiniteHeader (λ x. header_octets (head_of x).tag (number (head_of x).length)) h octets m
    from octets h m next =
        let r = header_read next in
        let count : r.count ≡ number (head_of h).length = sym (ap (λ (x : Head). number x.length) r.says) in
        record {
          is_valid = record { says = r.says ∙ ap (definite_head (head_of h).tag) count; numbered = r.numbered; small = subst (λ n. n < 2 ^ 32) count r.small };
          following = r.following;
          split = r.split ∙ ap (λ n. header_octets (head_of h).tag n ++ r.following) count;
          whole = r.octets ∙ ap (λ n. length (header_octets (head_of h).tag n)) count;
        }

    to : (octets : List ℕ) (h : Header) (m : ℕ) (e : EncodingNext IsDefiniteHeader (λ x. header_octets (head_of x).tag (number (head_of x).length)) h octets m)
        → HeaderNext h Der (header_octets (head_of h).tag (number (head_of h).length) ++ e.following) (length (header_octets (head_of h).tag (number (head_of h).length)))
    to octets h m e =
        subst (λ x. HeadNext x Der (header_octets (head_of h).tag (number (head_of h).length) ++ e.following) (length (header_octets (head_of h).tag (number (head_of h).length)))) (sym e.is_valid.says)
        (header_written (head_of h).tag (number (head_of h).length) e.following e.is_valid.numbered e.is_valid.small)

-- the empty list is the encoding of `PhantomData`
pub nothing_is_encoding : {A : Type 0} → ReadsEncodings (λ (_ : A) _ _ m. m ≡ 0) (λ _. Unit {0}) (λ _. [])
nothing_is_encoding = record { only = λ octets v m e. record { is_valid = tt; following = octets; split = refl; whole = e }; every = λ octets v m short e. e.whole }

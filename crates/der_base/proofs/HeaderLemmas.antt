-- Tags, lengths and headers at the start of octets: there is at most one, none if there is a fault,
-- and at most one fault.
use Rattle.std.proofs.Common.{◌≡◌, ℕ, ◌+◌, ◌^◌, ◌<◌, Bool, true, false, List, ◌∷◌, ◌++◌, length, refl, sym, ap, ◌∙◌, subst, append_assoc}
use Rattle.der_base.specs.Length.{is_indefinite, definite_length, indefinite_length, length_octets}
use Rattle.der_base.specs.Tag.{IsIdentifier, IdentifierFault}
use Rattle.der_base.specs.Body.{Body}
use Rattle.der_base.specs.Error.{Refusal, refusal}
use Rattle.der_base.specs.HeaderGrammar.{header_octets, IdentifierNext, identifier, TagNext, LengthNext, definite, indefinite, Head, head, HeadNext, header, LengthFault, HeaderFault, no_identifier, no_length, primitive}
use Rattle.der_base.specs.Laws.{IsGrammar, IsBodyFault}
use Rattle.der_base.specs.declared.length.Length.{Length}
use Rattle.der_base.specs.declared.tag.Tag.{Tag}
use Rattle.der_base.specs.declared.error.ErrorKind.{ErrorKind}
use Rattle.der_base.specs.declared.error.ErrorKind.TheVariants.{IndefiniteLength, Length as IncorrectLength}
use Rattle.der_base.specs.declared.encoding_rules.EncodingRules.{EncodingRules}
use Rattle.der_base.specs.declared.encoding_rules.EncodingRules.TheVariants.{Ber}
use Rattle.der_base.proofs.TagLemmas.{tag_front}
use Rattle.der_base.proofs.IdentifierLemmas.{identifier_front, no_identifier_fault, one_identifier_fault}
use Rattle.der_base.proofs.LengthLemmas.{length_front, length_definite, no_definite_fault, no_open_fault, one_length_fault}
use Rattle.der_base.proofs.BodyLemmas.{body_front}

-- no header with a definite length is a proper prefix of another
pub header_front : (t u : Tag) (m n : ℕ) (x y : List ℕ) → header_octets t m ++ x ≡ header_octets u n ++ y → (t ≡ u) × (m ≡ n) × (x ≡ y)
header_front t u m n x y e =
    let one = tag_front t u (length_octets m ++ x) (length_octets n ++ y) (simp append_assoc at e) in
    let two = length_front m n x y one.1 in
    (one.0, two.0, two.1)

-- the octets begin with an identifier, and what follows it
pub data IdentifierView (x : Tag × Bool) (rules : EncodingRules) (s : List ℕ) (m : ℕ) : Type 0 where
  identifier_view_of : (id rest : List ℕ) → IsIdentifier rules id x.0 x.1 → s ≡ id ++ rest → m ≡ length id → IdentifierView x rules s m

pub identifier_view : {x : Tag × Bool} {rules : EncodingRules} {s : List ℕ} {m : ℕ} → IdentifierNext x rules s m → IdentifierView x rules s m
identifier_view (identifier {id = id} rest h) = identifier_view_of id rest h refl refl

-- octets begin with at most one identifier
pub one_identifier : {rules : EncodingRules} {s : List ℕ} {x y : Tag × Bool} {m n : ℕ} → IdentifierNext x rules s m → IdentifierNext y rules s n → (x ≡ y) × (m ≡ n)
one_identifier {rules} {s} {x} {y} {m} {n} h g = go (identifier_view h) (identifier_view g)
  where
    go : IdentifierView x rules s m → IdentifierView y rules s n → (x ≡ y) × (m ≡ n)
    go (identifier_view_of a p d e f) (identifier_view_of b q i j k) =
        let r = identifier_front d i p q (sym e ∙ j) in
        let same : x ≡ y = ap (λ z. (z, x.1)) r.1 ∙ ap (λ z. (y.0, z)) r.2 in
        (same, f ∙ ap length r.0 ∙ sym k)

-- octets begin with at most one tag
pub one_tag : {rules : EncodingRules} {s : List ℕ} {t u : Tag} {m n : ℕ} → TagNext t rules s m → TagNext u rules s n → (t ≡ u) × (m ≡ n)
one_tag h g = let one = one_identifier h.1 g.1 in (ap (λ z. z.0) one.0, one.1)

-- the octets begin with a length: a definite one, or octet `0x80` and a body
pub data LengthView (l : Length) (rules : EncodingRules) (s : List ℕ) (m : ℕ) : Type 0 where
  view_definite : (n : ℕ) (rest : List ℕ) → n < 2 ^ 32 → s ≡ length_octets n ++ rest → l ≡ definite_length n → m ≡ length (length_octets n) → LengthView l rules s m
  view_indefinite : {parts : ℕ} (body rest : List ℕ) → rules ≡ Ber → Body 1 parts body → s ≡ 128 ∷ (body ++ rest) → l ≡ indefinite_length (length body) → m ≡ 1 → LengthView l rules s m

pub length_view : {l : Length} {rules : EncodingRules} {s : List ℕ} {m : ℕ} → LengthNext l rules s m → LengthView l rules s m
length_view (definite n rest h) = view_definite n rest h refl refl refl
length_view (indefinite {body = body} rest h) = view_indefinite body rest refl h refl refl refl

-- octets begin with at most one length
pub one_length : {rules : EncodingRules} {s t : List ℕ} {l k : Length} {m n : ℕ} → LengthNext l rules s m → LengthNext k rules t n → s ≡ t → (l ≡ k) × (m ≡ n)
one_length {rules} {s} {t} {l} {k} {m} {n} h g e = go (length_view h) (length_view g)
  where
    go : LengthView l rules s m → LengthView k rules t n → (l ≡ k) × (m ≡ n)
    go (view_definite a x p q f c) (view_definite b y u v w z) =
        let r = length_front a b x y (sym q ∙ e ∙ v) in
        (f ∙ ap definite_length r.0 ∙ sym w, c ∙ ap (λ i. length (length_octets i)) r.0 ∙ sym z)
    go (view_definite a x p q f c) (view_indefinite body y ber d v w z) = absurd (length_definite a x (body ++ y) (sym q ∙ e ∙ v))
    go (view_indefinite body y ber d v w z) (view_definite a x p q f c) = absurd (length_definite a x (body ++ y) (sym q ∙ sym e ∙ v))
    go (view_indefinite a x ber d v w z) (view_indefinite b y rber g q f c) =
        let i : 128 ∷ (a ++ x) ≡ 128 ∷ (b ++ y) = sym v ∙ e ∙ q in
        let r = body_front d g x y (cc) in
        (w ∙ ap (λ o. indefinite_length (length o)) r.0 ∙ sym f, z ∙ sym c)

-- the octets begin with a header: an identifier, followed by a length
pub data HeaderView (h : Head) (rules : EncodingRules) (s : List ℕ) (m : ℕ) : Type 0 where
  header_view_of : {k : ℕ} (id more : List ℕ) → IsIdentifier rules id h.tag h.constructed → LengthNext h.length rules more k → (is_indefinite h.length ≡ true → h.constructed ≡ true) → s ≡ id ++ more → m ≡ length id + k → HeaderView h rules s m

pub header_view : {h : Head} {rules : EncodingRules} {s : List ℕ} {m : ℕ} → HeadNext h rules s m → HeaderView h rules s m
header_view (header {id = id} {more = more} d l ok) = header_view_of id more d l ok refl refl

same_head : {t u : Tag} {l k : Length} {b c : Bool} → t ≡ u → l ≡ k → b ≡ c → head t l b ≡ head u k c
same_head {t} {u} {l} {k} {b} {c} p q r = ap (λ x. head x l b) p ∙ ap (λ x. head u x b) q ∙ ap (head u k) r

-- octets begin with at most one header
pub one_header : {rules : EncodingRules} {s : List ℕ} {h g : Head} {m n : ℕ} → HeadNext h rules s m → HeadNext g rules s n → (h ≡ g) × (m ≡ n)
one_header {rules} {s} {h} {g} {m} {n} p q = go (header_view p) (header_view q)
  where
    go : HeaderView h rules s m → HeaderView g rules s n → (h ≡ g) × (m ≡ n)
    go (header_view_of {k = i} a x d l ok e c) (header_view_of {k = j} b y o k fine u w) =
        let r = identifier_front d o x y (sym e ∙ u) in
        let z = one_length l k r.3 in
        (same_head r.1 z.0 r.2, c ∙ ap (λ o. length o + i) r.0 ∙ ap (λ o. length b + o) z.1 ∙ sym w)

-- octets that begin with an identifier have no fault
pub no_tag_fault : {x : Tag × Bool} {rules : EncodingRules} {at m : ℕ} {s t : List ℕ} {r : Refusal} → IdentifierFault rules at s r → IdentifierNext x rules t m → s ≡ t → ⊥
no_tag_fault {x} {rules} {m = m} {t = t} f h e = go (identifier_view h)
  where
    go : IdentifierView x rules t m → ⊥
    go (identifier_view_of id rest d q c) = no_identifier_fault rest f d (e ∙ q)

-- for any fault of a body whose laws are premises
module _ (Fault : ℕ → List ℕ → Refusal → Type 0) (laws : IsBodyFault Fault) where
  -- octets that begin with a length have no fault
  pub no_length_fault : {wrong : ErrorKind} {at m : ℕ} {rules : EncodingRules} {s t : List ℕ} {r : Refusal} {l : Length} → LengthFault Fault wrong rules at s r → LengthNext l rules t m → s ≡ t → ⊥
  no_length_fault {m = m} {rules = rules} {t = t} {l = l} f h e = go (length_view h)
    where
      go : LengthView l rules t m → ⊥
      go (view_definite n rest small q c z) = no_definite_fault n rest small f (e ∙ q)
      go (view_indefinite body rest ber d q c z) = no_open_fault laws d rest ber f (e ∙ q)

  -- octets that begin with a header have no fault
  pub no_header_fault : {rules : EncodingRules} {at m : ℕ} {s t : List ℕ} {r : Refusal} {h : Head} → HeaderFault Fault rules at s r → HeadNext h rules t m → s ≡ t → ⊥
  no_header_fault {rules = rules} {m = m} {t = t} {h = h} fault next e = go fault (header_view next) e
    where
      go : {at : ℕ} {s : List ℕ} {r : Refusal} → HeaderFault Fault rules at s r → HeaderView h rules t m → s ≡ t → ⊥
      go (no_identifier f) (header_view_of a x d l ok q z) e = no_identifier_fault x f d (e ∙ q)
      go (no_length {more = more} d f) (header_view_of a x o l ok q z) e =
          let r = identifier_front d o more x (e ∙ q) in no_length_fault f l r.3
      go (primitive {more = more} d k flag) (header_view_of a x o l ok q z) e =
          let r = identifier_front d o more x (e ∙ q) in
          let same = one_length k l r.3 in
          let w : false ≡ true = r.2 ∙ ok (ap is_indefinite (sym same.0) ∙ flag) in cc

  -- not both: an indefinite length after a primitive identifier, and a fault of a length there
  not_both_after_identifier : {rules : EncodingRules} {at m : ℕ} {wrong : ErrorKind} {a b x y : List ℕ} {t u : Tag} {p c : Bool} {r : Refusal} {l : Length}
      → IsIdentifier rules a t p → IsIdentifier rules b u c → LengthFault Fault wrong rules at x r → LengthNext l rules y m → a ++ x ≡ b ++ y → ⊥
  not_both_after_identifier {x = x} {y = y} d o f l e = no_length_fault f l (identifier_front d o x y e).3

  -- octets have at most one fault of a header
  pub one_header_fault : {rules : EncodingRules} {at : ℕ} {s t : List ℕ} {r q : Refusal} → HeaderFault Fault rules at s r → HeaderFault Fault rules at t q → s ≡ t → r ≡ q
  one_header_fault (no_identifier f) (no_identifier g) e = one_identifier_fault f g e
  one_header_fault (no_identifier f) (no_length {more = more} d g) e = absurd (no_identifier_fault more f d e)
  one_header_fault (no_identifier f) (primitive {more = more} d l g) e = absurd (no_identifier_fault more f d e)
  one_header_fault (no_length {more = more} d g) (no_identifier f) e = absurd (no_identifier_fault more f d (sym e))
  one_header_fault {rules = rules} {at = at} {r = p} (no_length {id = a} {more = x} {t = t} d f) (no_length {id = b} {more = y} {t = u} o g) e =
      let r = identifier_front d o x y e in
      one_length_fault laws (subst (λ v. LengthFault Fault (IncorrectLength v) rules (at + length b) x p) r.1 (subst (λ i. LengthFault Fault (IncorrectLength t) rules (at + length i) x p) r.0 f)) g r.3
  one_header_fault (no_length d f) (primitive o l g) e = absurd (not_both_after_identifier d o f l e)
  one_header_fault (primitive {more = more} d l g) (no_identifier f) e = absurd (no_identifier_fault more f d (sym e))
  one_header_fault (primitive o l g) (no_length d f) e = absurd (not_both_after_identifier d o f l (sym e))
  one_header_fault {at = at} (primitive {id = a} {more = x} {m = m} d l f) (primitive {id = b} {more = y} {m = n} o k g) e =
      let r = identifier_front d o x y e in
      let z = one_length l k r.3 in
      ap (λ i. refusal IndefiniteLength (at + length i + m)) r.0 ∙ ap (λ i. refusal IndefiniteLength (at + length b + i)) z.1

  -- the grammars of lengths and headers
  pub length_grammar : (wrong : ErrorKind) → IsGrammar LengthNext (LengthFault Fault wrong)
  length_grammar wrong =
      record {
        one = λ rules octets v w m n h g. one_length h g refl;
        one_fault = λ rules at octets r q f g. one_length_fault laws f g refl;
        never_both = λ rules at octets v m r h f. no_length_fault f h refl;
      }

  pub header_grammar : IsGrammar HeadNext (HeaderFault Fault)
  header_grammar =
      record {
        one = λ rules octets v w m n h g. one_header h g;
        one_fault = λ rules at octets r q f g. one_header_fault f g refl;
        never_both = λ rules at octets v m r h f. no_header_fault f h refl;
      }

-- the grammars of identifiers and tags
pub identifier_grammar : IsGrammar IdentifierNext IdentifierFault
identifier_grammar =
    record {
      one = λ rules octets v w m n h g. one_identifier h g;
      one_fault = λ rules at octets r q f g. one_identifier_fault f g refl;
      never_both = λ rules at octets v m r h f. no_tag_fault f h refl;
    }

pub tag_grammar : IsGrammar TagNext IdentifierFault
tag_grammar =
    record {
      one = λ rules octets v w m n h g. one_tag h g;
      one_fault = λ rules at octets r q f g. one_identifier_fault f g refl;
      never_both = λ rules at octets v m r h f. no_tag_fault f h.1 refl;
    }

-- Lemmas on joined octets: the result is unique, and how it splits after a first part.
use Rattle.std.proofs.Common.{◌≡◌, ◌≢◌, ℕ, suc, ◌+◌, ◌-◌, ◌^◌, ◌<◌, ◌≤◌, Bool, true, false, List, [], ◌∷◌, ◌++◌, length, drop, refl, sym, ap, ◌∙◌, subst, append_assoc, append-nil, length-append, arith}
use Rattle.std.proofs.lemmas.List.{drop_at}
use Rattle.der_base.specs.Arithmetic.{sans_eoc}
use Rattle.der_base.specs.Body.{Body}
use Rattle.der_base.specs.Length.{number, definite_length, indefinite_length, length_octets}
use Rattle.der_base.specs.Tag.{label, tag_octets, IsIdentifier, of_tag, of_segments}
use Rattle.der_base.specs.HeaderGrammar.{header_octets, Head, head, LengthNext, HeadNext, header, definite, indefinite}
use Rattle.der_base.specs.declared.tag.Tag.{Tag}
use Rattle.der_base.specs.declared.encoding_rules.EncodingRules.{EncodingRules}
use Rattle.der_base.specs.declared.encoding_rules.EncodingRules.TheVariants.{Ber}
use Rattle.der_base.proofs.BodyLemmas.{body_front}
use Rattle.der_base.proofs.DigitLemmas.{same_length_front}
use Rattle.der_base.proofs.HeaderLemmas.{header_front}
use Rattle.der_base.proofs.IdentifierLemmas.{identifier_some, identifier_front}
use Rattle.der_base.proofs.LengthLemmas.{length_front, length_definite, length_octets_some}
use Rattle.der_core.specs.Encode.{element_octets}
use Rattle.der.specs.Joined.{Joined, none, segment, definite_segments, indefinite_segments}

-- an element is not empty
element_some : (tag : Tag) (c : List ℕ) → 1 ≤ length (element_octets tag c)
element_some tag c = omega (arith, length_octets_some (length c), length-append (header_octets tag (length c)) c, length-append (tag_octets tag) (length_octets (length c)))

-- no element is a proper prefix of another with its tag
element_front : (tag : Tag) (c d x y : List ℕ) → element_octets tag c ++ x ≡ element_octets tag d ++ y → (c ≡ d) × (x ≡ y)
element_front tag c d x y e =
    let same = header_front tag tag (length c) (length d) (c ++ x) (d ++ y) (sym (append_assoc (header_octets tag (length c)) c x) ∙ e ∙ append_assoc (header_octets tag (length d)) d y) in
    same_length_front c d x y same.1 same.2

-- a segment with its constructed bit, its contents without end-of-contents octets, and all its
-- octets
pub data IsSegment (tag : Tag) (b : Bool) (c e : List ℕ) : Type 0 where
  primitive_form : b ≡ false → (label tag).constructed ≡ false → length c < 2 ^ 32 → e ≡ element_octets tag c → IsSegment tag b c e
  definite_form : (id : List ℕ) → b ≡ true → IsIdentifier Ber id tag true → length c < 2 ^ 32 → e ≡ id ++ (length_octets (length c) ++ c) → IsSegment tag b c e
  indefinite_form : {parts : ℕ} (id : List ℕ) → b ≡ true → IsIdentifier Ber id tag true → Body 1 parts (c ++ 0 ∷ 0 ∷ []) → e ≡ id ++ 128 ∷ (c ++ 0 ∷ 0 ∷ []) → IsSegment tag b c e

pub segment_some : {tag : Tag} {b : Bool} {c e : List ℕ} → IsSegment tag b c e → 1 ≤ length e
segment_some {tag} {c = c} (primitive_form isnt bit small is) = omega (arith, element_some tag c, ap length is)
segment_some {c = c} (definite_form id set d small is) = omega (arith, identifier_some d, ap length is, length-append id (length_octets (length c) ++ c))
segment_some {c = c} (indefinite_form id set d body is) = omega (arith, identifier_some d, ap length is, length-append id (128 ∷ (c ++ 0 ∷ 0 ∷ [])))

no_segment_ends : {tag : Tag} {b : Bool} {c e : List ℕ} → IsSegment tag b c e → (x : List ℕ) → e ++ x ≡ [] → ⊥
no_segment_ends {e = e} s x nothing = absurd (omega (arith, segment_some s, ap length nothing, length-append e x))

-- a tag with an identifier has a tag number that fits in 32 bits
identifier_numbered : {rules : EncodingRules} {id : List ℕ} {t : Tag} {b : Bool} → IsIdentifier rules id t b → (label t).number < 2 ^ 32
identifier_numbered (of_tag h) = h
identifier_numbered of_segments = omega arith

-- two segments at the start of the same octets are equal
record SameSegment (p q : Bool) (c d x y : List ℕ) : Type 0 where
  pub bits : p ≡ q
  pub contents : c ≡ d
  pub following : x ≡ y

-- a primitive segment is no constructed one
not_primitive : {tag : Tag} {id : List ℕ} → (label tag).constructed ≡ false → IsIdentifier Ber id tag true → (c x y : List ℕ) → element_octets tag c ++ x ≡ id ++ y → ⊥
not_primitive {tag} {id} bit d c x y e =
    let primitive : IsIdentifier Ber (tag_octets tag) tag false = subst (IsIdentifier Ber (tag_octets tag) tag) bit (of_tag (identifier_numbered d)) in
    let whole : tag_octets tag ++ ((length_octets (length c) ++ c) ++ x) ≡ id ++ y = sym (ap (λ l. l ++ x) (append_assoc (tag_octets tag) (length_octets (length c)) c) ∙ append_assoc (tag_octets tag) (length_octets (length c) ++ c) x) ∙ e in
    let r = identifier_front primitive d ((length_octets (length c) ++ c) ++ x) y whole in
    (let no : false ≡ true = r.2 in cc)

module _ {tag : Tag} {a b : List ℕ} (d : IsIdentifier Ber a tag true) (g : IsIdentifier Ber b tag true) (c f x y : List ℕ) where
  definite_front : (a ++ (length_octets (length c) ++ c)) ++ x ≡ (b ++ (length_octets (length f) ++ f)) ++ y → (c ≡ f) × (x ≡ y)
  definite_front same =
      let one = identifier_front d g (length_octets (length c) ++ (c ++ x)) (length_octets (length f) ++ (f ++ y)) (simp append_assoc at same) in
      let two = length_front (length c) (length f) (c ++ x) (f ++ y) one.3 in
      same_length_front c f x y two.0 two.1

  mixed_front : (a ++ (length_octets (length c) ++ c)) ++ x ≡ (b ++ 128 ∷ f) ++ y → ⊥
  mixed_front same =
      let one = identifier_front d g (length_octets (length c) ++ (c ++ x)) (128 ∷ (f ++ y)) (simp append_assoc at same) in
      length_definite (length c) (c ++ x) (f ++ y) one.3

  indefinite_front : {m n : ℕ} → Body 1 m (c ++ 0 ∷ 0 ∷ []) → Body 1 n (f ++ 0 ∷ 0 ∷ []) → (a ++ 128 ∷ (c ++ 0 ∷ 0 ∷ [])) ++ x ≡ (b ++ 128 ∷ (f ++ 0 ∷ 0 ∷ [])) ++ y → (c ≡ f) × (x ≡ y)
  indefinite_front k l same =
      let whole : a ++ 128 ∷ ((c ++ 0 ∷ 0 ∷ []) ++ x) ≡ b ++ 128 ∷ ((f ++ 0 ∷ 0 ∷ []) ++ y) = sym (append_assoc a (128 ∷ (c ++ 0 ∷ 0 ∷ [])) x) ∙ same ∙ append_assoc b (128 ∷ (f ++ 0 ∷ 0 ∷ [])) y in
      let one = identifier_front d g (128 ∷ ((c ++ 0 ∷ 0 ∷ []) ++ x)) (128 ∷ ((f ++ 0 ∷ 0 ∷ []) ++ y)) whole in
      let tail : (c ++ 0 ∷ 0 ∷ []) ++ x ≡ (f ++ 0 ∷ 0 ∷ []) ++ y = let r : 128 ∷ ((c ++ 0 ∷ 0 ∷ []) ++ x) ≡ 128 ∷ ((f ++ 0 ∷ 0 ∷ []) ++ y) = one.3 in cc in
      let two = body_front k l x y tail in
      let long : length c ≡ length f = omega (arith, ap length two.0, length-append c (0 ∷ 0 ∷ []), length-append f (0 ∷ 0 ∷ [])) in
      ((same_length_front c f (0 ∷ 0 ∷ []) (0 ∷ 0 ∷ []) long two.0).0, two.2)

-- no segment is a proper prefix of another with its tag
segment_front : {tag : Tag} {p q : Bool} {c d a b : List ℕ} → IsSegment tag p c a → IsSegment tag q d b → (x y : List ℕ) → a ++ x ≡ b ++ y → SameSegment p q c d x y
segment_front {tag} {p} {q} {c} {d} {a} {b} s t x y e = go s t
  where
    at : {k l : List ℕ} → a ≡ k → b ≡ l → k ++ x ≡ l ++ y
    at f g = ap (λ z. z ++ x) (sym f) ∙ e ∙ ap (λ z. z ++ y) g

    go : IsSegment tag p c a → IsSegment tag q d b → SameSegment p q c d x y
    go (primitive_form i j k l) (primitive_form m n o r) = (let z = element_front tag c d x y (at l r) in record { bits = i ∙ sym m; contents = z.0; following = z.1 })
    go (primitive_form i j k l) (definite_form id m n o r) =
        absurd (not_primitive j n c x ((length_octets (length d) ++ d) ++ y) (at l r ∙ append_assoc id (length_octets (length d) ++ d) y))
    go (primitive_form i j k l) (indefinite_form id m n o r) =
        absurd (not_primitive j n c x ((128 ∷ (d ++ 0 ∷ 0 ∷ [])) ++ y) (at l r ∙ append_assoc id (128 ∷ (d ++ 0 ∷ 0 ∷ [])) y))
    go (definite_form id m n o r) (primitive_form i j k l) =
        absurd (not_primitive j n d y ((length_octets (length c) ++ c) ++ x) (sym (at r l) ∙ append_assoc id (length_octets (length c) ++ c) x))
    go (indefinite_form id m n o r) (primitive_form i j k l) =
        absurd (not_primitive j n d y ((128 ∷ (c ++ 0 ∷ 0 ∷ [])) ++ x) (sym (at r l) ∙ append_assoc id (128 ∷ (c ++ 0 ∷ 0 ∷ [])) x))
    go (definite_form id i j k l) (definite_form jd m n o r) = (let z = definite_front j n c d x y (at l r) in record { bits = i ∙ sym m; contents = z.0; following = z.1 })
    go (definite_form id i j k l) (indefinite_form jd m n o r) = absurd (mixed_front j n c (d ++ 0 ∷ 0 ∷ []) x y (at l r))
    go (indefinite_form jd m n o r) (definite_form id i j k l) = absurd (mixed_front j n d (c ++ 0 ∷ 0 ∷ []) y x (sym (at r l)))
    go (indefinite_form id i j k l) (indefinite_form jd m n o r) = (let z = indefinite_front j n c d x y k o (at l r) in record { bits = i ∙ sym m; contents = z.0; following = z.1 })

-- a segment followed by segments
pub segment_then : {tag : Tag} {levels : ℕ} {c e more out : List ℕ} → IsSegment tag false c e → Joined tag levels more out → Joined tag levels (e ++ more) (c ++ out)
segment_then {tag} {levels} {c} {e} {more} {out} (primitive_form isnt bit small is) h = subst (λ l. Joined tag levels (l ++ more) (c ++ out)) (sym is) (segment c bit small h)
segment_then (definite_form id set d small is) h = absurd (cc)
segment_then (indefinite_form id set d body is) h = absurd (cc)

pub segments_then : {tag : Tag} {levels : ℕ} {c e within more out : List ℕ} → IsSegment tag true c e → Joined tag levels c within → Joined tag (suc levels) more out → Joined tag (suc levels) (e ++ more) (within ++ out)
segments_then (primitive_form isnt bit small is) into h = absurd (cc)
segments_then {tag} {levels} {c} {e} {within} {more} {out} (definite_form id set d small is) into h =
    subst (λ l. Joined tag (suc levels) (l ++ more) (within ++ out)) (sym is) (definite_segments c d small into h)
segments_then {tag} {levels} {c} {e} {within} {more} {out} (indefinite_form id set d body is) into h =
    subst (λ l. Joined tag (suc levels) (l ++ more) (within ++ out)) (sym is) (indefinite_segments c d body into h)

regrouped : {tag : Tag} {levels : ℕ} (e m b c o y : List ℕ) → Joined tag levels (e ++ (m ++ b)) (c ++ (o ++ y)) → Joined tag levels ((e ++ m) ++ b) ((c ++ o) ++ y)
regrouped {tag} {levels} e m b c o y h = subst (λ s. Joined tag levels s ((c ++ o) ++ y)) (sym (append_assoc e m b)) (subst (Joined tag levels (e ++ (m ++ b))) (sym (append_assoc c o y)) h)

-- segments followed by segments
pub joined_more : {tag : Tag} {levels : ℕ} {a b x y : List ℕ} → Joined tag levels a x → Joined tag levels b y → Joined tag levels (a ++ b) (x ++ y)
joined_more none g = g
joined_more {tag} {b = b} {y = y} (segment {more = m} {out = o} c bit small h) g = regrouped (element_octets tag c) m b c o y (segment c bit small (joined_more h g))
joined_more {tag} {b = b} {y = y} (definite_segments {id = id} {more = m} {within = w} {out = o} c d small into h) g =
    regrouped (id ++ (length_octets (length c) ++ c)) m b w o y (definite_segments c d small into (joined_more h g))
joined_more {tag} {b = b} {y = y} (indefinite_segments {id = id} {more = m} {within = w} {out = o} c d body into h) g =
    regrouped (id ++ 128 ∷ (c ++ 0 ∷ 0 ∷ [])) m b w o y (indefinite_segments c d body into (joined_more h g))

-- joined octets, by cases of the first segment
data JoinedView (tag : Tag) (levels : ℕ) (s out : List ℕ) : Type 0 where
  view_none : s ≡ [] → out ≡ [] → JoinedView tag levels s out
  view_segment : (c e more o : List ℕ) → IsSegment tag false c e → Joined tag levels more o → s ≡ e ++ more → out ≡ c ++ o → JoinedView tag levels s out
  view_segments : (below : ℕ) (c e more w o : List ℕ) → IsSegment tag true c e → levels ≡ suc below → Joined tag below c w → Joined tag levels more o → s ≡ e ++ more → out ≡ w ++ o
      → JoinedView tag levels s out

joined_view : {tag : Tag} {levels : ℕ} {s out : List ℕ} → Joined tag levels s out → JoinedView tag levels s out
joined_view none = view_none refl refl
joined_view {tag} (segment {more = m} {out = o} c bit small h) = view_segment c (element_octets tag c) m o (primitive_form refl bit small refl) h refl refl
joined_view (definite_segments {levels = k} {id = id} {more = m} {within = w} {out = o} c d small into h) =
    view_segments k c (id ++ (length_octets (length c) ++ c)) m w o (definite_form id refl d small refl) refl into h refl refl
joined_view (indefinite_segments {levels = k} {id = id} {more = m} {within = w} {out = o} c d body into h) =
    view_segments k c (id ++ 128 ∷ (c ++ 0 ∷ 0 ∷ [])) m w o (indefinite_form id refl d body refl) refl into h refl refl

-- the result is `before`, followed by the joined rest
pub record JoinedAfter (tag : Tag) (levels : ℕ) (s before out : List ℕ) : Type 0 where
  pub after : List ℕ
  pub joined : Joined tag levels s after
  pub split : out ≡ before ++ after

-- no octets follow the whole result
nothing_joined_after_all : {tag : Tag} {levels : ℕ} {x y : List ℕ} → JoinedAfter tag levels [] x y → y ≡ x
nothing_joined_after_all {tag} {levels} {x} {y} h = go (joined_view h.joined)
  where
    go : JoinedView tag levels [] h.after → y ≡ x
    go (view_none p z) = h.split ∙ ap (λ l. x ++ l) z ∙ append-nil x
    go (view_segment c e m o i r p z) = absurd (no_segment_ends i m (sym p))
    go (view_segments k c e m w o i l into r p z) = absurd (no_segment_ends i m (sym p))

-- joining a followed by more octets gives x followed by the joined rest
abbrev Later : Tag → ℕ → List ℕ → List ℕ → Type 0
Later tag levels a x = (q b y : List ℕ) → b ≡ a ++ q → Joined tag levels b y → JoinedAfter tag levels q x y

-- the same after a primitive segment, and after a constructed one
splits_after_segment : {tag : Tag} {levels : ℕ} {c e out : List ℕ} (more : List ℕ) → IsSegment tag false c e → Later tag levels more out → Later tag levels (e ++ more) (c ++ out)
splits_after_segment {tag} {levels} {c} {e} {out} more s later q b y is g = go (joined_view g)
  where
    at : b ≡ e ++ (more ++ q)
    at = is ∙ append_assoc e more q

    go : JoinedView tag levels b y → JoinedAfter tag levels q (c ++ out) y
    go (view_none p z) = absurd (no_segment_ends s (more ++ q) (sym at ∙ p))
    go (view_segments k d f m w o i l into r p z) = (let same = segment_front s i (more ++ q) m (sym at ∙ p) in absurd (let no : false ≡ true = same.bits in cc))
    go (view_segment d f m o i r p z) =
        let same = segment_front s i (more ++ q) m (sym at ∙ p) in
        let n = later q m o (sym same.following) r in
        record { after = n.after; joined = n.joined; split = z ∙ ap (λ l. l ++ o) (sym same.contents) ∙ ap (λ l. c ++ l) n.split ∙ sym (append_assoc c out n.after) }

after_segments : {tag : Tag} {below : ℕ} {c e w out : List ℕ} (more : List ℕ) → IsSegment tag true c e → Later tag below c w → Later tag (suc below) more out → Later tag (suc below) (e ++ more) (w ++ out)
after_segments {tag} {below} {c} {e} {w} {out} more s once later q b y is g = go (joined_view g)
  where
    at : b ≡ e ++ (more ++ q)
    at = is ∙ append_assoc e more q

    go : JoinedView tag (suc below) b y → JoinedAfter tag (suc below) q (w ++ out) y
    go (view_none p z) = absurd (no_segment_ends s (more ++ q) (sym at ∙ p))
    go (view_segment d f m o i r p z) = (let same = segment_front s i (more ++ q) m (sym at ∙ p) in absurd (let no : true ≡ false = same.bits in cc))
    go (view_segments k d f m v o i l into r p z) =
        let same = segment_front s i (more ++ q) m (sym at ∙ p) in
        let level : k ≡ below = cc in
        let within = nothing_joined_after_all (once [] d v (sym same.contents ∙ sym (append-nil c)) (subst (λ n. Joined tag n d v) level into)) in
        let n = later q m o (sym same.following) r in
        record { after = n.after; joined = n.joined; split = z ∙ ap (λ l. l ++ o) within ∙ ap (λ l. w ++ l) n.split ∙ sym (append_assoc w out n.after) }

pub joined_after : {tag : Tag} {levels : ℕ} {a x : List ℕ} → Joined tag levels a x → (q b y : List ℕ) → b ≡ a ++ q → Joined tag levels b y → JoinedAfter tag levels q x y
joined_after {tag} {levels} none q b y e g = record { after = y; joined = subst (λ l. Joined tag levels l y) e g; split = refl }
joined_after (segment {more = m} c bit small h) q b y e g = splits_after_segment m (primitive_form refl bit small refl) (λ q b y e g. joined_after h q b y e g) q b y e g
joined_after (definite_segments {id = id} {more = m} c d small into h) q b y e g =
    after_segments m (definite_form id refl d small refl) (λ q b y e g. joined_after into q b y e g) (λ q b y e g. joined_after h q b y e g) q b y e g
joined_after (indefinite_segments {id = id} {more = m} c d body into h) q b y e g =
    after_segments m (indefinite_form id refl d body refl) (λ q b y e g. joined_after into q b y e g) (λ q b y e g. joined_after h q b y e g) q b y e g

-- the same octets have at most one joined result
pub one_joined : {tag : Tag} {levels : ℕ} {s x y : List ℕ} → Joined tag levels s x → Joined tag levels s y → x ≡ y
one_joined {s = s} {x = x} {y = y} h g = sym (nothing_joined_after_all (joined_after h [] s y (sym (append-nil s)) g))

-- the result stays the same if more levels are allowed
pub joined_up : {tag : Tag} {levels : ℕ} {s out : List ℕ} → Joined tag levels s out → (n : ℕ) → levels ≤ n → Joined tag n s out
joined_up none n l = none
joined_up (segment c bit small h) n l = segment c bit small (joined_up h n l)
joined_up {tag} (definite_segments {id = id} {more = m} {within = w} {out = o} c d small into h) n l =
    let e : suc (n - 1) ≡ n = omega arith in
    let below = joined_up into (n - 1) (omega arith) in
    let following : Joined tag (suc (n - 1)) m o = joined_up h (suc (n - 1)) (omega arith) in
    subst (λ x. Joined tag x ((id ++ (length_octets (length c) ++ c)) ++ m) (w ++ o)) e (definite_segments c d small below following)
joined_up {tag} (indefinite_segments {id = id} {more = m} {within = w} {out = o} c d body into h) n l =
    let e : suc (n - 1) ≡ n = omega arith in
    let below = joined_up into (n - 1) (omega arith) in
    let following : Joined tag (suc (n - 1)) m o = joined_up h (suc (n - 1)) (omega arith) in
    subst (λ x. Joined tag x ((id ++ 128 ∷ (c ++ 0 ∷ 0 ∷ [])) ++ m) (w ++ o)) e (indefinite_segments c d body below following)

-- the joined segments inside a constructed one, with one level fewer
pub record JoinedWithin (tag : Tag) (levels : ℕ) (contents : List ℕ) : Type 0 where
  pub below : ℕ
  pub out : List ℕ
  pub level : levels ≡ suc below
  pub joined : Joined tag below contents out

-- the first segment of octets
pub record FirstSegment (tag : Tag) (levels : ℕ) (s : List ℕ) : Type 0 where
  pub constructed : Bool
  pub contents : List ℕ
  pub octets : List ℕ
  pub following : List ℕ
  pub form : IsSegment tag constructed contents octets
  pub split : s ≡ octets ++ following
  pub within : constructed ≡ true → JoinedWithin tag levels contents

pub first_segment : {tag : Tag} {levels : ℕ} {s out : List ℕ} → Joined tag levels s out → s ≢ [] → FirstSegment tag levels s
first_segment {tag} {levels} {s} {out} j some = go (joined_view j)
  where
    go : JoinedView tag levels s out → FirstSegment tag levels s
    go (view_none p z) = absurd (some p)
    go (view_segment c e m o i r p z) = record { constructed = false; contents = c; octets = e; following = m; form = i; split = p; within = λ set. absurd (cc) }
    go (view_segments k c e m w o i l into r p z) =
        record { constructed = true; contents = c; octets = e; following = m; form = i; split = p; within = λ _. record { below = k; out = w; level = l; joined = into } }

-- a segment is next: its header, followed by its contents
pub record SegmentNext (tag : Tag) (b : Bool) (c : List ℕ) (rules : EncodingRules) (s : List ℕ) : Type 0 where
  pub says : Head
  pub count : ℕ
  pub after : List ℕ
  pub tagged : says.tag ≡ tag
  pub bit : says.constructed ≡ b
  pub next : HeadNext says rules s count
  pub split : drop count s ≡ c ++ after
  pub sized : length c ≡ number (sans_eoc says.length)

-- constructed segments occur only under BER
module _ (tag : Tag) (rules : EncodingRules) (c following s : List ℕ) where
  definite_segment_next : {id : List ℕ} {b : Bool} → IsIdentifier rules id tag b → length c < 2 ^ 32 → s ≡ id ++ (length_octets (length c) ++ (c ++ following)) → SegmentNext tag b c rules s
  definite_segment_next {id} {b} d small is =
      record {
        says = head tag (definite_length (length c)) b;
        count = length id + length (length_octets (length c));
        after = following;
        tagged = refl;
        bit = refl;
        next = subst (λ x. HeadNext (head tag (definite_length (length c)) b) rules x (length id + length (length_octets (length c)))) (sym is) (header d (definite (length c) (c ++ following) small) (λ f. absurd (cc)));
        split =
            ap (drop (length id + length (length_octets (length c)))) (is ∙ sym (append_assoc id (length_octets (length c)) (c ++ following)))
            ∙ drop_at (id ++ length_octets (length c)) (c ++ following) (length id + length (length_octets (length c))) (length-append id (length_octets (length c)));
        sized = refl;
      }

  indefinite_segment_next : {parts : ℕ} {id : List ℕ} → IsIdentifier rules id tag true → rules ≡ Ber → Body 1 parts (c ++ 0 ∷ 0 ∷ []) → s ≡ id ++ 128 ∷ ((c ++ 0 ∷ 0 ∷ []) ++ following) → SegmentNext tag true c rules s
  indefinite_segment_next {parts} {id} d ber body is =
      let eoc = c ++ 0 ∷ 0 ∷ [] in
      let l = indefinite_length (length eoc) in
      let la : LengthNext l rules (128 ∷ (eoc ++ following)) 1 = subst (λ x. LengthNext l x (128 ∷ (eoc ++ following)) 1) (sym ber) (indefinite following body) in
      record {
        says = head tag l true;
        count = length id + 1;
        after = 0 ∷ 0 ∷ following;
        tagged = refl;
        bit = refl;
        next = subst (λ x. HeadNext (head tag l true) rules x (length id + 1)) (sym is) (header d la (λ f. refl));
        split =
            ap (drop (length id + 1)) (is ∙ sym (append_assoc id (128 ∷ []) (eoc ++ following))) ∙ drop_at (id ++ 128 ∷ []) (eoc ++ following) (length id + 1) (length-append id (128 ∷ []))
            ∙ append_assoc c (0 ∷ 0 ∷ []) following;
        sized = omega (arith, length-append c (0 ∷ 0 ∷ []));
      }

  pub segment_next : {b : Bool} {e : List ℕ} → IsSegment tag b c e → s ≡ e ++ following → (label tag).number < 2 ^ 32 → (b ≡ true → rules ≡ Ber) → SegmentNext tag b c rules s
  segment_next {b} {e} (primitive_form isnt bit small is) split numbered ber =
      let d : IsIdentifier rules (tag_octets tag) tag b = subst (IsIdentifier rules (tag_octets tag) tag) (bit ∙ sym isnt) (of_tag numbered) in
      definite_segment_next d small (split ∙ ap (λ l. l ++ following) is ∙ simp append_assoc)
  segment_next {b} {e} (definite_form id set d small is) split numbered ber =
      let i : IsIdentifier rules id tag b = subst (λ r. IsIdentifier r id tag b) (sym (ber set)) (subst (IsIdentifier Ber id tag) (sym set) d) in
      definite_segment_next i small (split ∙ ap (λ l. l ++ following) is ∙ simp append_assoc)
  segment_next {b} {e} (indefinite_form id set d body is) split numbered ber =
      let i : IsIdentifier rules id tag true = subst (λ r. IsIdentifier r id tag true) (sym (ber set)) d in
      subst (λ x. SegmentNext tag x c rules s) (sym set) (indefinite_segment_next i (ber set) body (split ∙ ap (λ l. l ++ following) is ∙ append_assoc id (128 ∷ (c ++ 0 ∷ 0 ∷ [])) following))

-- the joined octets are no longer than the segments
pub joined_short : {tag : Tag} {levels : ℕ} {s x : List ℕ} → Joined tag levels s x → length x ≤ length s
joined_short none = omega arith
joined_short {tag} (segment {more = m} {out = o} c bit small j) =
    omega (arith, joined_short j, length-append c o, length-append (element_octets tag c) m, length-append (header_octets tag (length c)) c)
joined_short (definite_segments {id = id} {more = m} {within = w} {out = o} c d small into j) =
    omega (arith, joined_short j, joined_short into, length-append w o, length-append (id ++ (length_octets (length c) ++ c)) m, length-append id (length_octets (length c) ++ c), length-append (length_octets (length c)) c)
joined_short (indefinite_segments {id = id} {more = m} {within = w} {out = o} c d body into j) =
    omega (
      arith,
      joined_short j,
      joined_short into,
      length-append w o,
      length-append (id ++ 128 ∷ (c ++ 0 ∷ 0 ∷ [])) m,
      length-append id (128 ∷ (c ++ 0 ∷ 0 ∷ [])),
      length-append c (0 ∷ 0 ∷ []),
    )

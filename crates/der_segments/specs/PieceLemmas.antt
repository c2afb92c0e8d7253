-- Lemmas on pieces: contents have one list of pieces, and segments that are joined have pieces that
-- are joined to the same octets.
use mathlib.Core.HLevel.{Σ_prop_path}
use mathlib.Core.Logic.{∥∥₁_elim, ∥∥₁_prop}
use Rattle.std.proofs.Common.{◌≡◌, ℕ, ◌^◌, ◌<◌, Bool, true, false, List, [], ◌∷◌, ◌++◌, length, refl, sym, ap, ◌∙◌, subst, append_assoc, append-nil, arith}
use Rattle.std.specs.Coded.{Coded-set, coded_list, coded_ℕ}
use Rattle.der_base.proofs.DigitLemmas.{same_length_front}
use Rattle.der_base.proofs.LengthLemmas.{length_front, length_definite}
use Rattle.der.specs.Encode.{element_octets}
use Rattle.der.specs.Joined.{Joined, none, segment, definite_segments, indefinite_segments}
use Rattle.der.specs.Length.{length_octets}
use Rattle.der.specs.Prelude.{Ber, OctetString, Tag}
use Rattle.der.specs.Tag.{IsIdentifier, of_tag, of_segments, label}
use Rattle.der_segments.specs.Pieces.{InPieces, nothing, after_end, after_definite, after_indefinite, piece, joined_pieces, ArePieces, HasPieces}

-- what contents in pieces begin with
pub data PiecesView (s : List ℕ) (ps : List (List ℕ)) : Type 0 where
  view_nothing : s ≡ [] → ps ≡ [] → PiecesView s ps
  view_end : (more : List ℕ) → s ≡ 0 ∷ 0 ∷ more → InPieces more ps → PiecesView s ps
  view_definite : (n : ℕ) (more : List ℕ) → n < 2 ^ 32 → s ≡ 36 ∷ (length_octets n ++ more)
      → InPieces more ps → PiecesView s ps
  view_indefinite : (more : List ℕ) → s ≡ 36 ∷ 128 ∷ more → InPieces more ps → PiecesView s ps
  view_piece : (c more : List ℕ) (qs : List (List ℕ)) → length c < 2 ^ 32
      → s ≡ 4 ∷ (length_octets (length c) ++ (c ++ more)) → ps ≡ c ∷ qs → InPieces more qs
      → PiecesView s ps

pub pieces_view : {s : List ℕ} {ps : List (List ℕ)} → InPieces s ps → PiecesView s ps
pieces_view nothing = view_nothing refl refl
pieces_view (after_end {more = more} h) = view_end more refl h
pieces_view (after_definite {more = more} n small h) = view_definite n more small refl h
pieces_view (after_indefinite {more = more} h) = view_indefinite more refl h
pieces_view (piece {more = more} {pieces = ps} c small h) = view_piece c more ps small refl refl h

pub first_same : {a b : ℕ} {x y : List ℕ} → a ∷ x ≡ b ∷ y → a ≡ b
first_same e = cc

-- octets after a mark have one list of pieces
abbrev OnePieces : List ℕ → List (List ℕ) → Type 0
OnePieces more ps = (qs : List (List ℕ)) → InPieces more qs → ps ≡ qs

one_nothing : {s : List ℕ} {qs : List (List ℕ)} → s ≡ [] → PiecesView s qs → [] ≡ qs
one_nothing n (view_nothing e z) = sym z
one_nothing n (view_end more e h) = absurd (cc)
one_nothing n (view_definite k more small e h) = absurd (cc)
one_nothing n (view_indefinite more e h) = absurd (cc)
one_nothing n (view_piece c more rs small e z h) = absurd (cc)

one_after_end : {s : List ℕ} {ps qs : List (List ℕ)} (m : List ℕ) → s ≡ 0 ∷ 0 ∷ m → OnePieces m ps
    → PiecesView s qs → ps ≡ qs
one_after_end m n one (view_nothing e z) = absurd (cc)
one_after_end {qs = qs} m n one (view_end more e h) =
    let same : m ≡ more = cc in one qs (subst (λ x. InPieces x qs) (sym same) h)
one_after_end m n one (view_definite k more small e h) =
    absurd (omega (arith, first_same (sym n ∙ e)))
one_after_end m n one (view_indefinite more e h) = absurd (omega (arith, first_same (sym n ∙ e)))
one_after_end m n one (view_piece c more rs small e z h) =
    absurd (omega (arith, first_same (sym n ∙ e)))

one_after_definite : {s : List ℕ} {ps qs : List (List ℕ)} (k : ℕ) (m : List ℕ)
    → s ≡ 36 ∷ (length_octets k ++ m) → OnePieces m ps → PiecesView s qs → ps ≡ qs
one_after_definite k m n one (view_nothing e z) = absurd (cc)
one_after_definite k m n one (view_end more e h) = absurd (omega (arith, first_same (sym n ∙ e)))
one_after_definite {qs = qs} k m n one (view_definite i more small e h) =
    let rest : length_octets k ++ m ≡ length_octets i ++ more = cc in
    one qs (subst (λ x. InPieces x qs) (sym (length_front k i m more rest).1) h)
one_after_definite k m n one (view_indefinite more e h) =
    absurd (let rest : length_octets k ++ m ≡ 128 ∷ more = cc in length_definite k m more rest)
one_after_definite k m n one (view_piece c more rs small e z h) =
    absurd (omega (arith, first_same (sym n ∙ e)))

one_after_indefinite : {s : List ℕ} {ps qs : List (List ℕ)} (m : List ℕ) → s ≡ 36 ∷ 128 ∷ m
    → OnePieces m ps → PiecesView s qs → ps ≡ qs
one_after_indefinite m n one (view_nothing e z) = absurd (cc)
one_after_indefinite m n one (view_end more e h) = absurd (omega (arith, first_same (sym n ∙ e)))
one_after_indefinite m n one (view_definite i more small e h) =
    absurd (let rest : length_octets i ++ more ≡ 128 ∷ m = cc in length_definite i more m rest)
one_after_indefinite {qs = qs} m n one (view_indefinite more e h) =
    let same : m ≡ more = cc in one qs (subst (λ x. InPieces x qs) (sym same) h)
one_after_indefinite m n one (view_piece c more rs small e z h) =
    absurd (omega (arith, first_same (sym n ∙ e)))

one_piece : {s : List ℕ} {ps qs : List (List ℕ)} (d m : List ℕ)
    → s ≡ 4 ∷ (length_octets (length d) ++ (d ++ m)) → OnePieces m ps → PiecesView s qs
    → d ∷ ps ≡ qs
one_piece d m n one (view_nothing e z) = absurd (cc)
one_piece d m n one (view_end more e h) = absurd (omega (arith, first_same (sym n ∙ e)))
one_piece d m n one (view_definite i more small e h) =
    absurd (omega (arith, first_same (sym n ∙ e)))
one_piece d m n one (view_indefinite more e h) = absurd (omega (arith, first_same (sym n ∙ e)))
one_piece {ps = ps} d m n one (view_piece c more rs small e z h) =
    let rest : length_octets (length d) ++ (d ++ m) ≡ length_octets (length c) ++ (c ++ more) =
    cc in
    let front = length_front (length d) (length c) (d ++ m) (c ++ more) rest in
    let same = same_length_front d c m more front.0 front.1 in
    let others : ps ≡ rs = one rs (subst (λ x. InPieces x rs) (sym same.1) h) in
    ap (λ x. x ∷ ps) same.0 ∙ ap (λ x. c ∷ x) others ∙ sym z

-- contents have one list of pieces
pub one_pieces : {s : List ℕ} {ps qs : List (List ℕ)} → InPieces s ps → InPieces s qs → ps ≡ qs
one_pieces nothing g = one_nothing refl (pieces_view g)
one_pieces (after_end {more =
    m} f) g = one_after_end m refl (λ qs h. one_pieces f h) (pieces_view g)
one_pieces (after_definite {more =
    m} k few f) g = one_after_definite k m refl (λ qs h. one_pieces f h) (pieces_view g)
one_pieces (after_indefinite {more =
    m} f) g = one_after_indefinite m refl (λ qs h. one_pieces f h) (pieces_view g)
one_pieces (piece {more =
    m} d few f) g = one_piece d m refl (λ qs h. one_pieces f h) (pieces_view g)

pub same_pieces : (segmented : Bool) (s : List ℕ) {ps qs : List (List ℕ)} → ArePieces segmented s ps
    → ArePieces segmented s qs → ps ≡ qs
same_pieces false s e f = e ∙ sym f
same_pieces true s e f = one_pieces e f

-- the identifier octets of an OCTET STRING with the constructed bit
segments_identifier : {id : List ℕ} → IsIdentifier Ber id OctetString true → id ≡ 36 ∷ []
segments_identifier d = go d refl refl
  where
    go : {id : List ℕ} {t : Tag} {b : Bool} → IsIdentifier Ber id t b → t ≡ OctetString → b ≡ true
        → id ≡ 36 ∷ []
    go (of_tag {t =
        t} h) same set = absurd (let no : false ≡ true = ap (λ x. (label x).constructed) (sym same)
        ∙ set in cc)
    go of_segments same set = refl

pub joined_before : {levels : ℕ} {s out : List ℕ} → Joined OctetString levels s out
    → (b : List ℕ) (qs : List (List ℕ)) → InPieces b qs
    → (all : List (List ℕ)) × InPieces (s ++ b) all × (joined_pieces all ≡ out ++ joined_pieces qs)
joined_before none b qs h = (qs, h, refl)
joined_before (segment {more = m} {out = o} c bit small j) b qs h =
    let r = joined_before j b qs h in
    let same : 4 ∷ (length_octets (length c) ++ (c ++ (m ++ b)))
    ≡ (element_octets OctetString c ++ m) ++ b =
    ap (λ x. 4 ∷ x) (sym (append_assoc (length_octets (length c)) c (m ++ b))
    ∙ sym (append_assoc (length_octets (length c) ++ c) m b)) in (
      c ∷ r.0,
      subst (λ x. InPieces x (c ∷ r.0)) same (piece c small r.1),
      ap (λ x. c ++ x) r.2
          ∙ sym (append_assoc c o (joined_pieces qs)),
    )
joined_before (definite_segments {id =
    id} {more = m} {within = w} {out = o} c d small into j) b qs h =
    let r = joined_before j b qs h in
    let t = joined_before into (m ++ b) r.0 r.1 in
    let l = length_octets (length c) in
    let same : 36 ∷ (l ++ (c ++ (m ++ b))) ≡ ((id ++ (l ++ c)) ++ m) ++ b =
    ap (λ x. 36 ∷ x) (sym (append_assoc l c (m ++ b)) ∙ sym (append_assoc (l ++ c) m b))
    ∙ ap (λ x. ((x ++ (l ++ c)) ++ m) ++ b) (sym (segments_identifier d)) in (
      t.0,
      subst (λ x. InPieces x t.0) same (after_definite (length c) small t.1),
      t.2
          ∙ ap (λ x. w ++ x) r.2 ∙ sym (append_assoc w o (joined_pieces qs)),
    )
joined_before (indefinite_segments {id =
    id} {more = m} {within = w} {out = o} c d body into j) b qs h =
    let r = joined_before j b qs h in
    let t = joined_before into (0 ∷ 0 ∷ (m ++ b)) r.0 (after_end r.1) in
    let eoc = c ++ 0 ∷ 0 ∷ [] in
    let same : 36 ∷ 128 ∷ (c ++ (0 ∷ 0 ∷ (m ++ b))) ≡ ((id ++ 128 ∷ eoc) ++ m) ++ b =
    ap (λ x. 36 ∷ 128 ∷ x) (sym (append_assoc c (0 ∷ 0 ∷ []) (m ++ b)) ∙ sym (append_assoc eoc m b))
    ∙ ap (λ x. ((x ++ 128 ∷ eoc) ++ m) ++ b) (sym (segments_identifier d)) in (
      t.0,
      subst (λ x. InPieces x t.0) same (after_indefinite t.1),
      t.2 ∙ ap (λ x. w ++ x) r.2
          ∙ sym (append_assoc w o (joined_pieces qs)),
    )

-- segments that are joined have pieces, which are joined to the same octets
pub pieces_of_joined : {levels : ℕ} {s out : List ℕ} → Joined OctetString levels s out
    → (all : List (List ℕ)) × InPieces s all × (joined_pieces all ≡ out)
pieces_of_joined {s = s} {out = out} j =
    let r = joined_before j [] [] nothing in
    (r.0, subst (λ x. InPieces x r.0) (append-nil s) r.1, r.2 ∙ append-nil out)

-- two lists of pieces are the same in one way at most
pub pieces_prop : (ps qs : List (List ℕ)) (p q : ps ≡ qs) → p ≡ q
pieces_prop ps qs = Coded-set (coded_list (coded_list coded_ℕ)) ps qs

-- pieces that contents have
abbrev pub Found : Bool → List ℕ → Type 0
Found segmented octets = (ps : List (List ℕ)) × ∥ ArePieces segmented octets ps ∥₁

found_prop : (segmented : Bool) (octets : List ℕ) (f g : Found segmented octets) → f ≡ g
found_prop segmented octets f g =
    let same : f.0 ≡ g.0 =
    ∥∥₁_elim f.1 (pieces_prop f.0 g.0) (λ p. ∥∥₁_elim g.1
    (pieces_prop f.0 g.0) (λ q. same_pieces segmented octets p q)) in
    Σ_prop_path (λ ps. ∥∥₁_prop) same

-- the pieces of contents of which only is known that they have some
pub pieces_in : {segmented : Bool} {octets : List ℕ} → ∥ HasPieces segmented octets ∥₁
    → Found segmented octets
pieces_in {segmented} {octets} t =
    ∥∥₁_elim t (found_prop segmented octets) (λ h. (h.pieces, ∣ h.are_pieces ∣₁))

pub pieces_in_are : {segmented : Bool} {octets : List ℕ} (t : ∥ HasPieces segmented octets ∥₁)
    {ps : List (List ℕ)}
    → ArePieces segmented octets ps → (pieces_in t).0 ≡ ps
pieces_in_are {segmented} {octets} t {ps} p =
    ∥∥₁_elim (pieces_in t).1 (pieces_prop (pieces_in t).0 ps)
    (λ q. same_pieces segmented octets q p)

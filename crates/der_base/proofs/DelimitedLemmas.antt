-- Concatenated octets of tags, lengths, headers and elements can be separated.
use Rattle.std.proofs.Common.{◌≡◌, ◌≢◌, ℕ, ◌≤◌, List, [], ◌∷◌, ◌++◌, length, sym, ap, ◌∙◌, subst, append_assoc, arith}
use Rattle.std.specs.Ordering.{ordering_then}
use Rattle.der_base.specs.HeaderGrammar.{Head, header_octets}
use Rattle.der_base.specs.Length.{number, length_octets}
use Rattle.der_base.specs.Order.{byte_order, AreApart, AreDelimited}
use Rattle.der_base.specs.Tag.{tag_octets}
use Rattle.der_base.specs.declared.length.Length.{Length}
use Rattle.der_base.specs.declared.tag.Tag.{Tag}
use Rattle.der_base.proofs.DigitLemmas.{same_length_front}
use Rattle.der_base.proofs.HeaderLemmas.{header_front}
use Rattle.der_base.proofs.LengthLemmas.{length_front, length_octets_some}
use Rattle.der_base.proofs.OrderLemmas.{order_parts, then_unequal, same_octets}
use Rattle.der_base.proofs.TagLemmas.{tag_front, tag_begins}

-- no header is a proper prefix of another
header_apart : (t u : Tag) (m n : ℕ) → AreApart (header_octets t m) (header_octets u n)
header_apart t u m n x y e =
    let f = header_front t u m n x y e in
    ap (λ v. header_octets v m) f.0 ∙ ap (header_octets u) f.1

-- no encoded element is a proper prefix of another
pub element_front : (t u : Tag) (c d x y : List ℕ)
    → (header_octets t (length c) ++ c) ++ x ≡ (header_octets u (length d) ++ d) ++ y
    → (t ≡ u) × (c ≡ d) × (x ≡ y)
element_front t u c d x y e =
    let one = header_front t u (length c) (length d) (c ++ x) (d ++ y) (sym (append_assoc (header_octets t (length c)) c x) ∙ e ∙ append_assoc (header_octets u (length d)) d y) in
    let two = same_length_front c d x y one.1 one.2 in
    (one.0, two.0, two.1)

element_apart : (t u : Tag) (c d : List ℕ) → AreApart (header_octets t (length c) ++ c) (header_octets u (length d) ++ d)
element_apart t u c d x y e =
    let f = element_front t u c d x y e in
    ap (λ v. header_octets v (length c) ++ c) f.0 ∙ ap (λ b. header_octets u (length b) ++ b) f.1

-- elements compare by their headers, then by their contents
pub element_parts : (t u : Tag) (c d : List ℕ)
    → byte_order (header_octets t (length c) ++ c) (header_octets u (length d) ++ d)
    ≡ ordering_then (byte_order (header_octets t (length c)) (header_octets u (length d))) (byte_order c d)
element_parts t u c d = order_parts (header_octets t (length c)) (header_octets u (length d)) c d (header_apart t u (length c) (length d))

-- what follows two different lists that are apart does not affect the comparison
pub fronts_alone : (a b x y : List ℕ) → AreApart a b → a ≢ b → byte_order (a ++ x) (b ++ y) ≡ byte_order a b
fronts_alone a b x y h different =
    order_parts a b x y h ∙ then_unequal (byte_order a b) (byte_order x y) (λ e. different (same_octets a b e))

pub elements_decide : (t u : Tag) (c d x y : List ℕ)
    → header_octets t (length c) ++ c ≢ header_octets u (length d) ++ d
    → byte_order ((header_octets t (length c) ++ c) ++ x) ((header_octets u (length d) ++ d) ++ y)
    ≡ byte_order (header_octets t (length c) ++ c) (header_octets u (length d) ++ d)
elements_decide t u c d x y = fronts_alone (header_octets t (length c) ++ c) (header_octets u (length d) ++ d) x y (element_apart t u c d)

tag_some : (t : Tag) → 1 ≤ length (tag_octets t)
tag_some t = let b = tag_begins t in subst (λ l. 1 ≤ length l) (sym b.2) (omega arith)

some_first : (a b : List ℕ) → 1 ≤ length a → a ++ b ≢ []
some_first [] b h e = omega arith
some_first (o ∷ a) b h e = cc

not_empty : (a : List ℕ) → 1 ≤ length a → a ≢ []
not_empty [] h e = omega arith
not_empty (o ∷ a) h e = cc

pub tags_delimited : AreDelimited tag_octets
tags_delimited = record {
  apart = λ t u x y e. ap tag_octets (tag_front t u x y e).0;
  some = λ t. not_empty (tag_octets t) (tag_some t);
}

pub lengths_delimited : AreDelimited (λ (l : Length). length_octets (number l))
lengths_delimited = record {
  apart = λ l k x y e. ap length_octets (length_front (number l) (number k) x y e).0;
  some = λ l. not_empty (length_octets (number l)) (length_octets_some (number l));
}

pub headers_delimited : {A : Type 0} (head_of : A → Head) → AreDelimited (λ (h : A). header_octets (head_of h).tag (number (head_of h).length))
headers_delimited head_of = record {
  apart = λ h g. header_apart (head_of h).tag (head_of g).tag (number (head_of h).length) (number (head_of g).length);
  some = λ h. some_first (tag_octets (head_of h).tag) (length_octets (number (head_of h).length)) (tag_some (head_of h).tag);
}

pub elements_delimited : {A : Type 0} (tag_of : A → Tag) (contents : A → List ℕ)
    → AreDelimited (λ (v : A). header_octets (tag_of v) (length (contents v)) ++ contents v)
elements_delimited tag_of contents = record {
  apart = λ v w. element_apart (tag_of v) (tag_of w) (contents v) (contents w);
  some = λ v e. some_first (tag_octets (tag_of v)) (length_octets (length (contents v)) ++ contents v) (tag_some (tag_of v)) (sym (append_assoc (tag_octets (tag_of v)) (length_octets (length (contents v))) (contents v)) ∙ e);
}

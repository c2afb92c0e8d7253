-- The derived equality of headers.
use Rattle.std.proofs.Common.{◌≡◌, ◌↔◌, Bool, true, ◌&&◌, IsTrue, refl, sym, ap, ◌∙◌, subst, rules}
use Rattle.std.specs.Cmp.{first_so, second_so}
use Rattle.der_base.specs.contracts.tag.TagPartialEq.TheImpl as tag
use Rattle.der_base.specs.declared.tag.Tag.{Tag}
use Rattle.der_core.specs.contracts.header.HeaderPartialEq.TheImpl as header
use Rattle.der_base.specs.HeaderGrammar.{Head, head}
use Rattle.der_base.specs.contracts.length.LengthPartialEq.TheImpl as length
use Rattle.der_base.specs.declared.length.Length.{Length}
use Rattle.std.specs.contracts.prelude.BoolPartialEq.TheImpl as bool
use Rattle.der_core.specs.Header.{head_of}
use Rattle.der_core.specs.declared.header.Header.{Header}
use Rattle.der_base.proofs.EqualityLemmas.{tag_equality}

tag_same : (s t : Tag) → tag.ghosts.eq s t ≡ true → s ≡ t
tag_same s t e = (tag_equality s t).0 e

same_tag : (t : Tag) → tag.ghosts.eq t t ≡ true
same_tag t = (tag_equality t t).1 refl

length_same : (a b : Length) → length.ghosts.eq a b ≡ true → a ≡ b
length_same a b e = search rules

same_length : (a : Length) → length.ghosts.eq a a ≡ true
same_length a = search rules

bit_same : (a b : Bool) → bool.ghosts.eq a b ≡ true → a ≡ b
bit_same a b e = search rules

same_bit : (a : Bool) → bool.ghosts.eq a a ≡ true
same_bit a = search rules

fields_equal : (x y z : Bool) → x ≡ true → y ≡ true → z ≡ true → (x && (y && z)) ≡ true
fields_equal x y z p q r = rw (p, q, r) refl

header_same : (a b : Header) → header.ghosts.eq a b ≡ true → head_of a ≡ head_of b
header_same a b e =
    let more = second_so (tag.ghosts.eq a.tag b.tag) (length.ghosts.eq a.length b.length && bool.ghosts.eq a.constructed b.constructed) e in
    let t : a.tag ≡ b.tag = tag_same a.tag b.tag (first_so _ _ e) in
    let l : a.length ≡ b.length = length_same a.length b.length (first_so _ _ more) in
    let bit : a.constructed ≡ b.constructed = bit_same a.constructed b.constructed (second_so (length.ghosts.eq a.length b.length) _ more) in
    let same : head a.tag a.length a.constructed ≡ head b.tag b.length b.constructed = cc in
    same

same_header : (a b : Header) → head_of a ≡ head_of b → header.ghosts.eq a b ≡ true
same_header a b e =
    fields_equal (tag.ghosts.eq a.tag b.tag) (length.ghosts.eq a.length b.length) (bool.ghosts.eq a.constructed b.constructed)
    (subst (λ u. tag.ghosts.eq a.tag u ≡ true) (ap (λ (h : Head). h.tag) e) (same_tag a.tag))
    (subst (λ u. length.ghosts.eq a.length u ≡ true) (ap (λ (h : Head). h.length) e) (same_length a.length))
    (subst (λ u. bool.ghosts.eq a.constructed u ≡ true) (ap (λ (h : Head). h.constructed) e) (same_bit a.constructed))

-- two headers compare equal exactly if their contents are equal
pub headers_equal : (a b : Header) (reported : Bool) → reported ≡ header.ghosts.eq a b → IsTrue reported ↔ (head_of a ≡ head_of b)
headers_equal a b reported e = (λ is. header_same a b (sym e ∙ is), λ same. e ∙ same_header a b same)

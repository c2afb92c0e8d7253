-- An element begins with its tag.
use Rattle.std.proofs.Common.{◌≡◌, ℕ, List, length, sym, subst}
use Rattle.der.specs.Prelude.{Head, HeadNext, Tag, EncodingRules, ElementNext}
use Rattle.der.specs.HeaderGrammar.{IdentifierNext, identifier}
use Rattle.der_base.proofs.HeaderLemmas.{HeaderView, header_view_of, header_view}
use Rattle.der_asn1.specs.AnyElement.{AnyElementNext}
use Rattle.der_asn1.specs.Follow.{TagIn, this_tag, any_tag}

pub header_begins : {rules : EncodingRules} {octets : List ℕ} {h : Head} {m : ℕ} (tag : Tag)
    → HeadNext h rules octets m → h.tag ≡ tag → TagIn (this_tag tag) rules octets
header_begins {rules} {octets} {h} {m} tag next tagged = go (header_view next)
  where
    go : HeaderView h rules octets m → TagIn (this_tag tag) rules octets
    go (header_view_of id more d la ok e c) =
        record {
          tag = h.tag;
          count = length id;
          next = (
            h.constructed,
            subst (λ x. IdentifierNext (h.tag, h.constructed) rules x (length id)) (sym e)
                (identifier more d),
          );
          among = tagged;
        }

pub element_begins : {A : Type 0} {tag : Tag} {takes : A → EncodingRules → Head → List ℕ → Type 0}
    {v : A} {rules : EncodingRules} {octets : List ℕ} {m : ℕ}
    → ElementNext tag takes v rules octets m → TagIn (this_tag tag) rules octets
element_begins {tag = tag} e = header_begins tag e.next e.tagged

pub any_element_begins : {A : Type 0} {takes : A → EncodingRules → Head → List ℕ → Type 0} {v : A}
    {rules : EncodingRules} {octets : List ℕ} {m : ℕ} → AnyElementNext takes v rules octets m
    → TagIn any_tag rules octets
any_element_begins e =
    let b = element_begins e.element in
    record { tag = b.tag; count = b.count; next = b.next; among = tt }

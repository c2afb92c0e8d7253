-- Lemmas on the contents of the items of an enumeration.
use Rattle.std.proofs.Common.{◌≡◌, ℕ, ◌^◌, ◌&&◌, List, Option, is_some, true, false, ap, sym, ◌∙◌}
use Rattle.der_asn1.specs.Enumeration.{item_form}
use Rattle.der_asn1.specs.Integer.{integer_octets, magnitude, unsigned_form}
use Rattle.der_asn1.proofs.IntegerReadLemmas.{made_number}

-- the contents of a number are those of an item, if the number is that of an item
pub item_form-octets : {A : Type 0} (item_of : ℕ → Option A) (n : ℕ) (octets : List ℕ) → unsigned_form (2 ^ 32) octets ≡ true → integer_octets false n ≡ octets → item_form item_of octets ≡ is_some (item_of n)
item_form-octets item_of n octets grammar same =
    ap (λ b. b && is_some (item_of (magnitude octets))) grammar ∙ ap (λ k. is_some (item_of k)) (ap magnitude (sym same) ∙ made_number false n)

-- Elements of lawful types as items of lists (`IsLawfulItem`), such as SEQUENCEs.
use Rattle.std.proofs.Common.{◌≡◌, ℕ, ◌≤◌, Bool, false, List, refl}
use Rattle.der.specs.Prelude.{Head, Tag, EncodingRules, Der, ElementNext, IsLawful}
use Rattle.der.specs.Prelude.{element_octets, element_levels}
use Rattle.der_asn1.specs.Item.{DecodesItems, IsItem, ItemSpec, decodes_same, element_is_item}
use Rattle.der_asn1.specs.Item.{element_item}

-- an element of a lawful type as an item: the item is read and written as the element is, valid
-- items can be written, decoding does not allocate, and an element around it can be entered
pub record IsLawfulItem {A : Type 0} (tag : Tag)
    (takes : A → EncodingRules → Head → List ℕ → Type 0) (contents : A → List ℕ)
    (writable : A → Type 0) (levels : EncodingRules → ℕ) (allocates : Bool) (item : ItemSpec A)
    : Type 0 where
  pub is_item : IsItem item
  pub decodes : DecodesItems (ElementNext tag takes) (element_levels levels) allocates item
  pub borrowed : item.allocates ≡ false
  pub written : (v : A) → element_octets tag (contents v) ≡ item.octets v
  pub writes_valid : (v : A) → item.valid v → writable v
  pub shallow : levels Der ≤ 62

pub lawful_element_item : {A : Type 0} {tag : Tag}
    {takes : A → EncodingRules → Head → List ℕ → Type 0} {valid : A → Type 0}
    {contents : A → List ℕ} {levels : EncodingRules → ℕ}
    → IsLawful tag takes valid contents levels → levels Der ≤ 62
    → IsLawfulItem tag takes contents valid levels false
    (element_item tag takes valid contents levels false)
lawful_element_item {tag = tag} {takes = takes} {valid = valid} {contents = contents}
    {levels = levels} lawful low =
    record {
      is_item = element_is_item lawful false;
      decodes = decodes_same (element_item tag takes valid contents levels false);
      borrowed = refl;
      written = λ v. refl;
      writes_valid = λ v is. is;
      shallow = low;
    }

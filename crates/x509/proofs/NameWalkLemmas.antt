-- Lemmas on a walk over the attributes of a name.
use Rattle.std.proofs.Common.{◌≡◌, ℕ, ◌+◌, ◌≤◌, List, [], ◌∷◌, ◌++◌, length, refl, sym, ap, subst, ◌∙◌, arith, length-append}
use Rattle.der_asn1.specs.SequenceOf.{IsListOf}
use Rattle.x509.specs.Names.{HasLeft}
use Rattle.x509.specs.declared.asn1.attribute_type_and_value.AttributeTypeAndValue.{AttributeTypeAndValue}
use Rattle.x509.specs.declared.asn1.relative_distinguished_name.RelativeDistinguishedName.{RelativeDistinguishedName}

-- what is left at the second place is left at the first, and is not longer
pub record IsMoving (Left : List ℕ → List ℕ → List AttributeTypeAndValue → Type 0) (first levels first' levels' : List ℕ) : Type 0 where
  pub back : (attributes : List AttributeTypeAndValue) → Left first' levels' attributes → Left first levels attributes
  pub shorter : length first' + length levels' ≤ length first + length levels

pub begins_moving : {Left : List ℕ → List ℕ → List AttributeTypeAndValue → Type 0} (first levels : List ℕ) → IsMoving Left first levels first levels
begins_moving first levels = record { back = λ attributes h. h; shorter = omega arith }

abbrev no_items : {A : Type 0} {P : A → Type 0} {f : A → List ℕ} → IsListOf P f []
no_items = record { items = []; are_valid = tt; joined = refl }

module _ {valid : AttributeTypeAndValue → Type 0} {encoding : AttributeTypeAndValue → List ℕ} {is_level : RelativeDistinguishedName → Type 0} {level : RelativeDistinguishedName → List ℕ} where
  -- nothing is left
  pub none_left : {first levels first' levels' : List ℕ} → IsMoving (HasLeft valid encoding is_level level) first levels first' levels' → first' ≡ [] → levels' ≡ [] → HasLeft valid encoding is_level level first levels []
  none_left {first' = first'} {levels'} moving none nothing =
      moving.back []
      (subst (λ x. HasLeft valid encoding is_level level x levels' []) (sym none) (subst (λ x. HasLeft valid encoding is_level level [] x []) (sym nothing)
      (record { of_level = no_items; of_levels = no_items; others = []; all = refl; joined = refl })))

  -- the next attribute of a level
  pub one_more : {first levels first' levels' : List ℕ} (a : AttributeTypeAndValue) (after : List ℕ) → IsMoving (HasLeft valid encoding is_level level) first levels first' levels' → valid a → first' ≡ encoding a ++ after
      → (attributes : List AttributeTypeAndValue) → HasLeft valid encoding is_level level after levels' attributes → HasLeft valid encoding is_level level first levels (a ∷ attributes)
  one_more {levels' = levels'} a after moving is split attributes h =
      moving.back (a ∷ attributes)
      (record {
        of_level = record { items = a ∷ h.of_level.items; are_valid = (is, h.of_level.are_valid); joined = split ∙ ap (λ x. encoding a ++ x) h.of_level.joined };
        of_levels = h.of_levels;
        others = h.others;
        all = h.all;
        joined = ap (λ x. a ∷ x) h.joined;
      })

  -- the next level
  pub next_level : {first levels first' levels' : List ℕ} (r : RelativeDistinguishedName) (start after : List ℕ) → ((q : RelativeDistinguishedName) → length q.attributes.elements.octets.now ≤ length (level q))
      → IsMoving (HasLeft valid encoding is_level level) first levels first' levels' → first' ≡ [] → is_level r → levels' ≡ level r ++ after → start ≡ r.attributes.elements.octets.now
      → IsMoving (HasLeft valid encoding is_level level) first levels start after
  next_level {first' = first'} {levels'} r start after size moving none is split begins =
      record {
        back = λ attributes h. moving.back attributes
            (subst (λ x. HasLeft valid encoding is_level level x levels' attributes) (sym none) (whole attributes (subst (λ x. HasLeft valid encoding is_level level x after attributes) begins h)));
        shorter = omega (arith, moving.shorter, ap length split, length-append (level r) after, size r, ap length begins);
      }
    where
      whole : (attributes : List AttributeTypeAndValue) → HasLeft valid encoding is_level level r.attributes.elements.octets.now after attributes → HasLeft valid encoding is_level level [] levels' attributes
      whole attributes h =
          record {
            of_level = no_items;
            of_levels = record { items = r ∷ h.of_levels.items; are_valid = (is, h.of_levels.are_valid); joined = split ∙ ap (λ x. level r ++ x) h.of_levels.joined };
            others = attributes;
            all = (h.of_level, h.others, h.all, h.joined);
            joined = refl;
          }

-- Lemmas on reading elements in ascending order.
use Rattle.std.proofs.Common.{◌≡◌, ◌≤◌, ◌+◌, take, drop, length-append, length-drop, ℕ, ◌<◌, ◌-◌, List, [], ◌∷◌, ◌++◌, length, refl, sym, ap, subst, ◌∙◌, arith}
use Rattle.std.proofs.lemmas.List.{drop_at, take_all, take_at}
use Rattle.der.specs.ReaderState.{IsSound}
use Rattle.der.proofs.StateLemmas.{length-rest}
use Rattle.der.specs.Prelude.{element_octets, IsBefore, ReaderState, rest_of, Reads}
use Rattle.der.proofs.DelimitedLemmas.{elements_delimited}
use Rattle.der_asn1.specs.SequenceOf.{IsAtItem, AllValid, joined_encodings}
use Rattle.der_asn1.specs.Item.{IsElement}
use Rattle.der_asn1.specs.SetOf.{EncodingsAscendAfter, IsSetAfter, IsEncoded, AreAscending}
use Rattle.der_asn1.proofs.SequenceOfLemmas.{item_progresses, same_front, still_at_item}
use Rattle.der_asn1.proofs.OptionalReadLemmas.{rest_at_end}

no_front : (a b : List ℕ) → a ++ b ≡ [] → a ≡ []
no_front [] b e = refl
no_front (o ∷ a) b e = absurd (let size : length (o ∷ (a ++ b)) ≡ 0 = ap length e in omega arith)

-- one element is not empty
no_element : (octets following : List ℕ) → IsElement octets → octets ++ following ≡ [] → ⊥
no_element octets following is e =
    let none : element_octets is.tag is.contents ≡ [] = sym is.whole ∙ no_front octets following e in
    (elements_delimited (λ (c : List ℕ). is.tag) (λ c. c)).some is.contents none

-- the first item of a set, and the rest
pub record IsStep {A : Type 0} (valid : A → Type 0) (encoding : A → List ℕ) (previous element following : List ℕ) : Type 0 where
  pub in_order : IsBefore element previous → ⊥
  pub after_it : IsSetAfter valid encoding element following

-- the state of an iteration over a set, after an item
pub record IsSetWalk {A : Type 0} (valid : A → Type 0) (encoding : A → List ℕ) (octets previous : List ℕ) (s : ReaderState) : Type 0 where
  pub at : IsAtItem s
  pub back : IsSetAfter valid encoding previous (rest_of s) → AreAscending valid encoding octets
  pub on : AreAscending valid encoding octets → IsSetAfter valid encoding previous (rest_of s)

pub set_walk_begins : {A : Type 0} (valid : A → Type 0) (encoding : A → List ℕ) (s : ReaderState) → IsAtItem s → IsSetWalk valid encoding (rest_of s) [] s
set_walk_begins valid encoding s at = record { at = at; back = λ l. l; on = λ l. l }

module _ {A : Type 0} {valid : A → Type 0} {encoding : A → List ℕ} (element_of : (v : A) → valid v → IsElement (encoding v)) where
  is_element : {octets : List ℕ} → IsEncoded valid encoding octets → IsElement octets
  is_element is =
      let e = element_of is.value is.is_valid in
      record { tag = e.tag; contents = e.contents; whole = is.whole ∙ e.whole }

  set_step : (previous octets element following : List ℕ) → IsSetAfter valid encoding previous octets → IsEncoded valid encoding element → octets ≡ element ++ following → IsStep valid encoding previous element following
  set_step previous octets element following s is split = go s.list.items s.list.are_valid s.list.joined s.ascend
    where
      go : (items : List A) → AllValid valid items → octets ≡ joined_encodings encoding items → EncodingsAscendAfter encoding previous items → IsStep valid encoding previous element following
      go [] are e up = absurd (no_element element following (is_element is) (sym split ∙ e))
      go (w ∷ ws) are e up =
          let front = same_front element (encoding w) following (joined_encodings encoding ws) (is_element is) (element_of w are.0) (sym split ∙ e) in
          record {
            in_order = subst (λ x. IsBefore x previous → ⊥) (sym front.0) up.0;
            after_it = record { list = record { items = ws; are_valid = are.1; joined = front.1 }; ascend = subst (λ x. EncodingsAscendAfter encoding x ws) (sym front.0) up.1 };
          }

  set_cons : (previous octets element following : List ℕ) → IsEncoded valid encoding element → octets ≡ element ++ following → (IsBefore element previous → ⊥) → IsSetAfter valid encoding element following → IsSetAfter valid encoding previous octets
  set_cons previous octets element following is split order s =
      record {
        list = record { items = is.value ∷ s.list.items; are_valid = (is.is_valid, s.list.are_valid); joined = split ∙ ap (λ x. x ++ following) is.whole ∙ ap (λ x. encoding is.value ++ x) s.list.joined };
        ascend = (subst (λ x. IsBefore x previous → ⊥) is.whole order, subst (λ x. EncodingsAscendAfter encoding x s.list.items) is.whole s.ascend);
      }

  pub set_walk_on : (octets previous element : List ℕ) (s t : ReaderState) → IsSetWalk valid encoding octets previous s → IsEncoded valid encoding element → Reads s t element → (IsBefore element previous → ⊥) → IsSetWalk valid encoding octets element t
  set_walk_on octets previous element s t w is r order =
      record {
        at = still_at_item w.at r;
        back = λ b. w.back (set_cons previous (rest_of s) element (rest_of t) is r.split order b);
        on = λ a. (set_step previous (rest_of s) element (rest_of t) (w.on a) is r.split).after_it;
      }

  pub set_walk_ends : (octets previous : List ℕ) (s : ReaderState) → IsSetWalk valid encoding octets previous s → s.end ≡ s.position → AreAscending valid encoding octets
  set_walk_ends octets previous s w e = w.back (record { list = record { items = []; are_valid = tt; joined = rest_at_end s e }; ascend = tt })

  -- an item that is smaller than the one before it does not occur in a set
  pub set_walk_stops : (octets previous element : List ℕ) (s t : ReaderState) → IsSetWalk valid encoding octets previous s → IsEncoded valid encoding element → Reads s t element → IsBefore element previous → AreAscending valid encoding octets → ⊥
  set_walk_stops octets previous element s t w is r before a = (set_step previous (rest_of s) element (rest_of t) (w.on a) is r.split).in_order before

  pub encoded_progresses : (s t : ReaderState) (octets : List ℕ) → IsEncoded valid encoding octets → Reads s t octets → s.position < t.position
  encoded_progresses s t octets is r = item_progresses s t octets (is_element is) r

-- the first octets of the rest of a reader, up to those that are left after reading some
pub read_front : (s t : ReaderState) (octets : List ℕ) → IsSound t → Reads s t octets → take (length (rest_of s) - (t.end - t.position)) (rest_of s) ≡ octets
read_front s t octets sound r =
    let left : length (rest_of t) ≡ t.end - t.position = length-rest t sound in
    let sum : length (rest_of s) ≡ length octets + length (rest_of t) = ap length r.split ∙ length-append octets (rest_of t) in
    ap (λ n. take n (rest_of s)) (omega (arith, left, sum)) ∙ ap (take (length octets)) r.split ∙ take_at octets (rest_of t) (length octets) refl

pub left_within : (s t : ReaderState) (octets : List ℕ) → IsSound t → Reads s t octets → t.end - t.position ≤ length (rest_of s)
left_within s t octets sound r =
    let left : length (rest_of t) ≡ t.end - t.position = length-rest t sound in
    let sum : length (rest_of s) ≡ length octets + length (rest_of t) = ap length r.split ∙ length-append octets (rest_of t) in
    omega (arith, left, sum)

-- the slice after octets that were read
pub rest_after_item : (rest : List ℕ) (s t : ReaderState) (octets : List ℕ) → rest ≡ rest_of s → Reads s t octets → take (length rest - length octets) (drop (length octets) rest) ≡ rest_of t
rest_after_item rest s t octets same r =
    take_all (length rest - length octets) (drop (length octets) rest) (omega (arith, length-drop (length octets) rest))
    ∙ ap (drop (length octets)) (same ∙ r.split) ∙ drop_at octets (rest_of t) (length octets) refl

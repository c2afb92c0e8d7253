-- Lemmas on reading items in sequence.
use Rattle.std.proofs.Common.{◌≡◌, ℕ, ◌+◌, ◌<◌, ◌≤◌, Bool, true, false, Ok, Err, inl, inr, List, [], ◌∷◌, ◌++◌, length, refl, sym, ap, subst, ◌∙◌, nat_le, take, arith}
use Rattle.std.proofs.lemmas.Grind.{not_there}
use Rattle.std.proofs.lemmas.List.{take_all}
use Rattle.der.specs.Outcome.{Gives}
use Rattle.der.specs.Reader.{read_slice_outcome}
use Rattle.der.specs.Prelude.{Tag, EncodingRules, Der}
use Rattle.der.specs.Decode.{Passes, ReadsOrLacks, SucceedsOrLacks}
use Rattle.der.specs.Encode.{element_octets}
use Rattle.der.specs.ReaderState.{ReaderState, rest_of, initial_state, IsSound, Reads}
use Rattle.der.proofs.DecodeLemmas.{lacks_only, read_on, rest-beginning}
use Rattle.der.specs.LawfulLemmas.{passed_encodings}
use Rattle.der.proofs.StateLemmas.{length-rest}
use Rattle.der.specs.SliceReader.{slice_state}
use Rattle.der.specs.Prelude.{SliceReader}
use Rattle.der.proofs.DelimitedLemmas.{element_front, elements_delimited}
use Rattle.der_asn1.specs.Item.{DecodesItems, IsElement, IsItem, ItemSpec}
use Rattle.der_asn1.specs.SequenceOf.{IsListOf, IsAtItem, AllValid, joined_encodings}

-- a list that is not empty: its first element and the rest
pub record IsCons {A : Type 0} (valid : A → Type 0) (encoding : A → List ℕ) (octets : List ℕ) : Type 0 where
  pub first : A
  pub others : List ℕ
  pub is_valid : valid first
  pub split : octets ≡ encoding first ++ others
  pub list : IsListOf valid encoding others

pub uncons : {A : Type 0} {valid : A → Type 0} {encoding : A → List ℕ} {octets : List ℕ} → IsListOf valid encoding octets → (octets ≡ [] → ⊥) → IsCons valid encoding octets
uncons {A} {valid} {encoding} {octets} l some = go l.items l.are_valid l.joined
  where
    go : (items : List A) → AllValid valid items → octets ≡ joined_encodings encoding items → IsCons valid encoding octets
    go [] are e = absurd (some e)
    go (v ∷ vs) are e = record { first = v; others = joined_encodings encoding vs; is_valid = are.0; split = e; list = record { items = vs; are_valid = are.1; joined = refl } }

pub cons : {A : Type 0} {valid : A → Type 0} {encoding : A → List ℕ} (v : A) {octets others : List ℕ} → valid v → octets ≡ encoding v ++ others → IsListOf valid encoding others → IsListOf valid encoding octets
cons {encoding = encoding} v is e l = record { items = v ∷ l.items; are_valid = (is, l.are_valid); joined = e ∙ ap (λ x. encoding v ++ x) l.joined }

-- an element has at least one octet
element_some : (tag : Tag) (contents : List ℕ) → 1 ≤ length (element_octets tag contents)
element_some tag contents = go (element_octets tag contents) (λ e. (elements_delimited (λ (c : List ℕ). tag) (λ c. c)).some contents e)
  where
    go : (l : List ℕ) → (l ≡ [] → ⊥) → 1 ≤ length l
    go [] some = absurd (some refl)
    go (o ∷ l) some = omega arith

-- one element at the start of two divisions of the same octets
pub same_front : (a b x y : List ℕ) → IsElement a → IsElement b → a ++ x ≡ b ++ y → (a ≡ b) × (x ≡ y)
same_front a b x y one two e =
    let f = element_front one.tag two.tag one.contents two.contents x y (ap (λ z. z ++ x) (sym one.whole) ∙ e ∙ ap (λ z. z ++ y) two.whole) in
    (one.whole ∙ ap (λ z. element_octets z one.contents) f.0 ∙ ap (element_octets two.tag) f.1 ∙ sym two.whole, f.2)

module _ {A : Type 0} {Decoded : A → EncodingRules → List ℕ → ℕ → Type 0} {decoded_levels : EncodingRules → ℕ} {decoded_allocates : Bool} {item : ItemSpec A} (laws : IsItem item) (decodes : DecodesItems Decoded decoded_levels decoded_allocates item) (s : ReaderState) (sound : IsSound s) (at : IsAtItem s) where
  -- an item that was read
  pub item_passed : (v : A) (t : ReaderState) → Passes (Decoded v) s t → item.valid v × Reads s t (item.octets v)
  item_passed v t passed =
      passed_encodings laws.reads s t v at.der
      (record {
        octets = passed.octets;
        working = passed.working;
        next = subst (λ r. item.next v r (rest_of s) passed.octets) (sym at.der) (decodes.only v (rest_of s) passed.octets (subst (λ r. Decoded v r (rest_of s) passed.octets) at.der passed.next));
        there = passed.there;
        leaves = passed.leaves;
      })

  -- after the first item of a list is the rest of the list
  pub item_keeps : (v : A) (t : ReaderState) → item.valid v → Reads s t (item.octets v) → IsListOf item.valid item.octets (rest_of s) → (rest_of s ≡ [] → ⊥) → IsListOf item.valid item.octets (rest_of t)
  item_keeps v t is r l some =
      let first = uncons l some in
      let same = same_front (item.octets v) (item.octets first.first) (rest_of t) first.others (laws.element v is) (laws.element first.first first.is_valid) (sym r.split ∙ first.split) in
      subst (IsListOf item.valid item.octets) (sym same.1) first.list

  -- the item with which the octets begin is next
  module _ (w : A) (is : item.valid w) (others : List ℕ) (split : rest_of s ≡ item.octets w ++ others) where
    item_next : Decoded w s.rules (rest_of s) (length (item.octets w))
    item_next =
        subst (λ r. Decoded w r (rest_of s) (length (item.octets w))) (sym at.der)
        (decodes.every w (rest_of s) (length (item.octets w))
        (laws.reads.every (rest_of s) w (length (item.octets w)) (omega (arith, length-rest s sound, sound.in_input, sound.addressable)) (record { is_valid = is; following = others; split = split; whole = refl })))

    deep_enough : s.depth + decoded_levels s.rules ≤ 64
    deep_enough = omega (arith, laws.shallow, decodes.same_levels, at.outside, ap decoded_levels at.der)

    module _ {E : Type 0} (oom : E → Bool) (t : ReaderState) where
      -- the only possible error is an allocation failure
      pub first_lacks : (e : E) → ((v : A) (m : ℕ) → s.failed ≡ false → Decoded v s.rules (rest_of s) m → s.depth + decoded_levels s.rules ≤ 64 → ReadsOrLacks {A = A} oom decoded_allocates s m (Err e) t) → SucceedsOrLacks {A = A} oom item.allocates (Err e)
      first_lacks e owed = subst (λ b. SucceedsOrLacks {A = A} oom b (Err e)) decodes.same_memory (inr (lacks_only A oom s t _ (owed w (length (item.octets w)) at.working item_next deep_enough)))

      -- the reader has not failed
      pub first_working : (a : A) → ((v : A) (m : ℕ) → s.failed ≡ false → Decoded v s.rules (rest_of s) m → s.depth + decoded_levels s.rules ≤ 64 → ReadsOrLacks oom decoded_allocates s m (Ok a) t) → t.failed ≡ false
      first_working a owed =
          ap (λ (x : ReaderState). x.failed) (read_on E oom s (length (item.octets w)) a (owed w (length (item.octets w)) at.working item_next deep_enough)) ∙ at.working

pub slice_sound : (r : SliceReader) → IsSound (slice_state r)
slice_sound r = record { ordered = r.ordered; in_input = r.in_input; addressable = r.addressable; shallow = r.shallow; failure_kept = λ failed. refl }

-- after an element a reader is again at an element
pub still_at_item : {s t : ReaderState} {octets : List ℕ} → IsAtItem s → Reads s t octets → IsAtItem t
still_at_item at r =
    record {
      der = ap (λ (x : ReaderState). x.rules) r.state ∙ at.der;
      working = ap (λ (x : ReaderState). x.failed) r.state ∙ at.working;
      outside = ap (λ (x : ReaderState). x.depth) r.state ∙ at.outside;
    }

-- the state of an iteration over a list: the remaining octets are a list if and only if all octets
-- are
pub record IsWalking {A : Type 0} (valid : A → Type 0) (encoding : A → List ℕ) (octets : List ℕ) (s : ReaderState) : Type 0 where
  pub at : IsAtItem s
  pub back : IsListOf valid encoding (rest_of s) → IsListOf valid encoding octets
  pub on : IsListOf valid encoding octets → IsListOf valid encoding (rest_of s)

pub begins_walking : {A : Type 0} (valid : A → Type 0) (encoding : A → List ℕ) (s : ReaderState) → IsAtItem s → IsWalking valid encoding (rest_of s) s
begins_walking valid encoding s at = record { at = at; back = λ l. l; on = λ l. l }

-- a reader at the start of an input
pub starts_at_item : (octets : List ℕ) (s : ReaderState) → s ≡ initial_state Der octets → IsAtItem s
starts_at_item octets s e =
    record { der = ap (λ (x : ReaderState). x.rules) e; working = ap (λ (x : ReaderState). x.failed) e; outside = ap (λ (x : ReaderState). x.depth) e }

pub starts_before : (octets : List ℕ) (s : ReaderState) → s ≡ initial_state Der octets → rest_of s ≡ octets
starts_before octets s e = ap rest_of e ∙ rest-beginning Der octets

pub iterating_continues : {A : Type 0} {valid : A → Type 0} {encoding : A → List ℕ} {octets : List ℕ} {s t : ReaderState} (v : A) → IsWalking valid encoding octets s → valid v → Reads s t (encoding v)
    → (IsListOf valid encoding (rest_of s) → IsListOf valid encoding (rest_of t)) → IsWalking valid encoding octets t
iterating_continues v w is r keeps = record { at = still_at_item w.at r; back = λ l. w.back (cons v is r.split l); on = λ l. keeps (w.on l) }

-- an item takes up octets, so that a walk ends
pub item_progresses : (s t : ReaderState) (octets : List ℕ) → IsElement octets → Reads s t octets → s.position < t.position
item_progresses s t octets is r =
    let some : 1 ≤ length octets = subst (λ x. 1 ≤ length x) (sym is.whole) (element_some is.tag is.contents) in
    let there : t.position ≡ s.position + length octets = ap (λ (x : ReaderState). x.position) r.state in
    omega (arith, some, there)

-- an allocation failure occurs only for a type that allocates
pub lacks_takes : {E : Type 0} (oom : E → Bool) (takes : Bool) (e : E) → SucceedsOrLacks {A = E} oom takes (Err e) → (takes ≡ true) × (oom e ≡ true)
lacks_takes oom takes e (inl h) = absurd (let no : false ≡ true = h in cc)
lacks_takes oom takes e (inr h) = h

stable_true : (b : Bool) → ((b ≡ true → ⊥) → ⊥) → b ≡ true
stable_true true f = refl
stable_true false f = absurd (f (λ e. (cc)))

pub lacks_merely : {E P : Type 0} (oom : E → Bool) (takes : Bool) (e : E) → ∥ P ∥₁ → (P → SucceedsOrLacks {A = E} oom takes (Err e)) → (takes ≡ true) × (oom e ≡ true)
lacks_merely oom takes e t f =
    (stable_true takes (λ no. not_there t (λ p. no (lacks_takes oom takes e (f p)).0)), stable_true (oom e) (λ no. not_there t (λ p. no (lacks_takes oom takes e (f p)).1)))

-- a slice of all remaining octets
pub slice_is_rest : (n : ℕ) (s t : ReaderState) (octets : List ℕ) → Gives (read_slice_outcome n) s (Ok octets) t → length (rest_of s) ≡ n → octets ≡ rest_of s
slice_is_rest n s t octets g size = go s.failed refl (nat_le (s.position + n) s.end) refl
  where
    go : (f : Bool) → s.failed ≡ f → (b : Bool) → nat_le (s.position + n) s.end ≡ b → octets ≡ rest_of s
    go true e b h = absurd (let a = rw e at g.answered in cc)
    go false e false h = absurd (let a = rw (e, h) at g.answered in cc)
    go false e true h = let a : Ok octets ≡ Ok (take n (rest_of s)) = rw (e, h) at g.answered in let one : octets ≡ take n (rest_of s) = cc in one ∙ take_all n (rest_of s) (omega (arith, size))

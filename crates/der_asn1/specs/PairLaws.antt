-- The laws of two fields in sequence, from the checks of each (`pair_set`).
use Rattle.std.proofs.Common.{◌≡◌, ◌⊎◌, inl, inr, ℕ, ◌&&◌, ◌||◌, Bool, true, false, List, [], ◌++◌}
use Rattle.std.proofs.Common.{sym, subst, refl}
use Rattle.der.specs.Prelude.{Tag, EncodingRules, FieldsNext}
use Rattle.der_asn1.specs.Follow.{Starts, StartsIn, BothPrecede, either_tags}
use Rattle.der_asn1.specs.FollowLemmas.{starts_append, starts_wider}
use Rattle.der_asn1.specs.FieldLaws.{pair_laws, pair_laws_absent, seen_laws}
use Rattle.der_asn1.specs.SetLaws.{SetLaws, set_of, laws_of, pair_stops}
use Rattle.der_asn1.specs.TagSets.{TagGroup, IsIn, are_apart}
use Rattle.der_asn1.specs.TagSetLemmas.{both_true, sets_apart, in_either}

module _ {A B : Type 0} {a b : Bool} {first second one_stops two_stops : List TagGroup}
    {P : A → List ℕ → Type 0} {Q : B → List ℕ → Type 0}
    {First : A → EncodingRules → List ℕ → ℕ → Type 0}
    {Second : B → EncodingRules → List ℕ → ℕ → Type 0}
    {is_first : A → Type 0} {is_second : B → Type 0} {one_octets : A → List ℕ}
    {two_octets : B → List ℕ}
    (one : SetLaws a first one_stops P First is_first one_octets)
    (two : SetLaws b second two_stops Q Second is_second two_octets) where
  first_some : a ≡ true
      → Starts {A = A × B} (λ v. is_first v.0 × is_second v.1)
      (λ v. one_octets v.0 ++ two_octets v.1) (either_tags (IsIn first) (IsIn second))
  first_some e =
      record {
        starts = λ v is. starts_append (one_octets v.0) (two_octets v.1)
            (starts_wider (λ t h. inl h) ((one.some e).starts v.0 is.0));
      }

  second_some : b ≡ true
      → Starts {A = A × B} (λ v. is_first v.0 × is_second v.1)
      (λ v. one_octets v.0 ++ two_octets v.1) (either_tags (IsIn first) (IsIn second))
  second_some e = record { starts = λ v is. go v is (one.starts.starts v.0 is.0) }
    where
      go : (v : A × B) → is_first v.0 × is_second v.1 → (one_octets v.0 ≡ [])
          ⊎ StartsIn (IsIn first) (one_octets v.0)
          → StartsIn (either_tags (IsIn first) (IsIn second)) (one_octets v.0 ++ two_octets v.1)
      go v is (inl none) =
          subst (λ x. StartsIn (either_tags (IsIn first) (IsIn second)) (x ++ two_octets v.1))
          (sym none) (starts_wider (λ t h. inr h) ((two.some e).starts v.1 is.1))
      go v is (inr some) =
          starts_append (one_octets v.0) (two_octets v.1) (starts_wider (λ t h. inl h) some)

  pair_some : (c : Bool) → a ≡ c → (c || b) ≡ true
      → Starts {A = A × B} (λ v. is_first v.0 × is_second v.1)
      (λ v. one_octets v.0 ++ two_octets v.1) (either_tags (IsIn first) (IsIn second))
  pair_some true e f = first_some e
  pair_some false e f = second_some f

  both_in : (ts us : List TagGroup) (t : Tag) → either_tags (IsIn ts) (IsIn us) t
      → IsIn (ts ++ us) t
  both_in ts us t h = in_either ts us t h

  pair_go : are_apart one_stops second ≡ true → {C : Type 0} (f : C → A × B) (c : Bool) → b ≡ c
      → SetLaws (a || b) (first ++ second) (pair_stops c one_stops two_stops)
      (λ x. BothPrecede two_octets P Q (f x)) (λ x. FieldsNext First Second (f x))
      (λ x. is_first (f x).0 × is_second (f x).1) (λ x. one_octets (f x).0 ++ two_octets (f x).1)
  pair_go apart f true e =
      set_of (a || b) (first ++ second) two_stops
      (seen_laws f
      (pair_laws (laws_of one) (record { laws = laws_of two; some = two.some e })
      (sets_apart one_stops second apart)))
      (both_in first second) (λ t h. h)
      (λ g. (let s = pair_some a refl g in record { starts = λ x is. s.starts (f x) is }))
  pair_go apart f false e =
      set_of (a || b) (first ++ second) (one_stops ++ two_stops)
      (seen_laws f
      (pair_laws_absent (laws_of one) (laws_of two) (sets_apart one_stops second apart)))
      (both_in first second) (both_in one_stops two_stops)
      (λ g. (let s = pair_some a refl g in record { starts = λ x is. s.starts (f x) is }))

-- two fields have the laws if the checks of both succeed and the second may follow the first
pub pair_set : {A B C : Type 0} {a b one_fits two_fits : Bool}
    {first second one_stops two_stops : List TagGroup}
    {P : A → List ℕ → Type 0} {Q : B → List ℕ → Type 0}
    {First : A → EncodingRules → List ℕ → ℕ → Type 0}
    {Second : B → EncodingRules → List ℕ → ℕ → Type 0}
    {is_first : A → Type 0} {is_second : B → Type 0} {one_octets : A → List ℕ}
    {two_octets : B → List ℕ}
    (f : C → A × B) → (are_apart one_stops second && (one_fits && two_fits)) ≡ true
    → (one_fits ≡ true → SetLaws a first one_stops P First is_first one_octets)
    → (two_fits ≡ true → SetLaws b second two_stops Q Second is_second two_octets)
    → SetLaws (a || b) (first ++ second) (pair_stops b one_stops two_stops)
    (λ c. BothPrecede two_octets P Q (f c))
    (λ c. FieldsNext First Second (f c)) (λ c. is_first (f c).0 × is_second (f c).1)
    (λ c. one_octets (f c).0 ++ two_octets (f c).1)
pair_set {b = b} {one_fits} {two_fits} {second = second} {one_stops} f e one two =
    let p = both_true (are_apart one_stops second) (one_fits && two_fits) e in
    let q = both_true one_fits two_fits p.1 in
    pair_go (one q.0) (two q.1) p.0 f b refl

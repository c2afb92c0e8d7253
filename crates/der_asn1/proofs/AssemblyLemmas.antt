-- Lemmas on values that are written one after the other.
use Rattle.std.proofs.Common.{◌≡◌, ℕ, ◌+◌, ◌<◌, ◌≤◌, Bool, true, false, List, [], ◌∷◌, ◌++◌, length, get_or, take, drop, inl, inr, IsOk, Result, Ok, Err, refl, sym, ap, subst, ◌∙◌, arith, append-nil, append_assoc, length-append}
use Rattle.std.proofs.lemmas.List.{drop_all, drop_more, take_more, take-append-drop}
use Rattle.der.specs.Decode.{SucceedsOrLacks}
use Rattle.der.specs.Encode.{PlacesErrors}
use Rattle.der.specs.Prelude.{Error, WriterAnswer}
use Rattle.der.specs.Writer.{WriterState}
use Rattle.der_asn1.specs.SequenceOf.{AllValid, joined_encodings}
use Rattle.der_asn1.specs.Assembly.{ValuesWritten}

module _ {A : Type 0} (encoding : A → List ℕ) where
  pub joined-append : (vs ws : List A) → joined_encodings encoding (vs ++ ws) ≡ joined_encodings encoding vs ++ joined_encodings encoding ws
  joined-append [] ws = refl
  joined-append (v ∷ vs) ws = ap (λ x. encoding v ++ x) (joined-append vs ws) ∙ sym (append_assoc (encoding v) (joined_encodings encoding vs) (joined_encodings encoding ws))

  -- one more value
  pub joined-more : (vs : List A) (i : ℕ) (v : A) → i < length vs → v ≡ get_or vs i v → joined_encodings encoding (take i vs) ++ encoding v ≡ joined_encodings encoding (take (i + 1) vs)
  joined-more vs i v below is =
      ap (λ x. joined_encodings encoding (take i vs) ++ x) (sym (append-nil (encoding v))) ∙ sym (joined-append (take i vs) (v ∷ [])) ∙ ap (λ x. joined_encodings encoding (take i vs ++ x ∷ [])) is ∙ ap (joined_encodings encoding) (sym (take_more vs i v below))

  -- the encodings of the first values are not longer than all
  pub joined-shorter : (vs : List A) (i : ℕ) → length (joined_encodings encoding (take i vs)) ≤ length (joined_encodings encoding vs)
  joined-shorter vs i =
      let e = ap length (sym (joined-append (take i vs) (drop i vs)) ∙ ap (joined_encodings encoding) (take-append-drop i vs)) in
      omega (arith, e, length-append (joined_encodings encoding (take i vs)) (joined_encodings encoding (drop i vs)))

  pub joined-fits : (vs : List A) (i : ℕ) (v : A) → i < length vs → v ≡ get_or vs i v → length (joined_encodings encoding (take i vs)) + length (encoding v) ≤ length (joined_encodings encoding vs)
  joined-fits vs i v below is =
      let e = ap length (joined-more vs i v below is) in
      omega (arith, e, length-append (joined_encodings encoding (take i vs)) (encoding v), joined-shorter vs (i + 1))

-- a valid value among valid ones
pub valid_at : {A : Type 0} (valid : A → Type 0) (vs ws : List A) (v : A) → AllValid valid (vs ++ v ∷ ws) → valid v
valid_at valid [] ws v are = are.0
valid_at valid (x ∷ vs) ws v are = valid_at valid vs ws v are.1

pub valid_in : {A : Type 0} (valid : A → Type 0) (vs : List A) (i : ℕ) (v : A) → i < length vs → v ≡ get_or vs i v → AllValid valid vs → valid v
valid_in valid vs i v below is are =
    let parts : take i vs ++ v ∷ drop (i + 1) vs ≡ vs = ap (λ x. take i vs ++ x ∷ drop (i + 1) vs) is ∙ ap (λ x. take i vs ++ x) (sym (drop_more vs i v below)) ∙ take-append-drop i vs in
    valid_at valid (take i vs) (drop (i + 1) vs) v (subst (AllValid valid) (sym parts) are)

-- a result for the values that are left is a result for all
pub record IsWriting {A : Type 0} (answers : A → WriterAnswer) (all : List A) (first : WriterState) (left : List A) (s : WriterState) : Type 0 where
  pub whole : (r : Result (Unit {0}) Error) (u : WriterState) → ValuesWritten answers left s r u → ValuesWritten answers all first r u

pub begins_writing : {A : Type 0} (answers : A → WriterAnswer) (all : List A) (first : WriterState) → IsWriting answers all first all first
begins_writing answers all first = record { whole = λ r u w. w }

module _ {A : Type 0} {answers : A → WriterAnswer} {all : List A} {first : WriterState} (vs : List A) (i : ℕ) (v : A) (below : i < length vs) (is : v ≡ get_or vs i v) (s : WriterState) (writing : IsWriting answers all first (drop i vs) s) where
  parted : drop i vs ≡ v ∷ drop (i + 1) vs
  parted = drop_more vs i v below ∙ ap (λ x. x ∷ drop (i + 1) vs) (sym is)

  pub writes_on : (t : WriterState) → PlacesErrors (answers v) s (Ok tt) t → IsWriting answers all first (drop (i + 1) vs) t
  writes_on t one =
      record { whole = λ r u w. writing.whole r u (subst (λ x. ValuesWritten answers x s r u) (sym parted) (Ok tt, t, one, w)) }

  pub writes_refused : (e : Error) (t : WriterState) → PlacesErrors (answers v) s (Err e) t → ValuesWritten answers all first (Err e) t
  writes_refused e t one = writing.whole (Err e) t (subst (λ x. ValuesWritten answers x s (Err e) t) (sym parted) (Err e, t, one, (refl, refl)))

-- all values are written
pub writes_all : {A : Type 0} {answers : A → WriterAnswer} {all : List A} {first : WriterState} (vs : List A) (i : ℕ) (s : WriterState) → length vs ≤ i → IsWriting answers all first (drop i vs) s → ValuesWritten answers all first (Ok tt) s
writes_all {answers = answers} vs i s ends writing = writing.whole (Ok tt) s (subst (λ x. ValuesWritten answers x s (Ok tt) s) (sym (drop_all i vs ends)) (refl, refl))

-- valid items can be written, as they are read
pub all_writable : {A : Type 0} (valid writable : A → Type 0) → ((v : A) → valid v → writable v) → (vs : List A) → AllValid valid vs → AllValid writable vs
all_writable valid writable law [] are = tt
all_writable valid writable law (v ∷ vs) are = (law v are.0, all_writable valid writable law vs are.1)

pub joined_same : {A : Type 0} (encoding octets : A → List ℕ) → ((v : A) → encoding v ≡ octets v) → (vs : List A) → joined_encodings encoding vs ≡ joined_encodings octets vs
joined_same encoding octets law [] = refl
joined_same encoding octets law (v ∷ vs) = ap (λ x. x ++ joined_encodings encoding vs) (law v) ∙ ap (λ x. octets v ++ x) (joined_same encoding octets law vs)

-- a decoder that does not allocate succeeds
pub never_lacks : {A E : Type 0} (oom : E → Bool) (allocates : Bool) (result : Result A E) → allocates ≡ false → SucceedsOrLacks oom allocates result → IsOk result
never_lacks oom allocates result borrowed (inl ok) = ok
never_lacks oom allocates result borrowed (inr lacks) = absurd (let no : false ≡ true = sym borrowed ∙ lacks.0 in cc)

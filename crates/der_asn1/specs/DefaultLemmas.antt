-- Lemmas: a field with a default is read as it is written.
use Rattle.std.proofs.Common.{◌≡◌, ℕ, ◌^◌, ◌<◌, ◌⊎◌, inl, inr, Bool, true, false, List, [], ◌++◌, length}
use Rattle.std.proofs.Common.{refl, sym, ap, subst, ◌∙◌, if◌then◌else◌}
use Rattle.der.specs.Prelude.{Tag, EncodingRules, Der}
use Rattle.der_asn1.specs.Follow.{FieldNext, ReadsFields, NoTagIn, StartsIn, Starts, MayStart}
use Rattle.der_asn1.specs.Follow.{PrecedesBut, either_tags}
use Rattle.der_asn1.specs.Default.{DefaultNext, absent, present, default_encoding, IsDefaulted}
use Rattle.der_asn1.specs.Default.{DefaultPrecedes}
use Rattle.der_asn1.specs.FollowLemmas.{fewer_tags}

-- a value that is not the default is valid
valid_of : {A : Type 0} (valid : A → Type 0) (is_default : A → Bool) (v : A) → (is_default v ≡ true)
    ⊎ valid v → is_default v ≡ false → valid v
valid_of valid is_default v (inl e) f = absurd (let no : true ≡ false = sym e ∙ f in cc)
valid_of valid is_default v (inr is) f = is

module _ {A : Type 0} {tags : Tag → Type 0} {Next : A → EncodingRules → List ℕ → ℕ → Type 0}
    {valid : A → Type 0} {encoding : A → List ℕ} {P : A → List ℕ → Type 0}
    (is_default : A → Bool) where
  pub defaults_are_fields : ReadsFields Next valid encoding P
      → ReadsFields (DefaultNext tags is_default Next) (IsDefaulted is_default valid)
      (default_encoding is_default encoding) (DefaultPrecedes tags is_default P)
  defaults_are_fields reads =
      record { only = from; every = λ octets v m short. to octets v m short (is_default v) refl }
    where
      written : (v : A) (b : Bool) → is_default v ≡ b
          → default_encoding is_default encoding v ≡ (if b then [] else encoding v)
      written v b e = ap (λ x. if x then [] else encoding v) e

      from : (octets : List ℕ) (v : A) (m : ℕ) → DefaultNext tags is_default Next v Der octets m
          → FieldNext (IsDefaulted is_default valid) (default_encoding is_default encoding)
          (DefaultPrecedes tags is_default P) v octets m
      from octets v m (absent e none h) =
          record {
            is_valid = inl e;
            following = octets;
            split = ap (λ x. x ++ octets) (sym (written v true e));
            whole = none ∙ ap length (sym (written v true e));
            precedes = (λ _. h, λ f. absurd (let no : true ≡ false = sym e ∙ f in cc));
          }
      from octets v m (present other h) =
          let not = other refl in
          let e = reads.only octets v m h in
          record {
            is_valid = inr e.is_valid;
            following = e.following;
            split = e.split ∙ ap (λ x. x ++ e.following) (sym (written v false not));
            whole = e.whole ∙ ap length (sym (written v false not));
            precedes = (λ f. absurd (let no : true ≡ false = sym f ∙ not in cc), λ _. e.precedes);
          }

      to : (octets : List ℕ) (v : A) (m : ℕ) → length octets < 2 ^ 32 → (b : Bool)
          → is_default v ≡ b
          → FieldNext (IsDefaulted is_default valid) (default_encoding is_default encoding)
          (DefaultPrecedes tags is_default P) v octets m
          → DefaultNext tags is_default Next v Der octets m
      to octets v m short true d e =
          absent d (e.whole ∙ ap length (written v true d))
          (subst (NoTagIn tags Der) (sym (e.split ∙ ap (λ x. x ++ e.following) (written v true d)))
          (e.precedes.0 d))
      to octets v m short false d e =
          present (λ _. d) (reads.every octets v m short (record {
            is_valid = valid_of valid is_default v e.is_valid d;
            following = e.following;
            split = e.split ∙ ap (λ x. x ++ e.following) (written v false d);
            whole = e.whole ∙ ap length (written v false d);
            precedes = e.precedes.1 d;
          }))

pub default_may_start : {A : Type 0} {tags : Tag → Type 0} {valid : A → Type 0}
    {encoding : A → List ℕ} (is_default : A → Bool) → Starts valid encoding tags
    → MayStart (IsDefaulted is_default valid) (default_encoding is_default encoding) tags
default_may_start {A} {tags} {valid} {encoding} is_default one =
    record { starts = λ v is. go v (is_default v) refl is }
  where
    go : (v : A) (b : Bool) → is_default v ≡ b → (is_default v ≡ true) ⊎ valid v
        → (default_encoding is_default encoding v ≡ [])
        ⊎ StartsIn tags (default_encoding is_default encoding v)
    go v true d is = inl (ap (λ x. if x then [] else encoding v) d)
    go v false d is =
        inr (subst (StartsIn tags) (sym (ap (λ x. if x then [] else encoding v) d))
        (one.starts v (valid_of valid is_default v is d)))

pub default_precedes : {A : Type 0} (tags : Tag → Type 0) {valid : A → Type 0}
    {P : A → List ℕ → Type 0} {stops : Tag → Type 0} (is_default : A → Bool)
    → PrecedesBut valid P stops
    → PrecedesBut (IsDefaulted is_default valid) (DefaultPrecedes tags is_default P)
    (either_tags tags stops)
default_precedes tags {valid} is_default one =
    record {
      precedes = λ v following is none. (
        λ _. fewer_tags (λ t h. inl h) none,
        λ f. one.precedes v following (valid_of valid is_default v is f)
            (fewer_tags (λ t h. inr h) none),
      );
    }

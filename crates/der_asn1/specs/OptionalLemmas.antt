-- Lemmas: an OPTIONAL field is read as it is written.
use Rattle.std.proofs.Common.{◌≡◌, ℕ, ◌^◌, ◌<◌, ◌⊎◌, inl, inr, List, [], length, Option, Some, None}
use Rattle.std.proofs.Common.{refl, sym, subst}
use Rattle.der.specs.Prelude.{Tag, EncodingRules, Der}
use Rattle.der_asn1.specs.Follow.{FieldNext, ReadsFields, NoTagIn, StartsIn, Starts, MayStart}
use Rattle.der_asn1.specs.Follow.{PrecedesBut, either_tags}
use Rattle.der_asn1.specs.Optional.{OptionNext, IsOptional, option_encoding, OptionPrecedes}
use Rattle.der_asn1.specs.FollowLemmas.{fewer_tags}

module _ {A : Type 0} {tags : Tag → Type 0} {Next : A → EncodingRules → List ℕ → ℕ → Type 0}
    {valid : A → Type 0} {encoding : A → List ℕ} {P : A → List ℕ → Type 0} where
  pub options_are_fields : ReadsFields Next valid encoding P
      → ReadsFields (OptionNext tags Next) (IsOptional valid) (option_encoding encoding)
      (OptionPrecedes tags P)
  options_are_fields reads = record { only = from; every = to }
    where
      from : (octets : List ℕ) (v : Option A) (m : ℕ) → OptionNext tags Next v Der octets m
          → FieldNext (IsOptional valid) (option_encoding encoding)
          (OptionPrecedes tags P) v octets m
      from octets None m h =
          record { is_valid = tt; following = octets; split = refl; whole = h.0; precedes = h.1 }
      from octets (Some v) m h =
          let e = reads.only octets v m h in
          record {
            is_valid = e.is_valid;
            following = e.following;
            split = e.split;
            whole = e.whole;
            precedes = e.precedes;
          }

      to : (octets : List ℕ) (v : Option A) (m : ℕ) → length octets < 2 ^ 32
          → FieldNext (IsOptional valid) (option_encoding encoding)
          (OptionPrecedes tags P) v octets m → OptionNext tags Next v Der octets m
      to octets None m short e = (e.whole, subst (NoTagIn tags Der) (sym e.split) e.precedes)
      to octets (Some v) m short e =
          reads.every octets v m short
          (record {
            is_valid = e.is_valid;
            following = e.following;
            split = e.split;
            whole = e.whole;
            precedes = e.precedes;
          })

-- an OPTIONAL field begins with one of its tags, or is empty
pub option_may_start : {A : Type 0} {tags : Tag → Type 0} {valid : A → Type 0}
    {encoding : A → List ℕ} → Starts valid encoding tags
    → MayStart (IsOptional valid) (option_encoding encoding) tags
option_may_start {A} {tags} {valid} {encoding} one = record { starts = go }
  where
    go : (v : Option A) → IsOptional valid v → (option_encoding encoding v ≡ [])
        ⊎ StartsIn tags (option_encoding encoding v)
    go None is = inl refl
    go (Some v) is = inr (one.starts v is)

pub option_precedes : {A : Type 0} (tags : Tag → Type 0) {valid : A → Type 0}
    {P : A → List ℕ → Type 0} {stops : Tag → Type 0} → PrecedesBut valid P stops
    → PrecedesBut (IsOptional valid) (OptionPrecedes tags P) (either_tags tags stops)
option_precedes {A} tags {valid} {P} {stops} one = record { precedes = go }
  where
    go : (v : Option A) (following : List ℕ) → IsOptional valid v
        → NoTagIn (either_tags tags stops) Der following → OptionPrecedes tags P v following
    go None following is none = fewer_tags (λ t h. inl h) none
    go (Some v) following is none = one.precedes v following is (fewer_tags (λ t h. inr h) none)

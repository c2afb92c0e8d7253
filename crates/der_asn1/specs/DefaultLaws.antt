-- The laws of fields with a default.
use Rattle.std.proofs.Common.{inl, inr, ℕ, Bool, List}
use Rattle.der.specs.Prelude.{Tag, EncodingRules}
use Rattle.der_asn1.specs.Follow.{either_tags}
use Rattle.der_asn1.specs.Default.{DefaultNext, absent, present, IsDefaulted, default_encoding}
use Rattle.der_asn1.specs.Default.{DefaultPrecedes}
use Rattle.der_asn1.specs.DefaultLemmas.{defaults_are_fields, default_may_start, default_precedes}
use Rattle.der_asn1.specs.FieldLaws.{FieldLaws, SomeLaws}

pub default_holds : {A : Type 0} (tags : Tag → Type 0) (is_default : A → Bool)
    {Next : A → EncodingRules → List ℕ → ℕ → Type 0} {valid : A → Type 0}
    → ((v : A) (rules : EncodingRules) (octets : List ℕ) (m : ℕ) → Next v rules octets m → valid v)
    → (v : A) (rules : EncodingRules) (octets : List ℕ) (m : ℕ)
    → DefaultNext tags is_default Next v rules octets m → IsDefaulted is_default valid v
default_holds tags is_default holds v rules octets m (absent d e none) = inl d
default_holds tags is_default holds v rules octets m (present differs h) =
    inr (holds v rules octets m h)

-- the laws of a field with a default
abbrev pub default_laws : {A : Type 0} {Next : A → EncodingRules → List ℕ → ℕ → Type 0}
    {valid : A → Type 0} {encoding : A → List ℕ} (is_default : A → Bool)
    (one : SomeLaws Next valid encoding)
    → FieldLaws (DefaultNext one.laws.tags is_default Next) (IsDefaulted is_default valid)
    (default_encoding is_default encoding)
default_laws {Next = Next} {valid} is_default one =
    record {
      Precedes = DefaultPrecedes one.laws.tags is_default one.laws.Precedes;
      tags = one.laws.tags;
      stops = either_tags one.laws.tags one.laws.stops;
      reads = defaults_are_fields is_default one.laws.reads;
      starts = default_may_start is_default one.some;
      precedes = default_precedes one.laws.tags is_default one.laws.precedes;
      holds = default_holds one.laws.tags is_default one.laws.holds;
    }

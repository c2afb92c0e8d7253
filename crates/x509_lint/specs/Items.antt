-- Values of a type in octets: several, one after the other (`AreItems`), in a SEQUENCE OF
-- (`IsListValue`), or one alone (`IsStructValue`).
use Rattle.std.specs.Prelude.{ℕ, ◌^◌, ◌<◌, List, length}
use Rattle.der.specs.Prelude.{Sequence}
use Rattle.der_asn1.specs.SequenceOf.{IsListOf}
use Rattle.x509_lint.specs.Elements.{IsElement}
use Rattle.x509_lint.specs.Parts.{IsSingle}

-- fewer than 2^32 octets are the encodings of values
abbrev pub AreItems : {A : Type 0} → (A → Type 0) → (A → List ℕ) → List ℕ → Type 0
AreItems valid encoding octets = (length octets < 2 ^ 32) × IsListOf valid encoding octets

-- the octets are a SEQUENCE OF values
abbrev pub IsListValue : {A : Type 0} → (A → Type 0) → (A → List ℕ) → List ℕ → Type 0
IsListValue valid encoding octets =
    (c : List ℕ) × IsElement octets Sequence c × AreItems valid encoding c

-- the octets are one value, which is one element
abbrev pub IsStructValue : {A : Type 0} → (A → Type 0) → (A → List ℕ) → List ℕ → Type 0
IsStructValue valid encoding octets = IsSingle octets × AreItems valid encoding octets

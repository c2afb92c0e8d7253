-- Outcomes of decoding contents (`TakesContents`, `EndsOrLacks`), for a reader inside them
-- (`IsInside`, `ContentsNext`) and a reader at their end (`IsAtEnd`).
use Rattle.std.specs.Prelude.{◌≡◌, ℕ, ◌≤◌, ◌⊎◌, Bool, true, false, List, length, Result, IfOk, IsOk, IsErrAnd}
use Rattle.der_base.specs.Length.{number}
use Rattle.der_base.specs.HeaderGrammar.{Head}
use Rattle.der_base.specs.declared.encoding_rules.EncodingRules.{EncodingRules}
use Rattle.der_core.specs.ReaderState.{ReaderState, rest_of}

-- a reader that has not failed is inside a nested part, of which n octets are left
pub record IsInside (s : ReaderState) (n : ℕ) : Type 0 where
  pub working : s.failed ≡ false
  pub nested : 1 ≤ s.depth
  pub sized : length (rest_of s) ≡ n

-- a nested part was read to its end, and the reader has not failed
pub record IsAtEnd (t : ReaderState) : Type 0 where
  pub at_end : t.position ≡ t.end
  pub working : t.failed ≡ false

-- a reader is inside the contents after a header, and they are accepted
pub record ContentsNext (Fits : EncodingRules → Head → List ℕ → Type 0) (h : Head)
    (s : ReaderState) : Type 0 where
  pub is_next : IsInside s (number h.length)
  pub taken : Fits s.rules h (rest_of s)

-- contents that were read to their end are accepted as the returned value
abbrev pub TakesContents : {A E : Type 0} → (A → EncodingRules → Head → List ℕ → Type 0)
    → Head → ReaderState → Result A E → ReaderState → Type 0
TakesContents takes h s result t =
    IfOk result (λ v. IsInside s (number h.length) → IsAtEnd t → takes v s.rules h (rest_of s))

-- contents are read to their end, or reading them allocates and an allocation failed
abbrev pub EndsOrLacks : {A E : Type 0}
    → (E → Bool) → Bool → Result A E → ReaderState → Type 0
EndsOrLacks out_of_memory allocates result t =
    (IsOk result × IsAtEnd t)
    ⊎ ((allocates ≡ true) × IsErrAnd result (λ e. out_of_memory e ≡ true))

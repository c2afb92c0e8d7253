-- Specifications of elements that have a fixed tag, with their laws.
use Rattle.std.specs.Prelude.{◌≡◌, ℕ, Bool, true, List}
use Rattle.der_base.specs.HeaderGrammar.{Head}
use Rattle.der_base.specs.declared.encoding_rules.EncodingRules.{EncodingRules}
use Rattle.der_base.specs.declared.tag.Tag.{Tag}
use Rattle.der_base.specs.declared.tag.Tag.TheVariants.{Sequence as SequenceTag}
use Rattle.der_core.specs.Lawful.{IsLawful}

-- an element: its tag, which contents are accepted as which value, the valid values, their
-- contents, and the levels of nesting; its type is lawful if `is_compatible` is true
pub record ElementSpec (A : Type 0) : Type 1 where
  pub tag : Tag
  pub takes : A → EncodingRules → Head → List ℕ → Type 0
  pub valid : A → Type 0
  pub contents : A → List ℕ
  pub levels : EncodingRules → ℕ
  pub is_compatible : Bool
  pub lawful : is_compatible ≡ true → IsLawful tag takes valid contents levels
  pub holds : is_compatible ≡ true → (v : A) (rules : EncodingRules) (h : Head) (octets : List ℕ)
      → takes v rules h octets → valid v

-- an element is a SEQUENCE (X.690 8.9) whose fields can be told apart
abbrev pub IsSequence : {A : Type 0} → ElementSpec A → Type 0
IsSequence one = (one.tag ≡ SequenceTag) × (one.is_compatible ≡ true)

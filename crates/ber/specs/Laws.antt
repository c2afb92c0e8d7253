-- Laws of headers and of their faults.
use Rattle.std.specs.Prelude.{◌≡◌, ◌≢◌, ◌↔◌, ℕ, ◌<◌, ◌≤◌, true, Some, List, ◌++◌, length}
use Rattle.der_base.specs.FixedOctets.{end_of_contents}
use Rattle.der_base.specs.Length.{number, definite_length}
use Rattle.der_base.specs.Tag.{label}
use Rattle.der_base.specs.HeaderGrammar.{Head, HeadNext}
use Rattle.der_base.specs.declared.encoding_rules.EncodingRules.TheVariants.{Der}
use Rattle.ber.specs.Der.{IsDer, has_tag}
use Rattle.ber.specs.Header.{label_of_header, IsHeader, IsNext, end_header}
use Rattle.ber.specs.Universal.{number_of, universal_at}
use Rattle.ber.specs.declared.length.Length.TheVariants.{Definite}
use Rattle.ber.specs.declared.universal.Universal.{Universal}
use Rattle.ber.specs.Element.{IsElement}
use Rattle.ber.specs.Fault.{IsFault, truncated_at}
use Rattle.ber.specs.Body.{IsWhole, IsBody}
use Rattle.ber.specs.declared.header.Header.{Header}
use Rattle.ber.specs.declared.fault.Fault.{Fault}
use Rattle.ber.specs.declared.fault_kind.FaultKind.TheVariants.{Truncated}

-- no header is a proper prefix of another: octets begin with at most one
abbrev pub NoHeaderBeginsAnother : Type 0
NoHeaderBeginsAnother =
    (h g : Header) (a b x y : List ℕ) → IsHeader h a → IsHeader g b → a ++ x ≡ b ++ y
    → (h ≡ g) × (a ≡ b) × (x ≡ y)

-- no element of definite length is a proper prefix of another
abbrev pub NoElementBeginsAnother : Type 0
NoElementBeginsAnother =
    (h g : Header) (c d a b x y : List ℕ) → IsElement h c a → IsElement g d b → a ++ x ≡ b ++ y
    → (h ≡ g) × (c ≡ d) × (a ≡ b) × (x ≡ y)

-- no whole element is a proper prefix of another, nor is a body
abbrev pub NoWholeBeginsAnother : Type 0
NoWholeBeginsAnother =
    (a b x y : List ℕ) → IsWhole a → IsWhole b → a ++ x ≡ b ++ y → (a ≡ b) × (x ≡ y)

abbrev pub NoBodyBeginsAnother : Type 0
NoBodyBeginsAnother =
    (a b x y : List ℕ) → IsBody a → IsBody b → a ++ x ≡ b ++ y → (a ≡ b) × (x ≡ y)

-- a header has 2 to 133 octets
abbrev pub HeadersHaveFewOctets : Type 0
HeadersHaveFewOctets =
    (h : Header) (octets : List ℕ) → IsHeader h octets → (2 ≤ h.header_len) × (h.header_len ≤ 133)

-- octets begin with the end-of-contents octets exactly if they begin with their header
abbrev pub EndOfContentsIsAHeader : Type 0
EndOfContentsIsAHeader =
    (octets : List ℕ) → ((rest : List ℕ) × (octets ≡ end_of_contents ++ rest)) ↔ IsNext end_header octets

-- octets with a fault begin with no header
abbrev pub NoHeaderAtAFault : Type 0
NoHeaderAtAFault = (octets : List ℕ) (f : Fault) (h : Header) → IsFault octets f → IsNext h octets → ⊥

-- octets have at most one fault
abbrev pub FaultsAreSingle : Type 0
FaultsAreSingle = (octets : List ℕ) (f g : Fault) → IsFault octets f → IsFault octets g → f ≡ g

-- each header that continues truncated octets has at least as many as are said to be needed
abbrev pub TruncatedNeedsMore : Type 0
TruncatedNeedsMore =
    (octets more : List ℕ) (at needed : ℕ) (h : Header) → IsFault octets (truncated_at at needed)
    → IsHeader h (octets ++ more) → (at ≡ length octets) × (at < needed) × (needed ≤ h.header_len)

-- a fault other than a truncation stays, whatever octets follow: so no header continues these octets
abbrev pub FaultsStay : Type 0
FaultsStay =
    (octets more : List ℕ) (f : Fault) → IsFault octets f → ((n : ℕ) → f.kind ≢ Truncated n)
    → IsFault (octets ++ more) f

-- the head of a header in the grammar of `der_base`
pub record IsHead (g : Head) (h : Header) : Type 0 where
  pub label : label g.tag ≡ label_of_header h
  pub constructed : g.constructed ≡ h.constructed
  pub definite : g.length ≡ definite_length (number g.length)
  pub length : h.length ≡ Definite (number g.length)

-- a header with no departure, and with a tag that `der_base` has, is one of the Distinguished
-- Encoding Rules
abbrev pub HeadersWithoutDeparturesAreDer : Type 0
HeadersWithoutDeparturesAreDer =
    (octets : List ℕ) (h : Header) → IsNext h octets → IsDer h → has_tag (label_of_header h) ≡ true
    → (g : Head) × IsHead g h × HeadNext g Der octets h.header_len

-- each header of the Distinguished Encoding Rules is one with no departure, and with such a tag
abbrev pub DerHeadersHaveNoDepartures : Type 0
DerHeadersHaveNoDepartures =
    (octets : List ℕ) (g : Head) (m : ℕ) → HeadNext g Der octets m
    → (h : Header) × IsHead g h × IsNext h octets × IsDer h × (has_tag (label_of_header h) ≡ true)
    × (h.header_len ≡ m)

-- each universal type is found by its number, and has the number by which it is found
abbrev pub UniversalNumbers : Type 0
UniversalNumbers = (n : ℕ) (u : Universal) → (universal_at n ≡ Some u) ↔ (number_of u ≡ n)

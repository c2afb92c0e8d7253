-- Elements of definite length (X.690 8.1.1), and why octets do not begin with one.
use Rattle.std.specs.Prelude.{◌≡◌, ℕ, ◌+◌, ◌<◌, List, ◌++◌, length}
use Rattle.ber.specs.Header.{IsHeader, IsNext}
use Rattle.ber.specs.Fault.{IsFault}
use Rattle.ber.specs.declared.element_fault.ElementFault.{ElementFault}
use Rattle.ber.specs.declared.element_fault.ElementFault.TheVariants.{NoHeader, Indefinite, Truncated}
use Rattle.ber.specs.declared.fault.Fault.{Fault}
use Rattle.ber.specs.declared.header.Header.{Header}
use Rattle.ber.specs.declared.length.Length.TheVariants as lengths

-- the octets of an element: those of a header, and as many contents octets as its length says
pub record IsElement (h : Header) (contents octets : List ℕ) : Type 0 where
  pub front : List ℕ
  pub is : IsHeader h front
  pub counted : h.length ≡ lengths.Definite (length contents)
  pub spelled : octets ≡ front ++ contents

-- why octets do not begin with an element of definite length: they do not begin with a header; the
-- length of their header is indefinite; or the contents end before its length
pub data IsElementFault (octets : List ℕ) : ElementFault → Type 0 where
  no_header : (f : Fault) → IsFault octets f → IsElementFault octets (NoHeader f)
  indefinite : (h : Header) → IsNext h octets → h.length ≡ lengths.Indefinite
      → IsElementFault octets (Indefinite h)
  truncated : (h : Header) (n : ℕ) → IsNext h octets → h.length ≡ lengths.Definite n
      → length octets < h.header_len + n → IsElementFault octets (Truncated h)

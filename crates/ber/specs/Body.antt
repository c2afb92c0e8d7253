-- Whole elements, whose length may be indefinite at any depth (X.690 8.1.3.6, 8.1.5): `IsWhole`, and
-- `IsBody` for what follows a header of indefinite length. `IsStep` is a step of a walk over them.
use Rattle.std.specs.Prelude.{◌≡◌, ◌≢◌, ℕ, zero, suc, ◌+◌, ◌<◌, ◌≤◌, List, [], ◌++◌, length}
use Rattle.der_base.specs.FixedOctets.{end_of_contents}
use Rattle.ber.specs.Element.{IsElement}
use Rattle.ber.specs.Fault.{IsFault}
use Rattle.ber.specs.Header.{IsHeader, IsNext, end_header}
use Rattle.ber.specs.declared.fault.Fault.{Fault}
use Rattle.ber.specs.declared.header.Header.{Header}
use Rattle.ber.specs.declared.length.Length.TheVariants.{Definite, Indefinite}
use Rattle.ber.specs.declared.body_fault.BodyFault.{BodyFault}
use Rattle.ber.specs.declared.body_fault.BodyFault.TheVariants.{NoHeader, Truncated}

mutual
  -- an element of definite length, other than end-of-contents octets, with any contents; or a header
  -- of indefinite length and its body
  pub data IsWhole : List ℕ → Type 0 where
    definite : {h : Header} {contents octets : List ℕ} → IsElement h contents octets
        → h ≢ end_header → IsWhole octets
    indefinite : {h : Header} {front body : List ℕ} → IsHeader h front → h.length ≡ Indefinite
        → IsBody body → IsWhole (front ++ body)

  -- whole elements, and the end-of-contents octets
  pub data IsBody : List ℕ → Type 0 where
    ends : IsBody end_of_contents
    more : {item body : List ℕ} → IsWhole item → IsBody body → IsBody (item ++ body)

-- octets that are so many bodies, one after the other
pub data AreBodies : ℕ → List ℕ → Type 0 where
  none : AreBodies zero []
  then_body : {n : ℕ} {body rest : List ℕ} → IsBody body → AreBodies n rest
      → AreBodies (suc n) (body ++ rest)

-- a step of a walk, past a piece of octets that begin inside m bodies, to the rest, inside n bodies:
-- bodies after the piece are bodies before it, and the other way round
pub record IsStep (octets : List ℕ) (m : ℕ) (rest : List ℕ) (n : ℕ) : Type 0 where
  pub piece : List ℕ
  pub split : octets ≡ piece ++ rest
  pub forward : 2 ≤ length piece
  pub within : n ≤ m + 1
  pub before : (bodies : List ℕ) → AreBodies n bodies → AreBodies m (piece ++ bodies)
  pub after : (bodies more : List ℕ) → AreBodies m bodies → octets ≡ bodies ++ more
      → (left : List ℕ) × AreBodies n left × (rest ≡ left ++ more)

-- at an offset there is no header, or the octets end within the contents of the header
pub data IsStepFault (at : ℕ) (octets : List ℕ) : BodyFault → Type 0 where
  no_header : (f : Fault) → IsFault octets f → IsStepFault at octets (NoHeader at f)
  truncated : (h : Header) (n : ℕ) → IsNext h octets → h.length ≡ Definite n
      → length octets < h.header_len + n → IsStepFault at octets (Truncated at h)

-- such a fault after the beginning of a body, in which n bodies are open
pub record IsBodyFault (octets : List ℕ) (f : BodyFault) : Type 0 where
  pub piece : List ℕ
  pub rest : List ℕ
  pub n : ℕ
  pub split : octets ≡ piece ++ rest
  pub inside : 1 ≤ n
  pub begins : (bodies : List ℕ) → AreBodies n bodies → IsBody (piece ++ bodies)
  pub fault : IsStepFault (length piece) rest f

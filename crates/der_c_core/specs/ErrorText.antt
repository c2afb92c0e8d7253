-- Texts of errors (`WritesErrorText`), from their C form (`IsSeenAs`, `NamesNone`), truncated to the
-- space there is (`IsCut`), before a final zero octet (`IsEnded`).
use Rattle.std.specs.Prelude.{◌≡◌, ◌≢◌, ◌⊎◌, ℕ, ◌+◌, ◌-◌, ◌<◌, List, [], ◌∷◌, ◌++◌, length, take, drop, min, IfSome, codes}
use Rattle.std.specs.Fmt.{decimal}
use Rattle.der_base.specs.Text.{error_text}
use Rattle.der_base.specs.Error.{kind_of}
use Rattle.der_base.specs.declared.error.Error.{Error}
use Rattle.der_base.specs.declared.error.ErrorKind.{ErrorKind}
use Rattle.der_base.specs.declared.error.ErrorKind.TheVariants.{TagUnknown}
use Rattle.der_c_core.specs.ErrorCode.{error_code}
use Rattle.der_c_core.specs.declared.error.DerError.{DerError}
use Rattle.der_c_core.specs.declared.text.cut.Text.{Text}

-- the octets are appended to the text so far, as far as there is space
pub record AppendsText (t : Text) (octets : List ℕ) (u : Text) : Type 0 where
  pub reference : u.octets.ghost_name ≡ t.octets.ghost_name
  pub size : length u.octets.now ≡ length t.octets.now
  pub count : u.count ≡ min (t.count + length octets) (length t.octets.now)
  pub text : take u.count u.octets.now
      ≡ take (length t.octets.now) (take t.count t.octets.now ++ octets)
  pub following : drop u.count u.octets.now ≡ drop u.count t.octets.now

-- the start of the text is written, as far as there is space; the octets after it are unchanged
pub record IsCut (text old : List ℕ) (count : ℕ) (new : List ℕ) : Type 0 where
  pub counted : count ≡ min (length text) (length old)
  pub begins : take count new ≡ take (length old) text
  pub following : drop count new ≡ drop count old

-- the start of the text is written, as far as there is space before a final zero octet, which
-- follows it; the octets after that are unchanged
pub record IsEnded (text old : List ℕ) (count : ℕ) (new : List ℕ) : Type 0 where
  pub counted : count ≡ min (length text) (length old - 1)
  pub ended : new ≡ take count text ++ 0 ∷ drop (count + 1) old

-- the error has this C form; or, where the word of the expected tag is not that of a tag, this C
-- form without the expected tag
abbrev pub IsSeenAs : Error → DerError → Type 0
IsSeenAs e code = (error_code e ≡ code) ⊎ (error_code e ≡ record code { expected = 0; first = 0 })

-- what a kind names as an octet is below 256
abbrev pub NamesOctet : ErrorKind → Type 0
NamesOctet (TagUnknown octet) = octet < 256
NamesOctet _ = Unit {0}

-- no error is seen as this code, unless about octets that are not UTF-8 (kind 20)
abbrev pub NamesNone : DerError → Type 0
NamesNone code = (e : Error) → NamesOctet (kind_of e) → IsSeenAs e code → code.kind ≡ 20

-- the text for an element that is not ended, or ended out of order, at a position
abbrev pub unbalanced_text : ℕ → List ℕ
unbalanced_text at =
    codes "element not ended, or ended out of order at DER byte " ++ decimal at

-- the text of a code has the property P: that of an error that is seen as the code; or that of kind
-- 23; or that of no error, if there is no such error. Nothing says that every text can be formatted:
-- if one cannot, Q holds
pub data HasText (code : DerError) (P : List ℕ → Type 0) (Q : Type 0) : Type 0 where
  of_error : (e : Error) → code.kind ≢ 20 → IsSeenAs e code → IfSome (error_text e) P
      → HasText code P Q
  of_unbalanced : code.kind ≡ 23 → P (unbalanced_text code.position) → HasText code P Q
  of_none : code.kind ≢ 23 → NamesNone code → P (codes "no error") → HasText code P Q
  unformatted : ((e : Error) × IsSeenAs e code) ⊎ (code.kind ≡ 23) → Q → HasText code P Q

-- no text is written, and a zero octet
pub record IsEmpty (old : List ℕ) (count : ℕ) (new : List ℕ) : Type 0 where
  pub none : count ≡ 0
  pub size : length new ≡ length old
  pub ended : take 1 new ≡ 0 ∷ []

-- there is no space; or the text of the code is written, and a zero octet after it
pub data WritesErrorText (code : DerError) (old : List ℕ) (count : ℕ) (new : List ℕ) : Type 0 where
  no_space : length old ≡ 0 → count ≡ 0 → new ≡ old → WritesErrorText code old count new
  written : 0 < length old
      → HasText code (λ text. IsEnded text old count new) (IsEmpty old count new)
      → WritesErrorText code old count new

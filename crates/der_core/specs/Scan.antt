-- Outcomes of scanning an indefinite length (`Scans`, `ScansNext`), and the number of turns of a
-- scan (`IsTurned`).
use Rattle.std.specs.Prelude.{◌≡◌, ℕ, ◌+◌, ◌/◌, ◌≤◌, Bool, List, length, Result, Ok, Err}
use Rattle.der_base.specs.ScanGrammar.{BodyNext, BodyFault, TokensNext}
use Rattle.der_base.specs.declared.length.Length.{Length}
use Rattle.der_base.specs.declared.error.Error.{Error}
use Rattle.der_core.specs.ReaderState.{ReaderState}
use Rattle.der_core.specs.Decode.{Decodes, Peeks}

-- a body is consumed and the result counts its octets; or there is none, and its fault is returned
abbrev pub Scans : Bool → ReaderState → Result Length Error → ReaderState → Type 0
Scans = Decodes BodyNext (λ rules. BodyFault)

-- the next body of a reader, which does not move, is counted, or its fault is returned
abbrev pub ScansNext : Bool → ReaderState → Result Length Error → Type 0
ScansNext = Peeks BodyNext (λ rules. BodyFault)

-- a successful scan of these octets makes one turn for each identifier and end-of-contents of the
-- body with which they begin; a scan that fails makes at most n/2 + 1 turns for n octets
abbrev pub IsTurned : List ℕ → Result Length Error → ℕ → ℕ → Type 0
IsTurned octets (Ok l) before after =
    (parts : ℕ) × TokensNext parts octets × (after ≡ before + parts)
IsTurned octets (Err e) before after =
    (before ≤ after) × (after ≤ before + (length octets / 2 + 1))

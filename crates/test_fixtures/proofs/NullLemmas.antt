-- Three NULLs and end-of-contents octets, scanned from the start of an input.
use Rattle.std.proofs.Common.{◌≡◌, ℕ, ◌+◌, true, Result, Ok, Err, List, [], ◌∷◌, refl, sym, ap, ◌∙◌, arith}
use Rattle.der.specs.Body.{Item, Body, definite, ends, more}
use Rattle.der.specs.Prelude.{indefinite_length, Length, Error, Null, Ber, ReaderState, rest_of}
use Rattle.der.specs.ScanGrammar.{BodyNext}
use Rattle.der.specs.Tag.{of_tag}
use Rattle.der.proofs.BodyLemmas.{body_front}
use Rattle.der.proofs.ScanLemmas.{body_grammar}
use Rattle.der.specs.ReaderState.{initial_state}
use Rattle.der.specs.Scan.{ScansNext, IsTurned}
use Rattle.der.proofs.DecodeLemmas.{accepts, rest-beginning}

abbrev pub nulls : List ℕ
nulls = 5 ∷ 0 ∷ 5 ∷ 0 ∷ 5 ∷ 0 ∷ 0 ∷ 0 ∷ []

null : Item 1 1 (5 ∷ 0 ∷ [])
null = definite (omega arith, omega arith) (of_tag {t = Null} (omega arith)) [] (omega arith)

nulls_body : Body 1 4 nulls
nulls_body = more null (more null (more null (ends (omega arith, omega arith))))

nulls_left : (s : ReaderState) → s ≡ initial_state Ber nulls → rest_of s ≡ nulls
nulls_left s e = ap rest_of e ∙ rest-beginning Ber nulls

-- a scan returns all eight octets
pub nulls_scanned : (s : ReaderState) (r : Result Length Error) → s ≡ initial_state Ber nulls → ScansNext true s r → r ≡ Ok (indefinite_length 8)
nulls_scanned s r e (t, h) =
    let next : BodyNext (indefinite_length 8) s.rules (rest_of s) 8 = record { parts = 4; body = nulls; following = []; is_body = nulls_body; split = nulls_left s e; sized = refl; counts = refl } in
    (accepts body_grammar s t r (indefinite_length 8) 8 h (ap (λ (x : ReaderState). x.failed) e) next).0

-- a scan takes a turn for each of the three NULLs and for the end-of-contents octets
pub nulls_turned : (s : ReaderState) (r : Result Length Error) (before after : ℕ) → s ≡ initial_state Ber nulls → ScansNext true s r → IsTurned (rest_of s) r before after → after ≡ before + 4
nulls_turned s (Ok l) before after e scans (parts, (body, following, is, split), counted) =
    let one = body_front is nulls_body following [] (sym split ∙ nulls_left s e) in
    counted ∙ ap (λ n. before + n) one.1
nulls_turned s (Err x) before after e scans turned = absurd (let no : Err x ≡ Ok (indefinite_length 8) = nulls_scanned s (Err x) e scans in cc)

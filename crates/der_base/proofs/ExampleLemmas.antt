-- Bodies with known numbers of identifiers and end-of-contents.
use Rattle.std.proofs.Common.{◌≡◌, ℕ, zero, suc, ◌+◌, ◌*◌, ◌<◌, ◌≤◌, true, List, [], ◌∷◌, ◌++◌, replicate, refl, sym, ap, ◌∙◌, subst, append_assoc, append-nil, arith}
use Rattle.std.proofs.lemmas.List.{replicate-append-replicate}
use Rattle.der_base.specs.Tag.{IsIdentifier, of_tag, of_segments}
use Rattle.der_base.specs.Body.{Item, Body, Open, definite, indefinite, ends, more, first, none}
use Rattle.der_base.specs.Error.{refusal}
use Rattle.der_base.specs.ScanGrammar.{BodyFault, too_deep}
use Rattle.der_base.specs.Laws.{ExamplesOfParts, nested_openings}
use Rattle.der_base.specs.declared.tag.Tag.TheVariants.{Null, OctetString, Sequence}
use Rattle.der_base.specs.declared.error.ErrorKind.TheVariants.{NestingDepth}
use Rattle.der_base.specs.declared.encoding_rules.EncodingRules.TheVariants.{Ber}
use Rattle.der_base.proofs.GrowthLemmas.{body_at, open_at, open_deeper}

sequence_identifier : IsIdentifier Ber (48 ∷ []) Sequence true
sequence_identifier = of_tag (omega arith)

-- an OCTET STRING with one segment, whose contents are two zero octets
segments : Body 1 4 (36 ∷ 128 ∷ 4 ∷ 2 ∷ 0 ∷ 0 ∷ 0 ∷ 0 ∷ 0 ∷ 0 ∷ [])
segments = more (indefinite (omega arith, omega arith) of_segments (more segment (ends (omega arith, omega arith)))) (ends (omega arith, omega arith))
  where
    segment : Item 2 1 (4 ∷ 2 ∷ 0 ∷ 0 ∷ [])
    segment = definite (omega arith, omega arith) (of_tag {t = OctetString} (omega arith)) (0 ∷ 0 ∷ []) (omega arith)

openings_append : (n : ℕ) (x y : List ℕ) → nested_openings n x ++ y ≡ nested_openings n (x ++ y)
openings_append zero x y = refl
openings_append (suc n) x y = ap (λ l. 48 ∷ 128 ∷ l) (openings_append n x y)

-- one more end-of-contents
eocs_append : (n : ℕ) (x : List ℕ) → (x ++ replicate (2 * n) 0) ++ 0 ∷ 0 ∷ [] ≡ x ++ replicate (2 * suc n) 0
eocs_append n x =
    let count : 2 * n + 2 ≡ 2 * suc n = omega arith in
    append_assoc x (replicate (2 * n) 0) (0 ∷ 0 ∷ []) ∙ ap (λ l. x ++ l) (replicate-append-replicate (2 * n) 2 0 ∙ ap (λ k. replicate k 0) count)

-- n openings around a body, with their end-of-contents, are a body n levels further out
nested : (n : ℕ) {level parts : ℕ} {body : List ℕ} → 1 ≤ level → level + n ≤ 64 → Body (level + n) parts body → Body level (parts + 2 * n) (nested_openings n (body ++ replicate (2 * n) 0))
nested zero {level} {parts} {body} some few h =
    let same : level + 0 ≡ level = omega arith in
    subst (λ k. Body k (parts + 0) (body ++ [])) same (body_at (omega arith) (sym (append-nil body)) h)
nested (suc n) {level} {parts} {body} some few h =
    let deep : level + suc n ≡ suc level + n = omega arith in
    let inner = nested n {level = suc level} (omega arith) (omega arith) (subst (λ k. Body k parts body) deep h) in
    body_at (omega arith)
    (ap (λ l. 48 ∷ 128 ∷ l) (openings_append n (body ++ replicate (2 * n) 0) (0 ∷ 0 ∷ []) ∙ ap (nested_openings n) (eocs_append n body)))
    (more (indefinite (omega arith, omega arith) sequence_identifier inner) (ends (omega arith, omega arith)))

-- n openings alone are the beginning of a body
openings_open : (n : ℕ) → n < 64 → Open (suc n) n (nested_openings n [])
openings_open zero few = first (none (omega arith, omega arith))
openings_open (suc n) few =
    open_at (omega arith) (openings_append n [] (48 ∷ 128 ∷ []) ∙ one_more n) (open_deeper (openings_open n (omega arith)) sequence_identifier (omega arith))
  where
    one_more : (n : ℕ) → nested_openings n (48 ∷ 128 ∷ []) ≡ nested_openings (suc n) []
    one_more zero = refl
    one_more (suc n) = ap (λ l. 48 ∷ 128 ∷ l) (one_more n)

deepest : Body 1 128 (nested_openings 63 (5 ∷ 0 ∷ replicate 128 0))
deepest = nested 63 (omega arith) (omega arith) (more null (ends (omega arith, omega arith)))
  where
    null : Item 64 1 (5 ∷ 0 ∷ [])
    null = definite (omega arith, omega arith) (of_tag {t = Null} (omega arith)) [] (omega arith)

one_too_deep : BodyFault 2 (nested_openings 64 (5 ∷ 0 ∷ replicate 130 0)) (refusal NestingDepth 130)
one_too_deep =
    record {
      level = 64;
      parts = 63;
      passed = nested_openings 63 [];
      left = 48 ∷ 128 ∷ 5 ∷ 0 ∷ replicate 130 0;
      split = refl;
      reached = openings_open 63 (omega arith);
      stops = too_deep (5 ∷ 0 ∷ replicate 130 0) refl sequence_identifier;
    }

pub examples_of_parts : ExamplesOfParts
examples_of_parts = (segments, deepest, one_too_deep)

-- Octets begin with the body of an indefinite length, or have a fault of one.
use Rattle.std.proofs.Common.{◌≡◌, ◌≢◌, ℕ, zero, suc, ◌+◌, ◌^◌, ◌<◌, ◌≤◌, ◌⊎◌, Bool, true, false, List, [], ◌∷◌, ◌++◌, length, take, drop, refl, sym, ap, ◌∙◌, subst, ⊎_elim, inl, inr, append_assoc, length-append, arith}
use Rattle.std.proofs.lemmas.Bool.{cases_lt, cases_eq}
use Rattle.std.proofs.lemmas.List.{take-append-drop, length-take-le}
use Rattle.der_base.specs.Length.{length_octets}
use Rattle.der_base.specs.Tag.{IsIdentifier, IdentifierFault, cut, refused}
use Rattle.der_base.specs.Body.{Body, Open, definite, first, none}
use Rattle.der_base.specs.Error.{Refusal}
use Rattle.der_base.specs.Laws.{BodiesOrFaults}
use Rattle.der_base.specs.ScanGrammar.{TokensNext, NoBodyFault, ScanFault, nothing, half_eoc, no_eoc, refused_identifier, cut_identifier, primitive, too_deep, no_length, short, BodyFault}
use Rattle.der_base.specs.declared.tag.Tag.{Tag}
use Rattle.der_base.specs.declared.error.ErrorKind.TheVariants.{Length as IncorrectLength}
use Rattle.der_base.specs.declared.encoding_rules.EncodingRules.TheVariants.{Ber}
use Rattle.der_base.proofs.IdentifierLemmas.{identifier_some}
use Rattle.der_base.proofs.FrontLemmas.{IdentifierFront, found, missing, identifier_or_fault, LengthFront, opens, counts, faulty, length_or_fault}
use Rattle.der_base.proofs.BodyLemmas.{open_level}
use Rattle.der_base.proofs.OpenLemmas.{Step, eocs, counted, opened}
use Rattle.der_base.proofs.GrowthLemmas.{open_item, open_deeper, open_ends, body_from_open}

-- with `level` bodies open, octets continue by a step, or have a fault
data PartFront (level at : ℕ) (octets : List ℕ) : Type 0 where
  steps : {next : ℕ} {part : List ℕ} (rest : List ℕ) → Step level next part → octets ≡ part ++ rest → PartFront level at octets
  stops : {r : Refusal} → ScanFault level at octets r → PartFront level at octets

-- a fault of an identifier is one of the scan, if the first octet is not 0
identifier_stops : {level at o : ℕ} {rest s : List ℕ} {r : Refusal} → o ≢ 0 → s ≡ o ∷ rest → IdentifierFault Ber at s r → PartFront level at s
identifier_stops ne e (cut [] h) = stops nothing
identifier_stops ne e (cut (p ∷ s) h) = stops (cut_identifier p s h)
identifier_stops ne e (refused [] p more h never) = stops (refused_identifier [] p more (λ z. ne (cc)) h never)
identifier_stops ne e (refused (q ∷ s) p more h never) = stops (refused_identifier (q ∷ s) p more (λ z. ne (cc)) h never)

-- what follows an identifier
module _ (level at : ℕ) (few : level ≤ 64) {id : List ℕ} {t : Tag} where
  opening_front : (b : Bool) → IsIdentifier Ber id t b → (rest : List ℕ) → PartFront level at (id ++ 128 ∷ rest)
  opening_front false d rest = stops (primitive rest d)
  opening_front true d rest =
      ⊎_elim
      (λ space. steps rest (opened d space) (sym (append_assoc id (128 ∷ []) rest)))
      (λ full. stops (too_deep rest (omega arith) d))
      (cases_lt level 64)

  contents_front : {b : Bool} → IsIdentifier Ber id t b → (n : ℕ) (rest : List ℕ) → n < 2 ^ 32 → PartFront level at (id ++ (length_octets n ++ rest))
  contents_front d n rest small =
      ⊎_elim
      (λ less. stops (short n rest d small less))
      (λ enough.
      let size : length (take n rest) ≡ n = length-take-le n rest enough in
      let whole : id ++ (length_octets n ++ rest) ≡ (id ++ (length_octets (length (take n rest)) ++ take n rest)) ++ drop n rest =
      ap (λ l. id ++ (length_octets n ++ l)) (sym (take-append-drop n rest)) ∙ ap (λ m. id ++ (length_octets m ++ (take n rest ++ drop n rest))) (sym size) ∙ simp append_assoc in
      steps (drop n rest) (counted d (take n rest) (omega arith)) whole)
      (cases_lt (length rest) n)

  after_identifier_or_fault : {b : Bool} → IsIdentifier Ber id t b → (more : List ℕ) → PartFront level at (id ++ more)
  after_identifier_or_fault {b} d more = go (length_or_fault NoBodyFault (IncorrectLength t) Ber (at + length id) more)
    where
      go : LengthFront NoBodyFault (IncorrectLength t) Ber (at + length id) more → PartFront level at (id ++ more)
      go (opens rest e) = subst (λ l. PartFront level at (id ++ l)) (sym e) (opening_front b d rest)
      go (counts n rest small e) = subst (λ l. PartFront level at (id ++ l)) (sym e) (contents_front d n rest small)
      go (faulty f) = stops (no_length d f)

-- octets that do not begin with 0
item_front : (level at o : ℕ) (rest : List ℕ) → level ≤ 64 → o ≢ 0 → PartFront level at (o ∷ rest)
item_front level at o rest few ne = go (identifier_or_fault Ber at (o ∷ rest))
  where
    go : IdentifierFront Ber at (o ∷ rest) → PartFront level at (o ∷ rest)
    go (found more d e) = subst (λ l. PartFront level at l) (sym e) (after_identifier_or_fault level at few d more)
    go (missing f) = identifier_stops ne refl f

-- octets that begin with 0
eoc_or_fault : (level at : ℕ) (rest : List ℕ) → 1 ≤ level → PartFront level at (0 ∷ rest)
eoc_or_fault zero at rest some = absurd (omega arith)
eoc_or_fault (suc level) at [] some = stops half_eoc
eoc_or_fault (suc level) at (o ∷ rest) some =
    ⊎_elim
    (λ zero. steps rest eocs (ap (λ x. 0 ∷ x ∷ rest) zero))
    (λ other. stops (no_eoc o rest other))
    (cases_eq o 0)

part_front : (level at : ℕ) (octets : List ℕ) → 1 ≤ level → level ≤ 64 → PartFront level at octets
part_front level at [] some few = stops nothing
part_front level at (o ∷ rest) some few =
    ⊎_elim
    (λ zero. subst (λ x. PartFront level at (x ∷ rest)) (sym zero) (eoc_or_fault level at rest some))
    (item_front level at o rest few)
    (cases_eq o 0)

-- a step has at least one octet
step_some : {k l : ℕ} {x : List ℕ} → Step k l x → 1 ≤ length x
step_some eocs = omega arith
step_some (counted {id = id} d contents small) = omega (arith, identifier_some d, length-append id (length_octets (length contents) ++ contents))
step_some (opened {id = id} d space) = omega (arith, identifier_some d, length-append id (128 ∷ []))

-- a step makes the beginning of a body into a whole one, or into a longer beginning
grown : {k l m : ℕ} {p x : List ℕ} → Open k m p → Step k l x → Body 1 (m + 1) (p ++ x) ⊎ Open l (m + 1) (p ++ x)
grown o (eocs {k = zero}) = inl (body_from_open o)
grown o (eocs {k = suc k}) = inr (open_ends o)
grown o (counted d contents small) = inr (open_item o (definite (open_level o) d contents small))
grown o (opened d space) = inr (open_deeper o d space)

-- the beginning of a body continues to the whole body or to a fault
module _ (at : ℕ) (octets : List ℕ) where
  abbrev BodyOrFault : Type 0
  BodyOrFault = ((parts : ℕ) × TokensNext parts octets) ⊎ ((r : Refusal) × BodyFault at octets r)

  -- for fewer than `most` remaining octets
  abbrev GoesOn : ℕ → Type 0
  GoesOn most =
      (level parts : ℕ) (passed left : List ℕ) → Open level parts passed → octets ≡ passed ++ left → length left < most → BodyOrFault

  goes_by : (most level parts : ℕ) (passed left : List ℕ) → GoesOn most → Open level parts passed → octets ≡ passed ++ left → length left ≤ most → PartFront level (at + length passed) left → BodyOrFault
  goes_by most level parts passed left further o e small (stops {r = r} f) =
      inr (r, record { level = level; parts = parts; passed = passed; left = left; split = e; reached = o; stops = f })
  goes_by most level parts passed left further o e small (steps {next = next} {part = part} rest s f) =
      let whole : octets ≡ (passed ++ part) ++ rest = e ∙ ap (λ l. passed ++ l) f ∙ sym (append_assoc passed part rest) in
      ⊎_elim
      (λ body. inl (parts + 1, (passed ++ part, rest, body, whole)))
      (λ longer. further next (parts + 1) (passed ++ part) rest longer whole (omega (arith, step_some s, ap length f, length-append part rest)))
      (grown o s)

  continues : (most : ℕ) → GoesOn most
  continues zero level parts passed left o e small = absurd (omega arith)
  continues (suc most) level parts passed left o e small =
      let l = open_level o in
      goes_by most level parts passed left (continues most) o e (omega arith) (part_front level (at + length passed) left l.0 l.1)

pub bodies_or_faults : BodiesOrFaults
bodies_or_faults at octets =
    continues at octets (suc (length octets)) 1 0 [] octets (first (none (omega arith, omega arith))) refl (omega arith)

-- What functions of the reader return: a verdict, and the octets that follow.
use Rattle.std.specs.Prelude.{◌≡◌, ◌↔◌, ℕ, Bool, true, false, List, [], ◌∷◌, ◌++◌}
use Rattle.der_base.specs.FixedOctets.{end_of_contents}
use Rattle.der_base.specs.declared.encoding_rules.EncodingRules.{EncodingRules}
use Rattle.schema_read.specs.Notes.{departures_of}
use Rattle.schema_read.specs.Verdict.{holds, worst}
use Rattle.schema_read.specs.declared.departure.Departure.{Departure}
use Rattle.schema_read.specs.declared.notes.Notes.{Notes}
use Rattle.schema_read.specs.declared.verdict.Verdict.{Verdict}
use Rattle.schema_read.specs.declared.verdict.Verdict.TheVariants.{Der}
use Rattle.schema_read.specs.Rule.{verdict_of_rule}

-- octets are an encoding, and octets after it
abbrev pub Front : (List ℕ → Type 0) → List ℕ → List ℕ → Type 0
Front Is octets rest = (x : List ℕ) × (octets ≡ x ++ rest) × Is x

-- octets are contents, and what follows: the end-of-contents octets and octets after them, or nothing,
-- where these octets are the next
abbrev pub IsWithin : Bool → List ℕ → List ℕ → List ℕ → List ℕ → Type 0
IsWithin true beyond octets inner rest = octets ≡ inner ++ (end_of_contents ++ rest)
IsWithin false beyond octets inner rest = (octets ≡ inner) × (rest ≡ beyond)

abbrev pub Body : Bool → List ℕ → (List ℕ → Type 0) → List ℕ → List ℕ → Type 0
Body marked beyond Are octets rest = (inner : List ℕ) × IsWithin marked beyond octets inner rest × Are inner

-- under the rules that hold, exactly these octets follow; under others there is no such encoding
pub record Finds (Is : EncodingRules → List ℕ → Type 0) (v : Verdict) (rest : List ℕ) : Type 0 where
  pub exact : (rules : EncodingRules) → holds rules v ≡ true → (r : List ℕ) → Is rules r ↔ (r ≡ rest)
  pub none : (rules : EncodingRules) → holds rules v ≡ false → (r : List ℕ) → Is rules r → ⊥

-- under the rules that hold so far, the whole holds exactly if the rest does; else it does not
pub record Status (v : Verdict) (Rest Whole : EncodingRules → List ℕ → Type 0) : Type 0 where
  pub good : (rules : EncodingRules) → holds rules v ≡ true → (r : List ℕ) → Rest rules r ↔ Whole rules r
  pub bad : (rules : EncodingRules) → holds rules v ≡ false → (r : List ℕ) → Whole rules r → ⊥

-- the verdict that departures leave
abbrev pub verdict_of : List Departure → Verdict
verdict_of [] = Der
verdict_of (d ∷ ds) = worst (verdict_of_rule d.rule) (verdict_of ds)

-- departures are added that leave this verdict
pub record Adds (v : Verdict) (old new : List Departure) : Type 0 where
  pub added : List Departure
  pub split : new ≡ old ++ added
  pub verdict : v ≡ verdict_of added

-- a walk adds such departures to its notes, if it keeps them and none is lost, in the same memory
pub record Logs (v : Verdict) (old new : Notes) : Type 0 where
  pub same : new.kept ≡ old.kept
  pub entries : new.entries.ghost_name ≡ old.entries.ghost_name
  pub departures : new.departures.ghost_name ≡ old.departures.ghost_name
  pub adds : old.kept ≡ true → new.lost ≡ 0
      → (old.lost ≡ 0) × Adds v (departures_of old) (departures_of new)

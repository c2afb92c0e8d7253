-- A scan, turn by turn.
use Rattle.std.proofs.Common.{◌≡◌, ℕ, zero, suc, ◌+◌, ◌-◌, ◌/◌, ◌<◌, ◌≤◌, ◌⊎◌, inl, inr, ⊎_elim, true, false, List, [], ◌∷◌, ◌++◌, length, refl, sym, ap, ◌∙◌, subst, length-append, arith}
use Rattle.der_base.specs.Length.{indefinite_length}
use Rattle.der_base.specs.Body.{Body, Open, first, none}
use Rattle.der_base.specs.ScanGrammar.{TokensNext, BodyNext, ScanFault, BodyFault}
use Rattle.der_base.specs.declared.error.Error.{Error}
use Rattle.der_base.specs.declared.length.Length.{Length}
use Rattle.der_base.proofs.IdentifierLemmas.{identifier_some}
use Rattle.der_base.proofs.GrowthLemmas.{open_item, open_deeper, open_ends, body_from_open, item_parts, open_parts}
use Rattle.der_core.specs.ReaderState.{ReaderState, rest_of, IsSound, Same, Reads}
use Rattle.der_core.specs.Decode.{Passes, IsRefusedBy, at_fault, has_failed}
use Rattle.der_core.specs.AfterFirstOctet.{Stops}
use Rattle.der_core.specs.Turn.{PartOctets, PartRead, RefusesPart}
use Rattle.der_core.specs.declared.length.indefinite.Part.{Part}
use Rattle.der_core.specs.declared.length.indefinite.Part.TheVariants.{Ends, Passes as PassesItem, Opens}
use Rattle.der_core.proofs.StateLemmas.{reads_none, reads_on, position_on, failed_on, stops_on, same_here, same_trans}

-- the beginning of a body was read; unless nothing was read, the reader had not failed
pub record Reached (a b : ReaderState) (level parts : ℕ) : Type 0 where
  pub passed : List ℕ
  pub is_open : Open level parts passed
  pub reads : Reads a b passed
  pub working : (b ≡ a) ⊎ (a.failed ≡ false)
  pub same : Same a b

pub reached_none : (s : ReaderState) → IsSound s → Reached s s 1 0
reached_none s sound = record { passed = []; is_open = first (none (omega arith, omega arith)); reads = reads_none s; working = inl refl; same = same_here s sound }

module _ {a b : ReaderState} {level parts : ℕ} (h : Reached a b level parts) where
  -- a reader that has not failed now had not failed at the start
  reached_working : b.failed ≡ false → a.failed ≡ false
  reached_working w = sym (failed_on h.reads) ∙ w

  pub reached_refused : {t : ReaderState} {e : Error} → RefusesPart level b e t → IsRefusedBy (λ rules. BodyFault) a e t
  reached_refused {t} {e} (has_failed f reported leaves) =
      ⊎_elim (λ start. subst (λ s. IsRefusedBy (λ rules. BodyFault) s e t) start (has_failed f reported leaves)) (λ w. absurd (let no : true ≡ false = sym f ∙ failed_on h.reads ∙ w in cc)) h.working
  reached_refused {t} {e} (at_fault r w fault reported leaves) =
      let there : ScanFault level (a.position + length h.passed) (rest_of b) r = subst (λ n. ScanFault level n (rest_of b) r) (position_on h.reads) fault in
      let stops : Stops b r e t = record { reported = reported; leaves = leaves } in
      at_fault r (reached_working w) (record { level = level; parts = parts; passed = h.passed; left = rest_of b; split = h.reads.split; reached = h.is_open; stops = there }) reported (stops_on h.reads stops).leaves

  pub reached_turns : parts ≤ length (rest_of a) / 2
  reached_turns = omega (arith, open_parts h.is_open, ap length h.reads.split, length-append h.passed (rest_of b))

module _ {a b c : ReaderState} {level parts : ℕ} (h : Reached a b level parts) where
  reached_on : {k n : ℕ} {x : List ℕ} → b.failed ≡ false → Open k n (h.passed ++ x) → Reads b c x → Same b c → Reached a c k n
  reached_on {x = x} w is_open reads same = record { passed = h.passed ++ x; is_open = is_open; reads = reads_on h.reads reads; working = inr (reached_working h w); same = same_trans h.same same }

  pub reached_passes : PartRead level PassesItem b c → Same b c → Reached a c level (parts + 1)
  reached_passes g same = reached_on g.working (open_item h.is_open g.is_part) g.reads same

  pub reached_opens : PartRead level Opens b c → Same b c → Reached a c (level + 1) (parts + 1) × (level < 64)
  reached_opens g same =
      let (id, t, is, octets, few) = g.is_part in
      let up : suc level ≡ level + 1 = omega arith in
      (subst (λ k. Reached a c k (parts + 1)) up (reached_on g.working (open_deeper h.is_open is few) (subst (Reads b c) octets g.reads) same), few)

  body_read : level ≡ 1 → PartRead level Ends b c → (body : List ℕ) × Body 1 (parts + 1) body × Reads a c body
  body_read one g =
      (h.passed ++ 0 ∷ 0 ∷ [], body_from_open (subst (λ k. Open k parts h.passed) one h.is_open), subst (λ x. Reads a c (h.passed ++ x)) g.is_part (reads_on h.reads g.reads))

  -- the last end-of-contents octets close the body
  pub reached_parts : level ≡ 1 → PartRead level Ends b c → TokensNext (parts + 1) (rest_of a)
  reached_parts one g = let (body, is, reads) = body_read one g in (body, rest_of c, is, reads.split)

  pub reached_last : level ≡ 1 → PartRead level Ends b c → (l : Length) → l ≡ indefinite_length (c.position - a.position) → Passes (BodyNext l) a c
  reached_last one g l counts =
      let (body, is, reads) = body_read one g in
      let size : c.position - a.position ≡ length body = omega (arith, position_on reads) in
      record {
        octets = length body;
        working = reached_working h g.working;
        next = record { parts = parts + 1; body = body; following = rest_of c; is_body = is; split = reads.split; sized = refl; counts = counts ∙ ap indefinite_length size };
        there = omega (arith, ap length reads.split, length-append body (rest_of c));
        leaves = reads.state;
      }

pub reached_ends : {a b c : ReaderState} (level : ℕ) {parts : ℕ} → 2 ≤ level → Reached a b level parts → PartRead level Ends b c → Same b c → Reached a c (level - 1) (parts + 1)
reached_ends zero l h g same = absurd (omega arith)
reached_ends (suc zero) l h g same = absurd (omega arith)
reached_ends {a} {b} {c} (suc (suc k)) {parts} l h g same =
    let down : suc k ≡ suc (suc k) - 1 = omega arith in
    subst (λ j. Reached a c j (parts + 1)) down (reached_on h g.working (open_ends h.is_open) (subst (Reads b c) g.is_part g.reads) same)

part_octets : (level : ℕ) (part : Part) (x : List ℕ) → PartOctets level part x → 2 ≤ length x
part_octets level Ends x e = omega (arith, ap length e)
part_octets level PassesItem x i = omega (arith, item_parts i)
part_octets level Opens x (id, t, is, e, few) = omega (arith, ap length e, length-append id (128 ∷ []), identifier_some is)

-- each part that is read advances the reader
pub part_progress : {b c : ReaderState} (level : ℕ) (part : Part) → IsSound c → PartRead level part b c → c.end - c.position < b.end - b.position
part_progress {b} {c} level part sound g = omega (arith, part_octets level part g.octets g.is_part, position_on g.reads, ap (λ (s : ReaderState). s.end) g.reads.state, sound.ordered)

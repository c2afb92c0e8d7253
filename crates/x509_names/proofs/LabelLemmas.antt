-- Lemmas on the lengths of labels.
use Rattle.std.proofs.Common.{◌≡◌, ◌≢◌, ◌⊎◌, ◌+◌, ◌-◌, ◌<◌, ◌≤◌, ℕ, List, length, slice_index, inl, inr, sym, ap, subst, ◌∙◌, arith}
use Rattle.std.proofs.lemmas.Bool.{cases_lt}
use Rattle.std.proofs.lemmas.Bool.Decides.{eqb_tells}
use Rattle.x509_names.specs.HostNames.{HasShortLabels}

-- a label begins at `begin`, and the octets before `at` were passed
pub record IsLabel (os : List ℕ) (begin at : ℕ) : Type 0 where
  pub within : begin ≤ at
  pub begins : (begin ≡ 0) ⊎ (slice_index os (begin - 1) ≡ 46)
  pub clear : (k : ℕ) → begin ≤ k → k < at → slice_index os k ≢ 46

-- all labels that were passed are short
abbrev pub AreShort : List ℕ → ℕ → Type 0
AreShort os at = (from : ℕ) → from + 64 ≤ at → (k : ℕ) × (from ≤ k) × (k < from + 64) × (slice_index os k ≡ 46)

pub at_dot : (os : List ℕ) (at : ℕ) → slice_index os at ≡ 46 → IsLabel os (at + 1) (at + 1)
at_dot os at dot = record {
  within = omega arith;
  begins = inr (let same : at + 1 - 1 ≡ at = omega arith in ap (slice_index os) same ∙ dot);
  clear = λ k from to. absurd (let no : ⊥ = omega (arith, from, to) in no);
}

pub at_other : (os : List ℕ) (begin at : ℕ) → slice_index os at ≢ 46 → IsLabel os begin at → IsLabel os begin (at + 1)
at_other os begin at other l = record {
  within = (let h = l.within in omega arith);
  begins = l.begins;
  clear = λ k from to. elim (cases_lt k at) [
    | inl less ↦ l.clear k from less
    | inr more ↦ (let same : k ≡ at = omega arith in λ dot. other (ap (slice_index os) (sym same) ∙ dot))
  ];
}

pub more_short : (os : List ℕ) (begin at : ℕ) → IsLabel os begin (at + 1) → at + 1 ≤ begin + 63 → AreShort os at → AreShort os (at + 1)
more_short os begin at l short h from long =
    elim (cases_lt at (from + 64)) [
      | inr old ↦ h from old
      | inl new ↦ elim l.begins [
        | inl zero ↦ absurd (let no : ⊥ = omega arith in no)
        | inr dot ↦ (let w = l.within in (begin - 1, omega arith, omega arith, dot))
      ]
    ]

pub too_long : (os : List ℕ) (begin at : ℕ) → IsLabel os begin (at + 1) → begin + 63 < at + 1 → at < length os → HasShortLabels os → ⊥
too_long os begin at l long inside h =
    let k = h begin (omega arith) in
    l.clear k.0 k.1 (let to : k.0 < begin + 64 = k.2 in omega arith) k.3

pub next_label : (os : List ℕ) (begin at next : ℕ) → IsLabel os begin at → (slice_index os at ≡ 46 → next ≡ at + 1) → (slice_index os at ≢ 46 → next ≡ begin) → IsLabel os next (at + 1)
next_label os begin at next l dot other =
    elim (eqb_tells (slice_index os at) 46) [
      | inl same ↦ subst (λ n. IsLabel os n (at + 1)) (sym (dot same.1)) (at_dot os at same.1)
      | inr different ↦ subst (λ n. IsLabel os n (at + 1)) (sym (other different.1)) (at_other os begin at different.1 l)
    ]

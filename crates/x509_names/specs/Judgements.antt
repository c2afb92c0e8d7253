-- The verdicts on the items of a list: the first refusal counts (`AreJudged`).
use Rattle.std.specs.Prelude.{◌≡◌, ◌++◌, List, ◌∷◌, All}
use Rattle.x509_names.specs.declared.matching.verdict.Verdict.{Verdict}
use Rattle.x509_names.specs.declared.matching.verdict.Verdict.TheVariants.{Permitted}

-- the first item that is not permitted has this verdict
pub record IsFirstRefused {A : Type 0} (Judged : A → Verdict → Type 0) (items : List A)
    (v : Verdict) : Type 0 where
  pub before : List A
  pub item : A
  pub after : List A
  pub split : items ≡ before ++ item ∷ after
  pub permitted : All (λ x. Judged x Permitted) before
  pub verdict : Judged item v

-- all items are permitted, or the first other one has this verdict
abbrev pub AreJudged : {A : Type 0} → (A → Verdict → Type 0) → List A → Verdict → Type 0
AreJudged Judged items Permitted = All (λ x. Judged x Permitted) items
AreJudged Judged items v = IsFirstRefused Judged items v

-- the first verdict that is not that something is permitted
abbrev pub first_refusal : Verdict → Verdict → Verdict
first_refusal Permitted w = w
first_refusal v w = v

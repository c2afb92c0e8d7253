-- Limits of a kind that are looked at one after the other.
use Rattle.std.proofs.Common.{◌≡◌, ◌∙◌, ◌+◌, ◌<◌, ℕ, Bool, true, false, not, slice_get, Some, refl, sym, ap, subst, ⊎_elim, arith}
use Rattle.std.proofs.lemmas.Bool.{cases_lt}
use Rattle.schema_types.specs.Table.{Table}
use Rattle.schema_types.specs.Allowed.{IsLimitOf}
use Rattle.schema_types.specs.declared.limit.Limit.{Limit}
use Rattle.schema_types.specs.declared.limit_kind.LimitKind.{LimitKind}
use Rattle.schema_types.specs.declared.span.Span.{Span}
use Rattle.schema_types.proofs.TagLemmas.{same_row}

pub isnt_true : (b : Bool) → (b ≡ true → ⊥) → not b ≡ true
isnt_true true isnt = absurd (isnt refl)
isnt_true false isnt = refl

pub isnt_both : {b : Bool} → not b ≡ true → b ≡ true → ⊥
isnt_both e f = let g : not true ≡ true = ap not (sym f) ∙ e in cc

-- what holds of each limit before a row, and of that row, holds of each before the next
pub looked_at : {t : Table} {limits : Span} {kind : LimitKind} {j : ℕ} {l : Limit} (Fact : Limit → Type 0) → slice_get t.limits j ≡ Some l → (l.kind ≡ kind → Fact l)
    → ((k : ℕ) (m : Limit) → k < j → IsLimitOf t limits kind k m → Fact m)
    → (k : ℕ) (m : Limit) → k < j + 1 → IsLimitOf t limits kind k m → Fact m
looked_at {t} {limits} {kind} {j} {l} Fact row here before k m lt is =
    ⊎_elim
    (λ less. before k m less is)
    (λ more. let e : j ≡ k = omega arith in
    let same = same_row t.limits k (subst (λ (x : ℕ). slice_get t.limits x ≡ Some l) e row) is.row in
    subst Fact same (here (ap (λ (x : Limit). x.kind) same ∙ is.kind_is)))
    (cases_lt k j)

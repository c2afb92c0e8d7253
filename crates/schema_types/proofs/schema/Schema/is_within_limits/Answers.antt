use Rattle.std.proofs.Common.{◌≡◌, ◌∙◌, ◌+◌, ◌<◌, ℕ, ℤ, Bool, true, false, not, slice_get, Some, refl, w64, sym, ap, subst, ⊎_elim, arith}
use Rattle.std.proofs.lemmas.Bool.{cases_lt}
use Rattle.std.proofs.lemmas.Int.{to_z-of_z}
use mir.Val.{to_z, of_z}
use Rattle.schema_types.specs.Table.{Table, table_in}
use Rattle.schema_types.specs.Allowed.{IsLimitOf, IsBetween, IsAllowed, limited, unlimited}
use Rattle.schema_types.specs.declared.limit.Limit.{Limit}
use Rattle.schema_types.specs.declared.limit_kind.LimitKind.{LimitKind}
use Rattle.schema_types.specs.declared.span.Span.{Span}
use Rattle.schema_types.proofs.TestLemmas.{refuted}
use Rattle.schema_types.proofs.TagLemmas.{same_row}
use Rattle.schema_types.proofs.schema.Schema.is_within_limits.Goals.{then-is_of+else-allows, else-is_of}
use Rattle.schema_types.proofs.schema.Schema.is_within_limits.Goals as goal

pub returns-then-allows : goal.returns-then-allows
returns-then-allows c = (
  λ _. limited c.loop-k.k c.limit-limit.result
      (record { part = (c.loop-k.auto.k, omega arith); row = c.limit-limit.ensures; kind_is = c.is_of.ensures.0 c.if-is_of.true })
      (subst (λ (x : ℤ). IsBetween c.limit-limit.result x) (to_z-of_z w64 c.args.number c.ranges.number) (c.allows.ensures.0 c.if-allows.true)),
  λ _. refl,
)

isnt_true : (b : Bool) → (b ≡ true → ⊥) → not b ≡ true
isnt_true true isnt = absurd (isnt refl)
isnt_true false isnt = refl

isnt_both : {b : Bool} → not b ≡ true → b ≡ true → ⊥
isnt_both e f = let g : not true ≡ true = ap not (sym f) ∙ e in cc

-- a number is not allowed if there is a limit, and it is outside each
disallowed : {t : Table} {limits : Span} {kind : LimitKind} {number : ℤ} → (k : ℕ) × (m : Limit) × IsLimitOf t limits kind k m → ((k : ℕ) (m : Limit) → IsLimitOf t limits kind k m → IsBetween m number → ⊥) → IsAllowed t limits kind number → ⊥
disallowed there outside (limited k m is between) = outside k m is between
disallowed there outside (unlimited none) = none there.0 there.1 there.2

pub returns : goal.returns
returns c = (
  λ e. unlimited (λ k m is. isnt_both e (c.loop-k.invariant.outside k m (omega (arith, is.part.1)) is).1),
  λ allowed. isnt_true c.loop-k.limited (λ e. disallowed (c.loop-k.invariant.one e) (λ k m is. (c.loop-k.invariant.outside k m (omega (arith, is.part.1)) is).0) (subst (λ (x : ℤ). IsAllowed (table_in c.args.self.now.octets.now) c.args.limits c.args.kind x) (sym (to_z-of_z w64 c.args.number c.ranges.number)) allowed)),
)

-- what holds of each limit before a row, and of that row, holds of each before the next
looked_at : {t : Table} {limits : Span} {kind : LimitKind} {j : ℕ} {l : Limit} (Fact : Limit → Type 0) → slice_get t.limits j ≡ Some l → (l.kind ≡ kind → Fact l)
    → ((k : ℕ) (m : Limit) → k < j → IsLimitOf t limits kind k m → Fact m)
    → (k : ℕ) (m : Limit) → k < j + 1 → IsLimitOf t limits kind k m → Fact m
looked_at {t} {limits} {kind} {j} {l} Fact row here before k m lt is =
    ⊎_elim
    (λ less. before k m less is)
    (λ more. let e : j ≡ k = omega arith in
    let same = same_row t.limits k (subst (λ (x : ℕ). slice_get t.limits x ≡ Some l) e row) is.row in
    subst Fact same (here (ap (λ (x : Limit). x.kind) same ∙ is.kind_is)))
    (cases_lt k j)

pub loop-k-preserved : goal.loop-k-preserved
loop-k-preserved c =
    let Fact : Limit → Type 0 = λ m. (IsBetween m (to_z w64 (of_z w64 c.args.number)) → ⊥) × (c.if-is_of.limited ≡ true) in
    elim c.if-is_of.branch [
      | then-is_of+else-allows w ↦ record {
        outside = looked_at Fact c.limit-limit.ensures (λ _. (refuted w.allows.ensures w.if-allows.false, w.limited-is)) (λ k m lt is. ((c.loop-k.invariant.outside k m lt is).0, w.limited-is));
        one = λ _. (c.loop-k.k, c.limit-limit.result, record { part = (c.loop-k.auto.k, omega arith); row = c.limit-limit.ensures; kind_is = c.is_of.ensures.0 w.if-is_of.true });
      }
      | else-is_of w ↦ record {
        outside = looked_at Fact c.limit-limit.ensures (λ e. absurd (refuted c.is_of.ensures w.if-is_of.false e)) (λ k m lt is. let p = c.loop-k.invariant.outside k m lt is in (p.0, w.limited-is ∙ p.1));
        one = λ e. c.loop-k.invariant.one (sym w.limited-is ∙ e);
      }
    ]

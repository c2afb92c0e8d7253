-- An OBJECT IDENTIFIER chooses one type of an open type.
use Rattle.std.proofs.Common.{◌≡◌, ◌≢◌, ℕ, ◌+◌, ◌-◌, ◌<◌, ◌≤◌, List, Some, slice_get, refl, sym, ap, ◌∙◌, subst, ⊎_elim, arith}
use Rattle.std.specs.declared.cmp.Ordering.TheVariants.{Less}
use Rattle.std.proofs.lemmas.Bool.{cases_lt}
use Rattle.der_base.specs.Order.{byte_order}
use Rattle.schema_types.specs.Counts.{counts_in}
use Rattle.schema_types.specs.Chosen.{ChoosesRow}
use Rattle.schema_types.specs.OpenType.{Ascends, identifier_in}
use Rattle.schema_types.specs.Pool.{pool_in, octets_of}
use Rattle.schema_types.specs.Table.{table_in}
use Rattle.schema_types.specs.declared.open_type.OpenType.{OpenType}
use Rattle.schema_types.specs.declared.span.Span.{Span}
use Rattle.schema_types.specs.declared.counts.Counts.{Counts}
use Rattle.schema_types.proofs.FindLemmas.{less_from, all_below, differ_below}
use Rattle.schema_types.proofs.TableLemmas.{open_type_is}
use Rattle.schema_read.specs.Types.{types_in}

-- the identifier of a row that is chosen
identifier_of : (octets : List ℕ) (types : Span) (id : List ℕ) (o : OpenType) → (row : ChoosesRow (table_in octets) types id o) → identifier_in (counts_in octets) octets row.index ≡ id
identifier_of octets types id o row =
    ap (λ (x : OpenType). octets_of (pool_in (counts_in octets) octets) x.identifier) (sym (open_type_is octets (counts_in octets) refl row.index row.row)) ∙ row.same

-- one that is before another has another identifier
apart : (octets : List ℕ) (types : Span) → Ascends (counts_in octets) octets types → (i j : ℕ) → types.start ≤ i → i < j → j < types.start + types.count
    → identifier_in (counts_in octets) octets i ≢ identifier_in (counts_in octets) octets j
apart octets types rises i j low less high =
    let list = identifier_in (counts_in octets) octets in
    let e : (j - 1) + 1 ≡ j = omega arith in
    let step = less_from (byte_order (list (j - 1)) (list ((j - 1) + 1))) (rises (j - 1) (omega arith) (omega arith)) in
    let last = subst (λ (n : ℕ). byte_order (list (j - 1)) (list n) ≡ Less) e step in
    differ_below (list i) (list j) (all_below list types.start (types.start + types.count) rises (j - 1) (list j) (omega arith) (omega arith) last i low (omega arith))

pub one_row : (octets : List ℕ) (c : Counts) (types : Span) (id : List ℕ) (o p : OpenType) → c ≡ counts_in octets → Ascends c octets types
    → ChoosesRow (types_in octets) types id o → ChoosesRow (types_in octets) types id p → p ≡ o
unfolding types_in
one_row octets c types id o p counted ascends a b =
    ⊎_elim (λ less. absurd (apart octets types rises a.index b.index a.part.0 less b.part.1 (identifier_of octets types id o a ∙ sym (identifier_of octets types id p b))))
    (λ over. ⊎_elim (λ less. absurd (apart octets types rises b.index a.index b.part.0 less a.part.1 (identifier_of octets types id p b ∙ sym (identifier_of octets types id o a)))) (λ under. same (omega arith)) (cases_lt b.index a.index))
    (cases_lt a.index b.index)
  where
    rises : Ascends (counts_in octets) octets types
    rises = subst (λ (k : Counts). Ascends k octets types) counted ascends

    same : b.index ≡ a.index → p ≡ o
    same e = let both : Some p ≡ Some o = sym b.row ∙ ap (slice_get (table_in octets).opens) e ∙ a.row in cc

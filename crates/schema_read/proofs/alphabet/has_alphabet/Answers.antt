use Rattle.std.proofs.Common.{◌≡◌, ◌∙◌, ℕ, slice_get, Some, ap, subst, ⊎_elim, arith}
use Rattle.std.proofs.lemmas.Bool.{cases_lt}
use Rattle.schema_types.specs.declared.limit.Limit.{Limit}
use Rattle.schema_types.proofs.TestLemmas.{refuted}
use Rattle.schema_types.proofs.TagLemmas.{same_row}
use Rattle.schema_read.specs.Types.{types_in}
use Rattle.schema_read.proofs.alphabet.has_alphabet.Goals as goal

pub loop-k-preserved : goal.loop-k-preserved
loop-k-preserved c = λ k m less is.
    ⊎_elim
    (λ before. c.loop-k.invariant k m before is)
    (λ here. let e : c.loop-k.k ≡ k = omega arith in
    let same = same_row (types_in c.args.schema.now.octets.now).limits k (subst (λ (x : ℕ). slice_get (types_in c.args.schema.now.octets.now).limits x ≡ Some c.limit_of.result) e c.limit_of.ensures) is.row in
    refuted c.is_alphabet.ensures c.if-is_alphabet.false (ap (λ (x : Limit). x.kind) same ∙ is.kind_is))
    (cases_lt k c.loop-k.k)

pub returns : goal.returns
returns c = λ _ k m is. c.loop-k.invariant k m (omega (arith, is.part.1)) is

use Rattle.std.proofs.Common.{◌≡◌, refl, sym, subst, arith, ⊎_elim}
use Rattle.std.proofs.lemmas.Bool.{cases_lt}
use Rattle.schema_types.proofs.TestLemmas.{refuted}
use Rattle.schema_read.specs.Types.{types_in}
use Rattle.schema_cursor.specs.Names.{IsNamed, IsField}
use Rattle.schema_cursor.proofs.ChildLemmas.{narrowed, after_first}
use Rattle.schema_cursor.proofs.CursorLemmas.{named_here, named_there}
use Rattle.schema_cursor.proofs.cursor.Cursor.child_named.Goals as goal

pub returns-then-is_named-clause-some : goal.returns-then-is_named-clause-some
returns-then-is_named-clause-some c =
    let index = c.moved-child.ensures.index_is in
    let named = named_here c.args.name.now c.moved-child.result.index c.moved-child.ensures (c.is_named.ensures.0 c.if-is_named.true) in (
      record { of = c.moved-child.ensures.of; index_is = refl },
      subst (IsField (types_in c.args.self.schema.now.octets.now) c.args.self.entries.now c.args.self.index c.args.name.now) (sym index) (record {
        is = record {
          child = c.loop-index.invariant.after c.in-Some.index c.in-Some.ensures.some.is;
          named = subst (IsNamed (types_in c.args.self.schema.now.octets.now) c.args.self.entries.now c.args.name.now) index named;
        };
        first = λ j less is. c.in-Some.ensures.some.first j less (narrowed is.child (omega (arith, c.loop-index.invariant.start)) (c.loop-index.invariant.before j is));
      }),
    )

pub loop-index-preserved : goal.loop-index-preserved
loop-index-preserved c = record {
  before = λ k is.
      let low = c.loop-index.invariant.before k is in
      ⊎_elim
      (λ less. absurd (c.in-Some.ensures.some.first k less (narrowed is.child (omega (arith, c.loop-index.invariant.start)) low)))
      (λ more. ⊎_elim (λ after. omega arith)
      (λ same. let e : k ≡ c.moved-child.result.index = omega (arith, c.moved-child.ensures.index_is) in
      absurd (refuted c.is_named.ensures c.if-is_named.false (subst (IsNamed (types_in c.moved-child.result.schema.now.octets.now) c.moved-child.result.entries.now c.args.name.now) e (named_there c.args.name.now k c.moved-child.ensures is.named))))
      (cases_lt c.in-Some.index k))
      (cases_lt k c.in-Some.index);
  after = λ k child. c.loop-index.invariant.after k (after_first c.in-Some.ensures.some child);
  start = omega (arith, c.loop-index.invariant.start, c.in-Some.ensures.some.is.after);
}

pub returns-clause-none : goal.returns-clause-none
returns-clause-none c = λ k is.
    c.in_default.ensures.none k (narrowed is.child (omega (arith, c.loop-index.invariant.start)) (c.loop-index.invariant.before k is))

use Rattle.std.proofs.Common.{arith, ◌≡◌, ℕ, ◌-◌, [], ◌∷◌, ◌++◌, ap, ◌∙◌, subst, replicate, OnOk}
use Rattle.std.proofs.lemmas.List.{replicate_more, length-replicate}
use Rattle.std.proofs.lemmas.Result.{err_from_is_err_and}
use Rattle.der.specs.Writer.{appended_state}
use Rattle.der.proofs.EncodeLemmas.{appended_twice, space_after}
use Rattle.test_fixtures.proofs.zeros.+write_zeros.Goals as goal

pub returns-clause-ok : goal.returns-clause-ok
returns-clause-ok g t c =
    let n : ℕ = c.args.count in
    let all : replicate (n - 1) 0 ++ 0 ∷ [] ≡ replicate n 0 = replicate_more (n - 1) 0 ∙ ap (λ k. replicate k 0) (omega (arith, c.if-count-eq0.false)) in
    subst (λ l. OnOk c.write_byte.result (g.W.Writer.state c.write_byte.new.self ≡ appended_state (g.W.Writer.state c.args.writer.now) l)) all
    (appended_twice (replicate (n - 1) 0) (0 ∷ []) _ _ _ _ c.in_ok-write_zeros.ensures.ok c.write_byte.ensures.ok)

pub returns-clause-succeeds : goal.returns-clause-succeeds
returns-clause-succeeds g t c alive space =
    let n : ℕ = c.args.count in
    let more = space_after (replicate (n - 1) 0) 1 _ _ c.in_ok-write_zeros.ensures.ok alive (omega (arith, space, length-replicate {A = ℕ} n 0, length-replicate {A = ℕ} (n - 1) 0, c.if-count-eq0.false)) in
    c.write_byte.ensures.succeeds more.0 more.1

pub returns-in_err-write_zeros-clause-succeeds : goal.returns-in_err-write_zeros-clause-succeeds
returns-in_err-write_zeros-clause-succeeds g t c alive space =
    let n : ℕ = c.args.count in
    let p = err_from_is_err_and c.from_residual.result c.from_residual.ensures.1 in
    rw (p.1) (c.in_err-write_zeros.ensures.succeeds alive (omega (arith, space, length-replicate {A = ℕ} n 0, length-replicate {A = ℕ} (n - 1) 0)))

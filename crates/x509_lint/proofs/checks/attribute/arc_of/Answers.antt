use Rattle.std.proofs.Common.{◌≡◌, [], ◌∷◌, slice_index_or, sym, ap, ◌∙◌, arith, length}
use Rattle.x509_lint.proofs.AttributeLemmas.{id_at_octets, three}
use Rattle.x509_lint.proofs.checks.attribute.arc_of.Goals as goal

pub returns-in-85-clause-some : goal.returns-in-85-clause-some
returns-in-85-clause-some c =
    let small = c.if-arc-lt128.true in
    let id = c.args.id.now in
    let long : length id ≡ 3 = omega arith in
    let first : slice_index_or id 0 0 ≡ 85 = omega arith in
    let second : slice_index_or id 1 0 ≡ 4 = omega arith in
    let same = three id long ∙ ap (λ x. x ∷ slice_index_or id 1 0 ∷ slice_index_or id 2 0 ∷ []) first ∙ ap (λ x. 85 ∷ x ∷ slice_index_or id 2 0 ∷ []) second in
    (small, same ∙ sym (id_at_octets (slice_index_or id 2 0) small))

pub returns-in_default-clause-none : goal.returns-in_default-clause-none
returns-in_default-clause-none c n h e = let same = e ∙ id_at_octets n h in let long : length c.args.id.now ≡ 3 = ap length same in omega (arith, long)

pub returns-in_default-2-clause-none : goal.returns-in_default-2-clause-none
returns-in_default-2-clause-none c n h e = let same = e ∙ id_at_octets n h in let third : slice_index_or c.args.id.now 2 0 ≡ n = ap (λ l. slice_index_or l 2 0) same in omega (arith, third)

pub returns-in_default-5-clause-none : goal.returns-in_default-5-clause-none
returns-in_default-5-clause-none c n h e = let same = e ∙ id_at_octets n h in let long : length c.args.id.now ≡ 3 = ap length same in omega (arith, long)

use Rattle.std.proofs.Common.{◌≡◌, ◌∙◌, ap, sym, subst, ℕ, List, [], ◌∷◌, ◌++◌, ◌+◌, ◌-◌, ◌/◌, ◌%◌, take, drop, arith}
use Rattle.schema_write.specs.SameBits.{HasFirstBits}
use Rattle.schema_write.proofs.BitsLemmas.{cut, first_bits}
use Rattle.schema_write.proofs.bits.first_bits.Goals as goal

pub returns : goal.returns
unfolding cut
returns c =
    let w = (c.args.count - 1) / 8 in
    let u = 7 - (c.args.count - 1) % 8 in
    let one : 1 + w - 1 ≡ w = omega arith in
    let octets = c.args.contents.now in
    let start = c.in_ok-push.ensures.items ∙ ap (λ l. l ++ u ∷ []) c.in_ok-out.ensures.items in
    let middle = c.in_ok-extend_from_slice.ensures.items ∙ ap (λ l. l ++ take (1 + w - 1) (drop 1 octets)) start ∙ ap (λ k. u ∷ take k (drop 1 octets)) one in
    let all = c.in_ok-push-2.ensures.items ∙ ap (λ l. l ++ c.without_low_bits.result ∷ []) middle ∙ ap (λ k. u ∷ take w (drop 1 octets) ++ k ∷ []) c.without_low_bits.ensures in
    subst (HasFirstBits c.args.count octets) (sym all) (first_bits octets c.args.count (omega (arith, c.if-count-eq0.false)) c.requires (λ i. omega (arith, c.type_inv.contents i)))

use Rattle.std.proofs.Common.{ℕ, refl, arith}
use Rattle.der_core.proofs.EncodeLemmas.{high_push}
use Rattle.der_c_values.proofs.OidContentsLemmas.{appended_after, no_space_after, no_space_before}
use Rattle.der_c_values.proofs.oid_contents.OidContents.+append_high.Goals as goal

pub returns-then-append_high-clause-there : goal.returns-then-append_high-clause-there
returns-then-append_high-clause-there t c there =
    let n : ℕ = c.args.number in
    appended_after _ _ _ _ _ (c.if-append_high.ensures.there refl) (high_push n (omega (arith, c.if-number-eq0.false))) (c.append_octet.ensures.there there)

pub returns-then-append_high-clause-full : goal.returns-then-append_high-clause-full
returns-then-append_high-clause-full t c full =
    let n : ℕ = c.args.number in
    no_space_after _ _ _ _ _ (c.if-append_high.ensures.there refl) (high_push n (omega (arith, c.if-number-eq0.false))) (c.append_octet.ensures.full full)

pub returns-else-append_high-clause-full : goal.returns-else-append_high-clause-full
returns-else-append_high-clause-full t c full =
    let n : ℕ = c.args.number in
    no_space_before _ _ _ _ (high_push n (omega (arith, c.if-number-eq0.false))) (c.append_high.ensures.full full)

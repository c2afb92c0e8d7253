use Rattle.std.proofs.Common.{ℕ, ◌*◌, ◌-◌, ◌^◌, ◌%◌, ◌∙◌, ap, subst, ◌≤◌}
use Rattle.std.specs.Int.Digits.{number_from_digits}
use Rattle.der_base.specs.Tag.{tag_octets}
use Rattle.der_core.proofs.TagOrderLemmas.{number_filled, tag_below}
use Rattle.der_core.proofs.tag.left_aligned.Goals as goal

pub returns-clause-number : goal.returns-clause-number
returns-clause-number c =
    let s = tag_octets c.args.tag in
    ap (λ (m : ℕ). m * 2 ^ (8 * (6 - c.octet_count.result)) % 2 ^ 64) c.octets_number.ensures
    ∙ ap (λ (k : ℕ). number_from_digits 256 s * 2 ^ (8 * (6 - k)) % 2 ^ 64) c.octet_count.ensures.octets
    ∙ number_filled s (tag_below c.args.tag) (subst (λ (k : ℕ). k ≤ 6) c.octet_count.ensures.octets c.octet_count.ensures.most)

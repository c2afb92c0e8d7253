use Rattle.std.proofs.Common.{◌≡◌, ℕ, suc, ◌-◌, ◌/◌, ◌%◌, ◌^◌, ◌≤◌, nat_eq, List, [], ◌∷◌, length, slice_index_or, refl, ap, ◌∙◌, arith}
use Rattle.der_asn1.specs.NamedBits.{ends_in_one}
use Rattle.der_asn1.proofs.strings.named_bits.ends_in_one.Goals as goal

last_one : (n : ℕ) (os : List ℕ) → 1 ≤ length os → nat_eq (slice_index_or os (length os - 1) 0 / 2 ^ n % 2) 1 ≡ ends_in_one n os
last_one n [] h = absurd (omega arith)
last_one n (o ∷ []) h = refl
last_one n (o ∷ p ∷ os) h =
    let e : length (o ∷ p ∷ os) - 1 ≡ suc (length (p ∷ os) - 1) = omega arith in
    ap (λ k. nat_eq (slice_index_or (o ∷ p ∷ os) k 0 / 2 ^ n % 2) 1) e ∙ last_one n (p ∷ os) (omega arith)

pub returns-in-len1-up : goal.returns-in-len1-up
returns-in-len1-up c = last_one c.args.number c.args.bits.now c.in-len1-up.len_at_least

use Rattle.std.proofs.Common.{◌≡◌, ℕ, zero, suc, ◌-◌, ◌*◌, ◌%◌, ◌^◌, ◌<◌, ◌≤◌, nat_eq, List, [], ◌∷◌, length, slice_index_or, refl, ap, ◌∙◌, arith}
use Rattle.der_asn1.specs.Forms.{has_low_zeros}
use Rattle.der_asn1.proofs.strings.bit_string.ends_in_zeros.Goals as goal

low_power : (u : ℕ) → u < 8 → 1 * 2 ^ u % 256 ≡ 2 ^ u
low_power zero h = refl
low_power (suc zero) h = refl
low_power (suc (suc zero)) h = refl
low_power (suc (suc (suc zero))) h = refl
low_power (suc (suc (suc (suc zero)))) h = refl
low_power (suc (suc (suc (suc (suc zero))))) h = refl
low_power (suc (suc (suc (suc (suc (suc zero)))))) h = refl
low_power (suc (suc (suc (suc (suc (suc (suc zero))))))) h = refl
low_power (suc (suc (suc (suc (suc (suc (suc (suc u)))))))) h = absurd (omega arith)

last_zeros : (n : ℕ) (os : List ℕ) → 1 ≤ length os → nat_eq (slice_index_or os (length os - 1) 0 % 2 ^ n) 0 ≡ has_low_zeros n os
last_zeros n [] h = absurd (omega arith)
last_zeros n (o ∷ []) h = refl
last_zeros n (o ∷ p ∷ os) h =
    let e : length (o ∷ p ∷ os) - 1 ≡ suc (length (p ∷ os) - 1) = omega arith in
    ap (λ k. nat_eq (slice_index_or (o ∷ p ∷ os) k 0 % 2 ^ n) 0) e ∙ last_zeros n (p ∷ os) (omega arith)

pub returns-in-len1-up : goal.returns-in-len1-up
returns-in-len1-up c =
    ap (λ k. nat_eq (slice_index_or c.args.bits.now (length c.args.bits.now - 1) 0 % k) 0) (low_power c.args.unused c.requires) ∙ last_zeros c.args.unused c.args.bits.now c.in-len1-up.len_at_least

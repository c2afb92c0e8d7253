-- The candidates of a pool.
use Rattle.std.proofs.Common.{◌≡◌, ◌↔◌, ◌⊎◌, ◌-◌, ◌<◌, ◌≤◌, ℕ, Bool, false, IsTrue, inl, inr, None, Some, get_or, length, slice_get, refl, sym, ap, ◌∙◌, if◌then◌else◌}
use Rattle.std.proofs.lemmas.Bool.{le-ltb, lt-ltb}
use Rattle.std.proofs.lemmas.Option.{slice_get_past, slice_get_read}
use Rattle.x509_build.specs.Pools.{inputs_at}
use Rattle.x509_build.specs.declared.pool.Pool.{Pool}
use Rattle.x509_path.specs.declared.inputs.Inputs.{Inputs}

-- a certificate is no trust anchor
pub no_inputs : (p : Pool) (c : ℕ) → c < length p.certificates.now → None ≡ inputs_at p c
unfolding inputs_at
no_inputs p c lt = ap (λ b. if b then None else slice_get p.anchors.now (c - length p.certificates.now)) (sym (lt-ltb c (length p.certificates.now) lt))

-- a trust anchor
pub inputs_here : (p : Pool) (c : ℕ) (i : Inputs) → length p.certificates.now ≤ c → c - length p.certificates.now < length p.anchors.now
    → i ≡ get_or p.anchors.now (c - length p.certificates.now) i → Some i ≡ inputs_at p c
unfolding inputs_at
inputs_here p c i le lt is =
    sym (slice_get_read p.anchors.now (length p.anchors.now) (c - length p.certificates.now) i refl lt is)
    ∙ ap (λ b. if b then None else slice_get p.anchors.now (c - length p.certificates.now)) (sym (le-ltb c (length p.certificates.now) le))

-- no candidate
pub inputs_past : (p : Pool) (c : ℕ) → length p.certificates.now ≤ c → length p.anchors.now ≤ c - length p.certificates.now → None ≡ inputs_at p c
unfolding inputs_at
inputs_past p c le past =
    sym (slice_get_past p.anchors.now (c - length p.certificates.now) past)
    ∙ ap (λ b. if b then None else slice_get p.anchors.now (c - length p.certificates.now)) (sym (le-ltb c (length p.certificates.now) le))

-- the second of two tests, after the first has failed
pub or_right : (A B : Type 0) (b r : Bool) → b ≡ false → (IsTrue b ↔ A) → (IsTrue r ↔ B) → IsTrue r ↔ (A ⊎ B)
or_right A B b r none first second = (λ h. inr (second.0 h), λ s. elim s [ inl a ↦ (let yes = first.1 a in absurd (cc)) | inr o ↦ second.1 o ])

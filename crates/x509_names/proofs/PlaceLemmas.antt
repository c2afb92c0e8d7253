-- Lemmas on the place of the last @.
use Rattle.std.proofs.Common.{◌≡◌, ◌↔◌, Bool, true, subst, drop, ◌+◌, ℕ, List, arith, inl, inr}
use Rattle.std.proofs.lemmas.Bool.{cases_lt}
use Rattle.x509_names.specs.Hosts.{IsHostWithin}
use Rattle.x509_names.specs.Mailboxes.{HasNoAt, IsLastAt, IsMailWithin, IsSameAt, MailboxesMatch}

pub same_place : (os : List ℕ) (n m : ℕ) → IsLastAt os n → IsLastAt os m → n ≡ m
same_place os n m a b =
    elim (cases_lt n m) [ inl less ↦ absurd (a.2 m less b.0 b.1) | inr more ↦ elim (cases_lt m n) [ inl less ↦ absurd (b.2 n less a.0 a.1) | inr other ↦ omega arith ] ]

pub matched : (os ps : List ℕ) (n m : ℕ) (b : Bool) → IsLastAt os n → IsLastAt ps m → (b ≡ true) ↔ IsSameAt os n ps m → (b ≡ true) ↔ MailboxesMatch os ps
matched os ps n m b first second h = (
  λ e. (n, m, first, second, h.0 e),
  λ s. h.1 (subst (λ k. IsSameAt os k ps m) (same_place os s.0 n s.2 first) (subst (λ k. IsSameAt os s.0 ps k) (same_place ps s.1 m s.3 second) s.4)),
)

-- a constraint without an @
pub within : (base name : List ℕ) (n : ℕ) (b : Bool) → HasNoAt base → IsLastAt name n → (b ≡ true) ↔ IsHostWithin base (drop (n + 1) name) → (b ≡ true) ↔ IsMailWithin base name
within base name n b none at h = (
  λ e. inr (none, (n, at, h.0 e)),
  λ w. elim w [
    | inl m ↦ absurd (none m.1 m.3.0 m.3.1)
    | inr s ↦ h.1 (subst (λ k. IsHostWithin base (drop (k + 1) name)) (same_place name s.1.0 n s.1.1 at) s.1.2)
  ],
)

-- what holds at the place of the last @
pub parted : (P : List ℕ → ℕ → Type 0) (os : List ℕ) (n : ℕ) (b : Bool) → IsLastAt os n → (b ≡ true) ↔ P os n → (b ≡ true) ↔ ((at : ℕ) × IsLastAt os at × P os at)
parted P os n b at h = (λ e. (n, at, h.0 e), λ m. h.1 (subst (P os) (same_place os m.0 n m.1 at) m.2))

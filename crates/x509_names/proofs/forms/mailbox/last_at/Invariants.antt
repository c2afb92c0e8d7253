use Rattle.std.proofs.Common.{◌≡◌, ◌≢◌, ℕ, ◌<◌, ◌≤◌, length, slice_index, MatchOption}
use Rattle.x509_names.proofs.forms.mailbox.last_at.Given as goal

abbrev pub invariant-loop-at : goal.invariant-loop-at
invariant-loop-at l =
    (l.at ≤ length l.octets) × MatchOption l.last ((k : ℕ) → k < l.at → slice_index l.octets k ≢ 64)
    (λ n. (n < l.at) × (slice_index l.octets n ≡ 64) × ((k : ℕ) → n < k → k < l.at → slice_index l.octets k ≢ 64))

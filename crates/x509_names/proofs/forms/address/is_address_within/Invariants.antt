use Rattle.std.proofs.Common.{◌≡◌, ◌+◌, ◌<◌, ℕ, length, slice_index, bit_and}
use Rattle.x509_names.proofs.forms.address.is_address_within.Given as goal

abbrev pub invariant-loop-at : goal.invariant-loop-at
invariant-loop-at l =
    (k : ℕ) → k < l.at
    → bit_and (slice_index l.name k) (slice_index l.base (k + length l.name)) ≡ bit_and (slice_index l.base k) (slice_index l.base (k + length l.name))

-- Owned byte strings: `owned_octets` are the octets of a `BytesOwned`.
use Rattle.std.specs.Prelude.{ℕ, List}
use Rattle.std.specs.Box.{boxed_slice_items}
use Rattle.der.specs.declared.bytes.owned.BytesOwned.{BytesOwned}

abbrev pub owned_octets : BytesOwned → List ℕ
owned_octets b = boxed_slice_items b.inner

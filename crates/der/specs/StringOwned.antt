-- Owned texts: `owned_text` are the octets of a `StringOwned`.
use Rattle.std.specs.Prelude.{ℕ, List}
use Rattle.std.specs.String.{string_bytes}
use Rattle.der.specs.declared.string.owned.StringOwned.{StringOwned}

abbrev pub owned_text : StringOwned → List ℕ
owned_text t = string_bytes t.inner
